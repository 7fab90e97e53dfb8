-- Bytes under a mask as numbers, and the bytes of a number.
use Rattle.std.proofs.Common.{◌≡◌, ℕ, zero, suc, ◌+◌, ◌*◌, ◌/◌, ◌%◌, ◌^◌, ◌<◌, eqb, List, [], ◌∷◌, length, refl, sym, ap, ◌∙◌, arith, bit_and}
use Rattle.std.specs.Int.{byte_at, bytes_high_first}
use Rattle.std.specs.Cmp.Lexicographic.{pointwise}
use Rattle.std.proofs.Math.Nat.{mod-lt, pow-suc, div-one}
use Rattle.std.proofs.lemmas.Nat.{pow-add, and_block, and_le_r, mod-pow-add}
use Rattle.ff_headers.specs.Fields.{number}
use Rattle.ff_headers.specs.Matching.{masked}
use Rattle.ff_headers.proofs.FieldLemmas.{AreBytes, number_below}
use Rattle.ntuple_compile.proofs.JoinedNumbers.{block_same}

behind : (x : ℕ) (xs : List ℕ) → AreBytes (x ∷ xs) → AreBytes xs
behind x xs bytes k = bytes (suc k)

-- ---- the bytes of a number

bytes_as_bits : (k : ℕ) → 256 ^ k ≡ 2 ^ (8 * k)
bytes_as_bits zero = refl
bytes_as_bits (suc k) =
    let more : 8 * suc k ≡ 8 * k + 8 = omega arith in
    pow-suc 256 k ∙ ap (λ n. n * 256) (bytes_as_bits k) ∙ sym (ap (λ (n : ℕ). 2 ^ n) more ∙ pow-add 2 (8 * k) 8)

byte_is : (k n : ℕ) → byte_at k n ≡ n / 2 ^ (8 * k) % 2 ^ 8
byte_is zero n = sym (ap (λ m. m % 256) (div-one n))
byte_is (suc k) n = ap (λ m. n / m % 256) (bytes_as_bits (suc k))

pub length-bytes : (k n : ℕ) → length (bytes_high_first k n) ≡ k
length-bytes zero n = refl
length-bytes (suc k) n = ap suc (length-bytes k n)

pub bytes_are_bytes : (k n : ℕ) → AreBytes (bytes_high_first k n)
bytes_are_bytes zero n j = omega arith
bytes_are_bytes (suc k) n zero = rw (byte_is k n) (mod-lt (n / 2 ^ (8 * k)) (omega arith))
bytes_are_bytes (suc k) n (suc j) = bytes_are_bytes k n j

pub number-bytes : (k n : ℕ) → number (bytes_high_first k n) ≡ n % 2 ^ (8 * k)
number-bytes zero n = omega arith
number-bytes (suc k) n =
    let more : 8 + 8 * k ≡ 8 * suc k = omega arith in
    let split = mod-pow-add n 8 (8 * k) in
    rw (length-bytes k n, number-bytes k n, byte_is k n) (sym split ∙ ap (λ (m : ℕ). n % 2 ^ m) more)

-- ---- bytes under a mask

pub length-masked : (mask bytes : List ℕ) → length mask ≡ length bytes → length (masked mask bytes) ≡ length bytes
length-masked [] [] same = refl
length-masked [] (x ∷ xs) same = absurd (omega (arith, same))
length-masked (m ∷ mask) [] same = absurd (omega (arith, same))
length-masked (m ∷ mask) (x ∷ xs) same = ap suc (length-masked mask xs (omega (arith, same)))

pub masked_are_bytes : (mask bytes : List ℕ) → AreBytes mask → AreBytes (masked mask bytes)
masked_are_bytes [] [] mb k = omega arith
masked_are_bytes [] (x ∷ xs) mb k = omega arith
masked_are_bytes (m ∷ mask) [] mb k = omega arith
masked_are_bytes (m ∷ mask) (x ∷ xs) mb zero = omega (arith, and_le_r x m, mb 0)
masked_are_bytes (m ∷ mask) (x ∷ xs) mb (suc k) = masked_are_bytes mask xs (behind m mask mb) k

pub number-masked : (mask bytes : List ℕ) → length mask ≡ length bytes → AreBytes mask → AreBytes bytes → number (masked mask bytes) ≡ bit_and (number bytes) (number mask)
number-masked [] [] same mb xb = refl
number-masked [] (x ∷ xs) same mb xb = absurd (omega (arith, same))
number-masked (m ∷ mask) [] same mb xb = absurd (omega (arith, same))
number-masked (m ∷ mask) (x ∷ xs) same mb xb =
    let long : length mask ≡ length xs = omega (arith, same) in
    let mask_below = number_below mask (behind m mask mb) in
    let below : number mask < 2 ^ (8 * length xs) = rw (sym long) mask_below in
    let block = and_block (8 * length xs) x m (number xs) (number mask) (number_below xs (behind x xs xb)) below in
    let rest = number-masked mask xs long (behind m mask mb) (behind x xs xb) in
    rw (length-masked mask xs long, rest, long) (sym block)

pub same_bytes : (xs ys : List ℕ) → length xs ≡ length ys → AreBytes xs → AreBytes ys → pointwise eqb xs ys ≡ eqb (number xs) (number ys)
same_bytes [] [] same xb yb = refl
same_bytes [] (y ∷ ys) same xb yb = absurd (omega (arith, same))
same_bytes (x ∷ xs) [] same xb yb = absurd (omega (arith, same))
same_bytes (x ∷ xs) (y ∷ ys) same xb yb =
    let long : length xs ≡ length ys = omega (arith, same) in
    let ys_below = number_below ys (behind y ys yb) in
    let xs_below : number xs < 2 ^ (8 * length ys) = rw (sym long) (number_below xs (behind x xs xb)) in
    let block = block_same (8 * length ys) x y (number xs) (number ys) xs_below ys_below in
    rw (long, same_bytes xs ys long (behind x xs xb) (behind y ys yb)) (sym block)
