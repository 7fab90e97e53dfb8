-- What stands written after a further field.
use Rattle.std.proofs.Common.{◌≡◌, ℕ, zero, suc, ◌+◌, ◌-◌, ◌*◌, ◌/◌, ◌%◌, ◌^◌, ◌<◌, ◌≤◌, List, [], ◌∷◌, ◌++◌, length, get_or, take, drop, sym, ap, ◌∙◌, arith, subst}
use Rattle.std.specs.Int.{bytes_high_first, to_be_bytes, w128}
use Rattle.std.proofs.Math.Nat.{mod-lt, mod-eq_of_lt, add-mul, mul_assoc}
use Rattle.std.proofs.Math.Seq.{take-length}
use Rattle.std.proofs.lemmas.Nat.{pow_pos, pow-add, shr_split, field_of, mul-add-lt}
use Rattle.std.proofs.lemmas.List.{length-append, take_more, take_all}
use Rattle.std.specs.Cmp.Lexicographic.{bytes_decides}
use Rattle.std.proofs.lemmas.Bool.{eq-eqb}
use Rattle.ff_headers.specs.Fields.{number, fields_of}
use Rattle.ff_headers.specs.Kinds.{kind_size}
use Rattle.ff_headers.specs.declared.field.Field.{Field}
use Rattle.ff_headers.specs.declared.kind.Kind.{Kind}
use Rattle.ff_headers.proofs.FieldLemmas.{AreBytes, number-append}
use Rattle.ntuple_compile.specs.Written.{SpellsNumber}
use Rattle.ntuple_compile.specs.Selected.{joined_number}
use Rattle.ntuple_compile.proofs.JoinedNumbers.{EachFits, InRow, bits_of, bits_of_kind, fields_in_row, joined_number-cons, sized}
use Rattle.ntuple_compile.proofs.MaskedBytes.{length-bytes, bytes_are_bytes, number-bytes, same_bytes}
use Rattle.ntuple_compile.proofs.Bridge.{header_number}

-- the lowest bytes of a number
pub drop-bytes : (j k n : ℕ) → drop j (bytes_high_first (j + k) n) ≡ bytes_high_first k n
drop-bytes zero k n = ap (λ i. bytes_high_first i n) (omega arith)
drop-bytes (suc j) k n =
    let more : suc j + k ≡ suc (j + k) = omega arith in
    ap (λ i. drop (suc j) (bytes_high_first i n)) more ∙ drop-bytes j k n

pub last_bytes : (count n : ℕ) → count ≤ 16 → take (16 - (16 - count)) (drop (16 - count) (to_be_bytes w128 n)) ≡ bytes_high_first count n
last_bytes count n few =
    let all : 16 ≡ 16 - count + count = omega (arith, few) in
    let last : drop (16 - count) (to_be_bytes w128 n) ≡ bytes_high_first count n = ap (λ i. drop (16 - count) (bytes_high_first i n)) all ∙ drop-bytes (16 - count) count n in
    let size : 16 - (16 - count) ≡ length (bytes_high_first count n) = omega (arith, few, length-bytes count n) in
    ap (λ (xs : List ℕ). take (16 - (16 - count)) xs) last ∙ ap (λ i. take i (bytes_high_first count n)) size ∙ take-length (bytes_high_first count n)

are_bytes-append : (xs ys : List ℕ) → AreBytes xs → AreBytes ys → AreBytes (xs ++ ys)
are_bytes-append [] ys xb yb k = yb k
are_bytes-append (x ∷ xs) ys xb yb zero = xb 0
are_bytes-append (x ∷ xs) ys xb yb (suc k) = are_bytes-append xs ys (λ i. xb (suc i)) yb k

-- x bits before a number of b bits
regroup : (n p rest b v : ℕ) → (n * p + rest) * b + v ≡ n * (p * b) + (rest * b + v)
regroup n p rest b v = let e = add-mul (n * p) rest b in let a = mul_assoc n p b in omega arith

pub all_fits : (at bits rest value : ℕ) → rest < 2 ^ at → value < 2 ^ bits → rest * 2 ^ bits + value < 2 ^ (at + bits)
all_fits at bits rest value rs vs =
    let swap : at + bits ≡ bits + at = omega arith in
    rw (ap (λ (k : ℕ). 2 ^ k) swap ∙ pow-add 2 bits at) (mul-add-lt rest (2 ^ bits) value (2 ^ at) rs vs)

-- bytes and the bits behind them, after more bits
pub put_more : (first bits n value : ℕ) (bytes : List ℕ) (rest : ℕ) → value < 2 ^ bits → SpellsNumber first n bytes rest → let count = first % 8 + bits in let all = rest * 2 ^ bits + value in SpellsNumber (first + bits) (n * 2 ^ bits + value) (bytes ++ bytes_high_first (count / 8) (all / 2 ^ (count % 8))) (all % 2 ^ (count % 8))
put_more first bits n value bytes rest vs h =
    let count = first % 8 + bits in
    let all = rest * 2 ^ bits + value in
    let k = count / 8 in
    let r = count % 8 in
    let more = bytes_high_first k (all / 2 ^ r) in
    let same_rest : (first + bits) % 8 ≡ r = omega arith in
    let parts : 8 * k + r ≡ count = omega arith in
    let below : all < 2 ^ (8 * k + r) = rw parts (all_fits (first % 8) bits rest value h.small vs) in
    let top : all / 2 ^ r % 2 ^ (8 * k) ≡ all / 2 ^ r = sym (field_of all (8 * k) r) ∙ ap (λ m. m / 2 ^ r) (mod-eq_of_lt below) in
    let of_more : number more ≡ all / 2 ^ r = number-bytes k (all / 2 ^ r) ∙ top in
    let joined_number : number (bytes ++ more) ≡ number bytes * 2 ^ (8 * k) + all / 2 ^ r = number-append bytes more ∙ ap (λ m. number bytes * 2 ^ (8 * m) + number more) (length-bytes k (all / 2 ^ r)) ∙ ap (λ m. number bytes * 2 ^ (8 * k) + m) of_more in
    let spread : (number bytes * 2 ^ (8 * k) + all / 2 ^ r) * 2 ^ r + all % 2 ^ r ≡ number bytes * (2 ^ (8 * k) * 2 ^ r) + (all / 2 ^ r * 2 ^ r + all % 2 ^ r) = regroup (number bytes) (2 ^ (8 * k)) (all / 2 ^ r) (2 ^ r) (all % 2 ^ r) in
    let power : 2 ^ (8 * k) * 2 ^ r ≡ 2 ^ (first % 8) * 2 ^ bits = sym (pow-add 2 (8 * k) r) ∙ ap (λ (m : ℕ). 2 ^ m) parts ∙ pow-add 2 (first % 8) bits in
    let whole : all / 2 ^ r * 2 ^ r + all % 2 ^ r ≡ all = shr_split all r in
    let back : number bytes * (2 ^ (first % 8) * 2 ^ bits) + all ≡ n * 2 ^ bits + value = sym (regroup (number bytes) (2 ^ (first % 8)) rest (2 ^ bits) value) ∙ ap (λ m. m * 2 ^ bits + value) h.spelled in
    record {
      spelled = ap (λ m. number (bytes ++ more) * 2 ^ m + all % 2 ^ r) same_rest ∙ ap (λ m. m * 2 ^ r + all % 2 ^ r) joined_number ∙ spread ∙ ap (λ m. number bytes * m + (all / 2 ^ r * 2 ^ r + all % 2 ^ r)) power ∙ ap (λ m. number bytes * (2 ^ (first % 8) * 2 ^ bits) + m) whole ∙ back;
      size = omega (arith, length-append bytes more, length-bytes k (all / 2 ^ r), h.size);
      small = rw same_rest (mod-lt all (pow_pos r));
      are_bytes = are_bytes-append bytes more h.are_bytes (bytes_are_bytes k (all / 2 ^ r));
    }

-- ---- all fields of a header

bits_of-append : (xs : List Field) (f : Field) → bits_of (xs ++ f ∷ []) ≡ bits_of xs + f.bits
bits_of-append [] f = omega arith
bits_of-append (x ∷ xs) f = omega (arith, bits_of-append xs f)

joined_number-append : (value : Field → ℕ) (xs : List Field) (f : Field) → joined_number (sized value (xs ++ f ∷ [])) ≡ joined_number (sized value xs) * 2 ^ f.bits + value f
joined_number-append value [] f = omega arith
joined_number-append value (x ∷ xs) f =
    let wide : 2 ^ bits_of (xs ++ f ∷ []) ≡ 2 ^ bits_of xs * 2 ^ f.bits = ap (λ (k : ℕ). 2 ^ k) (bits_of-append xs f) ∙ pow-add 2 (bits_of xs) f.bits in
    let sides = regroup (value x) (2 ^ bits_of xs) (joined_number (sized value xs)) (2 ^ f.bits) (value f) in
    rw (joined_number-cons value x (xs ++ f ∷ []), joined_number-cons value x xs, wide, joined_number-append value xs f) (sym sides)

-- what the fields in front of a place have, written
abbrev pub Written : (Field → ℕ) → List Field → ℕ → List ℕ → ℕ → Type 0
Written value fields i bytes rest = SpellsNumber (bits_of (take i fields)) (joined_number (sized value (take i fields))) bytes rest

pub none_written : (value : Field → ℕ) (fields : List Field) → Written value fields 0 [] 0
none_written value fields = record { spelled = omega arith; size = omega arith; small = omega arith; are_bytes = λ k. omega arith }

-- one field more
pub next_written : (value : Field → ℕ) (fields : List Field) (i : ℕ) (d : Field) (bytes more : List ℕ) (rest last : ℕ) → i < length fields → (get_or fields i d).first ≡ bits_of (take i fields) → ((n : ℕ) → SpellsNumber (get_or fields i d).first n bytes rest → SpellsNumber ((get_or fields i d).first + (get_or fields i d).bits) (n * 2 ^ (get_or fields i d).bits + value (get_or fields i d)) more last) → Written value fields i bytes rest → Written value fields (i + 1) more last
next_written value fields i d bytes more rest last inside at puts h =
    let f = get_or fields i d in
    let front = take i fields in
    let n = joined_number (sized value front) in
    let put = puts n (subst (λ k. SpellsNumber k n bytes rest) (sym at) h) in
    let one = take_more fields i d inside in
    let bits : f.first + f.bits ≡ bits_of (take (i + 1) fields) = ap (λ k. k + f.bits) at ∙ sym (bits_of-append front f) ∙ ap bits_of (sym one) in
    let all : n * 2 ^ f.bits + value f ≡ joined_number (sized value (take (i + 1) fields)) = sym (joined_number-append value front f) ∙ ap (λ xs. joined_number (sized value xs)) (sym one) in
    subst (λ k. SpellsNumber k (joined_number (sized value (take (i + 1) fields))) more last) bits (subst (λ m. SpellsNumber (f.first + f.bits) m more last) all put)

-- a field begins where those in front of it end
pub field_begins : (kind : Kind) (i : ℕ) (d : Field) → i < length (fields_of kind) → (get_or (fields_of kind) i d).first ≡ bits_of (take i (fields_of kind))
field_begins kind i d inside = omega (arith, begins 0 (fields_of kind) (fields_in_row kind) i inside) where
  begins : (at : ℕ) (fields : List Field) → InRow at fields (8 * kind_size kind) → (i : ℕ) → i < length fields → (get_or fields i d).first ≡ at + bits_of (take i fields)
  begins at [] row i inside = absurd (omega (arith, inside))
  begins at (f ∷ fields) row zero inside = omega (arith, row.0)
  begins at (f ∷ fields) row (suc i) inside = omega (arith, begins (at + f.bits) fields row.1 i (omega (arith, inside)))

same_list : (xs ys : List ℕ) → length xs ≡ length ys → AreBytes xs → AreBytes ys → number xs ≡ number ys → xs ≡ ys
same_list xs ys long xb yb same = (bytes_decides xs ys).0 (same_bytes xs ys long xb yb ∙ eq-eqb (number xs) (number ys) same)

-- all fields
pub all_written : (kind : Kind) (value : Field → ℕ) (i : ℕ) (bytes : List ℕ) (rest : ℕ) → EachFits value (fields_of kind) → length (fields_of kind) ≤ i → Written value (fields_of kind) i bytes rest → bytes ≡ bytes_high_first (kind_size kind) (joined_number (sized value (fields_of kind)))
all_written kind value i bytes rest fit past h =
    let n = joined_number (sized value (fields_of kind)) in
    let whole : take i (fields_of kind) ≡ fields_of kind = take_all i (fields_of kind) past in
    let all : SpellsNumber (8 * kind_size kind) n bytes rest = subst (λ k. SpellsNumber k n bytes rest) (bits_of_kind kind) (subst (λ xs. SpellsNumber (bits_of xs) (joined_number (sized value xs)) bytes rest) whole h) in
    let even : 8 * kind_size kind % 8 ≡ 0 = omega arith in
    let small : rest < 2 ^ 0 = subst (λ (k : ℕ). rest < 2 ^ k) even all.small in
    let spelled : number bytes * 2 ^ 0 + rest ≡ n = subst (λ (k : ℕ). number bytes * 2 ^ k + rest ≡ n) even all.spelled in
    let size : length bytes ≡ kind_size kind = omega (arith, all.size) in
    let same : number bytes ≡ n = omega (arith, spelled, small) in
    same_list bytes (bytes_high_first (kind_size kind) n) (size ∙ sym (length-bytes (kind_size kind) n)) all.are_bytes (bytes_are_bytes (kind_size kind) n) (same ∙ sym (header_number kind value fit))
