-- A field's number is in the bytes that it touches, and the mask rule's test is what it stands for.
use Rattle.std.proofs.Common.{◌≡◌, ℕ, zero, suc, ◌+◌, ◌-◌, ◌*◌, ◌/◌, ◌%◌, ◌^◌, ◌<◌, ◌≤◌, Bool, true, false, cond, eqb, List, [], ◌∷◌, ◌++◌, length, get_or, take, drop, Decides, refl, sym, ap, ◌∙◌, ◌⊎◌, subst, arith, bit_and}
use Rattle.std.specs.Prelude.{IsTrue, ◌↔◌}
use Rattle.std.specs.List.{zip, list_all}
use Rattle.std.proofs.Math.Nat.{mul_assoc, add-mul, mul-add-div_right, mul-add-mod_self_right, pow-le-pow_right}
use Rattle.std.proofs.lemmas.Nat.{pow_pos, pow-add, shr-shr, shr_high, mul-add-lt}
use Rattle.std.proofs.lemmas.Bool.Decides.{nat_tests, Decides-eqb, Decides-or, Decides-by_and, Decides-like}
use Rattle.std.proofs.lemmas.List.{length-append, length-take-le, length-drop, take-append-drop, take_more}
use Rattle.std.proofs.lemmas.List.Elements.{All-get_or, All-from_get_or}
use Rattle.std.proofs.lemmas.Slice.Zip.{get_or-zip, length-zip}
use Rattle.ff_headers.specs.SelectorParts.{SelectorParts}
use Rattle.ff_headers.specs.Fields.{number, value_at, fields_of, is_partial, has_bits, keeps_field, is_allowed, HasBits, KeepsFields, IsAllowed}
use Rattle.ff_headers.specs.declared.kind.Kind.{Kind}
use Rattle.ff_headers.specs.declared.field.Field.{Field}

-- ---- the number of joined bytes

-- each is a byte
abbrev pub AreBytes : List ℕ → Type 0
AreBytes bytes = (k : ℕ) → get_or bytes k 0 < 256

regroup : (x a b n m : ℕ) → x * (a * b) + (n * b + m) ≡ (x * a + n) * b + m
regroup x a b n m = let p = add-mul (x * a) n b in let q = mul_assoc x a b in omega arith

pub number-append : (xs ys : List ℕ) → number (xs ++ ys) ≡ number xs * 2 ^ (8 * length ys) + number ys
number-append [] ys = omega arith
number-append (x ∷ xs) ys =
    let long : 8 * length (xs ++ ys) ≡ 8 * length xs + 8 * length ys = omega (arith, length-append xs ys) in
    let power : 2 ^ (8 * length (xs ++ ys)) ≡ 2 ^ (8 * length xs) * 2 ^ (8 * length ys) = ap (λ (k : ℕ). 2 ^ k) long ∙ pow-add 2 (8 * length xs) (8 * length ys) in
    rw (power, number-append xs ys) (regroup x (2 ^ (8 * length xs)) (2 ^ (8 * length ys)) (number xs) (number ys))

later : (x : ℕ) (xs : List ℕ) → AreBytes (x ∷ xs) → AreBytes xs
later x xs h k = h (suc k)

pub number_below : (xs : List ℕ) → AreBytes xs → number xs < 2 ^ (8 * length xs)
number_below [] h = omega arith
number_below (x ∷ xs) h =
    let power : 2 ^ (8 * suc (length xs)) ≡ 2 ^ (8 * length xs) * 2 ^ 8 = ap (λ (k : ℕ). 2 ^ k) (omega arith) ∙ pow-add 2 (8 * length xs) 8 in
    let byte : x < 2 ^ 8 = h 0 in
    rw power (mul-add-lt x (2 ^ (8 * length xs)) (number xs) (2 ^ 8) byte (number_below xs (later x xs h)))

-- one byte more
pub number_more : (xs : List ℕ) (i : ℕ) → i < length xs → number (take (i + 1) xs) ≡ number (take i xs) * 256 + get_or xs i 0
number_more xs i inside =
    ap number (take_more xs i 0 inside) ∙ number-append (take i xs) (get_or xs i 0 ∷ []) ∙ omega arith

pub are_bytes-take : (i : ℕ) (xs : List ℕ) → AreBytes xs → AreBytes (take i xs)
are_bytes-take zero xs h k = omega arith
are_bytes-take (suc i) [] h k = omega arith
are_bytes-take (suc i) (x ∷ xs) h zero = h 0
are_bytes-take (suc i) (x ∷ xs) h (suc k) = are_bytes-take i xs (later x xs h) k

-- 16 bytes fill 128 bits
pub number_fits : (xs : List ℕ) (i : ℕ) → AreBytes xs → length xs ≤ 16 → i < length xs → number (take i xs) * 256 + get_or xs i 0 < 2 ^ 128
number_fits xs i bytes short inside =
    let long = length-take-le (i + 1) xs (omega arith) in
    let most : 2 ^ (8 * length (take (i + 1) xs)) ≤ 2 ^ 128 = pow-le-pow_right (omega arith) {j = 128} (omega arith) in
    let below = number_below (take (i + 1) xs) (are_bytes-take (i + 1) xs bytes) in
    let sum = number_more xs i inside in
    omega arith

-- ---- a field in the bytes that it touches

-- so many bits of a number with others before and behind them
middle : (front mid back behind k bits before : ℕ) → back < 2 ^ behind → (front * 2 ^ (before + bits + k + behind) + (mid * 2 ^ behind + back)) / 2 ^ (behind + k) % 2 ^ bits ≡ mid / 2 ^ k % 2 ^ bits
middle front mid back behind k bits before below =
    let high = pow-add 2 (before + bits + k) behind in
    let join : front * 2 ^ (before + bits + k + behind) + (mid * 2 ^ behind + back) ≡ (front * 2 ^ (before + bits + k) + mid) * 2 ^ behind + back = rw high (regroup front (2 ^ (before + bits + k)) (2 ^ behind) mid back) in
    let shifted : front * 2 ^ (before + bits + k) ≡ front * 2 ^ (before + bits) * 2 ^ k = ap (λ n. front * n) (pow-add 2 (before + bits) k) ∙ sym (mul_assoc front (2 ^ (before + bits)) (2 ^ k)) in
    let above : front * 2 ^ (before + bits) ≡ front * 2 ^ before * 2 ^ bits = ap (λ n. front * n) (pow-add 2 before bits) ∙ sym (mul_assoc front (2 ^ before) (2 ^ bits)) in
    rw join (
    rw (← shr-shr ((front * 2 ^ (before + bits + k) + mid) * 2 ^ behind + back) behind k) (
    rw (shr_high (front * 2 ^ (before + bits + k) + mid) behind back below) (
    rw shifted (
    rw (mul-add-div_right (pow_pos k) (front * 2 ^ (before + bits)) mid) (
    rw above (mul-add-mod_self_right (front * 2 ^ before) (2 ^ bits) (mid / 2 ^ k)))))))

pub are_bytes-drop : (i : ℕ) (xs : List ℕ) → AreBytes xs → AreBytes (drop i xs)
are_bytes-drop zero xs h = h
are_bytes-drop (suc i) [] h = h
are_bytes-drop (suc i) (x ∷ xs) h = are_bytes-drop i xs (later x xs h)

-- a field is so many bits of the bytes that it touches: `span` of them from `start` on, `end` bits of which are the field's
-- and those in front of it
pub field_in : (f : Field) (header : List ℕ) (start end span : ℕ) → AreBytes header → f.first + f.bits ≡ 8 * start + end → f.bits ≤ end → end ≤ 8 * span → start + span ≤ length header → number (take span (drop start header)) / 2 ^ (8 * span - end) % 2 ^ f.bits ≡ value_at f header
field_in f header start end span bytes at inside fits within =
    let rest = drop start header in
    let behind = drop span rest in
    let left = length-drop start header in
    let room : span ≤ length rest = omega arith in
    let long = length-take-le span rest room in
    let tail = length-drop span rest in
    let parts : header ≡ take start header ++ (take span rest ++ behind) = sym (ap (λ (xs : List ℕ). take start header ++ xs) (take-append-drop span rest) ∙ take-append-drop start header) in
    let joined : number header ≡ number (take start header) * 2 ^ (8 * length (take span rest ++ behind)) + (number (take span rest) * 2 ^ (8 * length behind) + number behind) =
    ap number parts ∙ number-append (take start header) (take span rest ++ behind) ∙ ap (λ n. number (take start header) * 2 ^ (8 * length (take span rest ++ behind)) + n) (number-append (take span rest) behind) in
    let both = length-append (take span rest) behind in
    let wide : 8 * length (take span rest ++ behind) ≡ (end - f.bits) + f.bits + (8 * span - end) + 8 * length behind = omega arith in
    let low : 8 * length header - (f.first + f.bits) ≡ 8 * length behind + (8 * span - end) = omega arith in
    sym (rw (low, joined, wide) (middle (number (take start header)) (number (take span rest)) (number behind) (8 * length behind) (8 * span - end) f.bits (end - f.bits) (number_below behind (are_bytes-drop span rest (are_bytes-drop start header bytes)))))

-- ---- the mask rule

bits_decide : (have want : List ℕ) → length have ≡ length want → Decides (has_bits have want) (HasBits have want)
bits_decide have want same =
    let p = λ (e : ℕ × ℕ). eqb (bit_and e.0 e.1) e.1 in
    let P = λ (e : ℕ × ℕ). bit_and e.0 e.1 ≡ e.1 in
    let long = length-zip have want in
    let each = Decides-by_and p P (list_all p) (λ e. Decides-eqb (bit_and e.0 e.1) e.1) refl (λ _ _. refl) (zip have want) in
    Decides-like _ (λ h j inside. subst P (get_or-zip have want j (0, 0) (omega arith) inside) (All-get_or P (zip have want) j (0, 0) (omega arith) h))
    (λ h. All-from_get_or P (zip have want) (0, 0) (λ j inside. subst P (sym (get_or-zip have want j (0, 0) (omega arith) (omega arith))) (h j (omega arith)))) each

fields_decide : (kind : Kind) (have want : List ℕ) → Decides (list_all (keeps_field have want) (fields_of kind)) (KeepsFields kind have want)
fields_decide kind have want =
    let p = keeps_field have want in
    let P = λ (f : Field). (value_at f want ≡ 0) ⊎ (value_at f want ≡ value_at f have) in
    Decides-by_and p P (list_all p) (λ f. Decides-or _ _ (Decides-eqb (value_at f want) 0) (Decides-eqb (value_at f want) (value_at f have))) refl (λ _ _. refl) (fields_of kind)

-- of a test and two facts, each of which a test decides
by_flag : (flag : ℕ) (a b : Bool) (A B : Type 0) → Decides a A → Decides b B → Decides (cond (eqb (flag % 2) 1) a b) ((flag % 2 ≡ 1 → A) × (flag % 2 ≡ 0 → B))
by_flag flag a b A B da db = by_test (eqb (flag % 2) 1) refl where
  by_test : (t : Bool) → eqb (flag % 2) 1 ≡ t → Decides (cond t a b) ((flag % 2 ≡ 1 → A) × (flag % 2 ≡ 0 → B))
  by_test true is =
      let one : flag % 2 ≡ 1 = grind (arith, nat_tests) in
      (λ h. (λ _. da.0 h, λ none. absurd (omega arith)), λ h. da.1 (h.0 one))
  by_test false is =
      let apart : flag % 2 ≡ 1 → ⊥ = (λ e. absurd (grind (arith, nat_tests))) in
      let none : flag % 2 ≡ 0 = omega arith in
      (λ h. (λ one. absurd (apart one), λ _. db.0 h), λ h. db.1 (h.1 none))

pub allowed_means : (have want : SelectorParts) (answer : Bool) → length have.mask ≡ length want.mask → answer ≡ is_allowed have want → IsTrue answer ↔ IsAllowed have want
unfolding is_allowed
allowed_means have want answer same is =
    let d = by_flag have.flags (has_bits have.mask want.mask) (list_all (keeps_field have.mask want.mask) (fields_of have.kind)) (HasBits have.mask want.mask) (KeepsFields have.kind have.mask want.mask) (bits_decide have.mask want.mask same) (fields_decide have.kind have.mask want.mask) in
    rw is (λ h. let r = d.0 h in record { by_bits = r.0; by_fields = r.1 }, λ h. d.1 (h.by_bits, h.by_fields))

pub allowed_by_bits : (have want : SelectorParts) → is_partial have ≡ true → has_bits have.mask want.mask ≡ is_allowed have want
unfolding is_allowed
allowed_by_bits have want partial = rw partial refl

pub allowed_by_fields : (have want : SelectorParts) → is_partial have ≡ false → list_all (keeps_field have.mask want.mask) (fields_of have.kind) ≡ is_allowed have want
unfolding is_allowed
allowed_by_fields have want whole = rw whole refl
