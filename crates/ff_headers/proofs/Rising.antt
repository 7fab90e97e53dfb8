-- The test that types rise strictly decides it.
use Rattle.std.proofs.Common.{◌≡◌, ℕ, suc, zero, ◌+◌, ◌<◌, Bool, true, false, List, [], ◌∷◌, length, get_or, ltb, refl, sym, ap, subst, arith}
use Rattle.std.specs.List.{IsAllAdjacentAnswer}
use Rattle.std.specs.List.Sorted.{IsStrictlyIncreasing}
use Rattle.std.proofs.lemmas.Bool.Decides.{nat_tests}
use Rattle.std.proofs.lemmas.List.{get_or-map}
use Rattle.ff_headers.specs.Kinds.{kind_code}
use Rattle.ff_headers.specs.SelectorParts.{SelectorParts, blank_selector}
use Rattle.ff_headers.specs.Shapes.{codes_of, rises}

is_false : (b : Bool) → (b ≡ true → ⊥) → b ≡ false
is_false true h = absurd (h refl)
is_false false h = refl

tail_rises : (x : ℕ) (xs : List ℕ) → IsStrictlyIncreasing (x ∷ xs) → IsStrictlyIncreasing xs
tail_rises x xs h =
    λ k l. let e : suc k + 1 ≡ suc (k + 1) = omega arith in
    subst (λ (n : ℕ). get_or xs k 0 < get_or (x ∷ xs) n 0) e (h (suc k) (omega arith))

cons_rises : (x y : ℕ) (ys : List ℕ) → x < y → IsStrictlyIncreasing (y ∷ ys) → IsStrictlyIncreasing (x ∷ y ∷ ys)
cons_rises x y ys here there zero l = here
cons_rises x y ys here there (suc k) l =
    let e : suc (k + 1) ≡ suc k + 1 = omega arith in
    subst (λ (n : ℕ). get_or (y ∷ ys) k 0 < get_or (x ∷ y ∷ ys) n 0) e (there k (omega arith))

pub rises-from_increasing : (xs : List ℕ) → IsStrictlyIncreasing xs → rises xs ≡ true
rises-from_increasing [] h = refl
rises-from_increasing (x ∷ []) h = refl
rises-from_increasing (x ∷ y ∷ ys) h =
    let here : x < y = h 0 (omega arith) in
    let there : rises (y ∷ ys) ≡ true = rises-from_increasing (y ∷ ys) (tail_rises x (y ∷ ys) h) in
    grind (arith, nat_tests)

-- what `rises` says of a list of two or more
pub rises_parts : (x y : ℕ) (ys : List ℕ) → rises (x ∷ y ∷ ys) ≡ true → (x < y) × (rises (y ∷ ys) ≡ true)
rises_parts x y ys h = grind (arith, nat_tests)

pub increasing_from_rises : (xs : List ℕ) → rises xs ≡ true → IsStrictlyIncreasing xs
increasing_from_rises [] h = λ k l. absurd (omega arith)
increasing_from_rises (x ∷ []) h = λ k l. absurd (omega arith)
increasing_from_rises (x ∷ y ∷ ys) h =
    let p = rises_parts x y ys h in
    cons_rises x y ys p.0 (increasing_from_rises (y ∷ ys) p.1)

-- the types at a place, as numbers
code_at : (list : List SelectorParts) (k : ℕ) → k < length list → get_or (codes_of list) k 0 ≡ kind_code (get_or list k blank_selector).kind
code_at list k l = get_or-map (λ s. kind_code s.kind) list k blank_selector 0 l

-- there are as many types as selectors
long_codes : (list : List SelectorParts) → length (codes_of list) ≡ length list
long_codes [] = refl
long_codes (s ∷ ss) = ap suc (long_codes ss)

-- `is_sorted_by` on the types of the selectors
pub rises-from_answer : (list : List SelectorParts) (r : Bool) → IsAllAdjacentAnswer (λ x y b. b ≡ ltb (kind_code x.kind) (kind_code y.kind)) list r → r ≡ rises (codes_of list)
rises-from_answer list true h =
    sym (rises-from_increasing (codes_of list) (λ k l.
    let inside : k + 1 < length list = omega (arith, long_codes list) in
    let a = code_at list k (omega arith) in
    let b = code_at list (k + 1) inside in
    let t = h k blank_selector inside in
    grind (arith, nat_tests)))
rises-from_answer list false h =
    let inside = h.1 in
    let long = long_codes list in
    let a = code_at list h.0 (omega arith) in
    let b = code_at list (h.0 + 1) inside in
    let t = h.2 blank_selector in
    sym (is_false (rises (codes_of list)) (λ e. let lt = increasing_from_rises (codes_of list) e h.0 (omega arith) in absurd (grind (arith, nat_tests))))
