-- Lists of rising numbers: each is told by how often every number stands in it.
use Rattle.std.proofs.Common.{◌≡◌, ◌≢◌, ℕ, suc, ◌+◌, ◌<◌, ◌≤◌, ◌==◌, cond, inl, inr, List, [], ◌∷◌, ◌++◌, length, get_or, refl, ap, subst, arith}
use Rattle.std.specs.List.{AllByRecursion}
use Rattle.std.specs.List.Sorted.{IsNonDecreasing}
use Rattle.std.proofs.lemmas.Bool.{cases_eq, eq-eqb, ne_eqb}
use Rattle.std.proofs.lemmas.List.Sums.{sum_by-cons, sum_by-append}
use Rattle.split_queue.specs.Pools.{times}

-- ---- how often a number stands in a list

abbrev pub here : ℕ → ℕ → ℕ
here number n = cond (n == number) 1 0

pub times-cons : (number n : ℕ) (numbers : List ℕ) → times number (n ∷ numbers) ≡ here number n + times number numbers
times-cons number n numbers = sum_by-cons (here number) n numbers

pub times-append : (number : ℕ) (front rest : List ℕ) → times number (front ++ rest) ≡ times number front + times number rest
times-append number front rest = sum_by-append (here number) front rest

pub here-same : (number : ℕ) → here number number ≡ 1
here-same number = rw (eq-eqb number number refl) refl

pub here-other : (number n : ℕ) → n ≢ number → here number n ≡ 0
here-other number n apart = rw (ne_eqb n number apart) refl

-- a number that isn't in a list is neither its first one nor in the rest
pub times-none : (number n : ℕ) (numbers : List ℕ) → times number (n ∷ numbers) ≡ 0
    → (n ≢ number) × (times number numbers ≡ 0)
times-none number n numbers none = (
  λ same. let first : here number n ≡ 1 = rw same (here-same number) in
      omega (arith, first, times-cons number n numbers, none),
  omega (arith, times-cons number n numbers, none),
)

-- what holds of all holds of each
all-of : (P : ℕ → Type 0) (number : ℕ) (numbers : List ℕ) → AllByRecursion P numbers → 0 < times number numbers → P number
all-of P number [] all some = absurd (omega arith)
all-of P number (n ∷ numbers) all some = elim (cases_eq n number) [
  | inl same ↦ subst P same all.0
  | inr apart ↦ all-of P number numbers all.1 (omega (arith, some, here-other number n apart, times-cons number n numbers))
]

pub times-above : (number : ℕ) (numbers : List ℕ) → AllByRecursion (λ n. number < n) numbers → times number numbers ≡ 0
times-above number [] all = refl
times-above number (n ∷ numbers) all =
    omega (arith, here-other number n (λ same. omega (arith, same, all.0)), times-cons number n numbers, times-above number numbers all.1)

-- ---- rising numbers

-- each is at most those behind it
abbrev pub Rises : List ℕ → Type 0
Rises [] = Unit {0}
Rises (n ∷ numbers) = AllByRecursion (λ later. n ≤ later) numbers × Rises numbers

all-from : (P : ℕ → Type 0) (numbers : List ℕ) → ((k : ℕ) → k < length numbers → P (get_or numbers k 0)) → AllByRecursion P numbers
all-from P [] each = tt
all-from P (n ∷ numbers) each = (each 0 (omega arith), all-from P numbers (λ k below. each (suc k) (omega arith)))

pub non_decreasing-rises : (numbers : List ℕ) → IsNonDecreasing numbers → Rises numbers
non_decreasing-rises [] sorted = tt
non_decreasing-rises (n ∷ numbers) sorted = (
  all-from (λ later. n ≤ later) numbers (λ k below. sorted 0 (suc k) 0 (omega arith) (omega arith)),
  non_decreasing-rises numbers (λ i j d up below. sorted (suc i) (suc j) d (omega arith) (omega arith)),
)

least : (n number : ℕ) (numbers : List ℕ) → AllByRecursion (λ later. n ≤ later) numbers → 0 < times number (n ∷ numbers) → n ≤ number
least n number numbers all some = elim (cases_eq n number) [
  | inl same ↦ omega (arith, same)
  | inr apart ↦ all-of (λ later. n ≤ later) number numbers all (omega (arith, some, here-other number n apart, times-cons number n numbers))
]

-- rising lists in which each number stands as often are one list
pub rises-same : (xs ys : List ℕ) → ((number : ℕ) → times number xs ≡ times number ys) → Rises xs → Rises ys → xs ≡ ys
rises-same [] [] same up_x up_y = refl
rises-same [] (y ∷ ys) same up_x up_y = absurd (omega (arith, same y, here-same y, times-cons y y ys))
rises-same (x ∷ xs) [] same up_x up_y = absurd (omega (arith, same x, here-same x, times-cons x x xs))
rises-same (x ∷ xs) (y ∷ ys) same up_x up_y =
    let below = least x y xs up_x.0 (omega (arith, same y, here-same y, times-cons y y ys)) in
    let above = least y x ys up_y.0 (omega (arith, same x, here-same x, times-cons x x xs)) in
    let first : x ≡ y = omega (arith, below, above) in
    let later = rises-same xs ys (λ number. let both : here number x ≡ here number y = ap (here number) first in
    omega (arith, same number, both, times-cons number x xs, times-cons number y ys)) up_x.1 up_y.1 in
    rw (first, later) refl
