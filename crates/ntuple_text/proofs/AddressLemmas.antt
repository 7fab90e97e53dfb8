-- Eight groups of 16 bits make a number of 128 bits.
use Rattle.std.proofs.Common.{◌≡◌, ℕ, ◌+◌, ◌*◌, ◌^◌, ◌<◌, ◌≤◌, List, [], ◌∷◌, length, take, get_or, ap, arith, zero, suc}
use Rattle.std.specs.Int.Digits.{number_from_digits, number_from_digits_after}
use Rattle.std.specs.List.{AllByRecursion}
use Rattle.std.proofs.lemmas.List.{length-take-le}
use Rattle.std.proofs.Math.Nat.{mul-le-mul_right, mul-le-mul_left, mul_assoc, pow-zero, pow-succ', pow-le-pow_right}

-- digits of 16 bits, in a base of no more
after-lt : (base n : ℕ) (groups : List ℕ) → base ≤ 65536 → AllByRecursion (λ group. group < 65536) groups → number_from_digits_after base n groups < (n + 1) * 65536 ^ length groups
after-lt base n [] h small = omega (arith, ap (λ x. (n + 1) * x) (pow-zero 65536))
after-lt base n (group ∷ groups) h small =
    let step : n * base + group + 1 ≤ (n + 1) * 65536 = omega (arith, mul-le-mul_left n h, small.0) in
    omega (arith, after-lt base (n * base + group) groups h small.1, mul-le-mul_right (65536 ^ length groups) step, mul_assoc (n + 1) 65536 (65536 ^ length groups), ap (λ x. (n + 1) * x) (pow-succ' 65536 (length groups)))

all-take : (groups : List ℕ) (i : ℕ) → ((k : ℕ) → get_or groups k 0 < 65536) → AllByRecursion (λ group. group < 65536) (take i groups)
all-take [] zero h = tt
all-take [] (suc i) h = tt
all-take (group ∷ groups) zero h = tt
all-take (group ∷ groups) (suc i) h = (h 0, all-take groups i (λ k. h (suc k)))

-- one more group still fits
pub joined-fits : (base i value : ℕ) (groups : List ℕ) → base ≤ 65536 → length groups ≤ 8 → ((k : ℕ) → get_or groups k 0 < 65536) → i < length groups → value ≡ number_from_digits base (take i groups) → value * base + get_or groups i 0 < 2 ^ 128
joined-fits base i value groups h few small inside is =
    let short : length (take i groups) ≤ 7 = omega (arith, length-take-le i groups (omega arith)) in
    let power : 65536 ^ length (take i groups) ≤ 65536 ^ 7 = pow-le-pow_right {n = 65536} (omega arith) short in
    let below : value < 65536 ^ 7 = omega (arith, is, power, after-lt base 0 (take i groups) h (all-take groups i small)) in
    omega (arith, below, mul-le-mul_left value h, small i)
