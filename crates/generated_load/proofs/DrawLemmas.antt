-- Values that are drawn one after another.
use Rattle.std.proofs.Common.{◌≡◌, ℕ, zero, suc, ◌+◌, ◌<◌, List, [], ◌∷◌, ◌++◌, length, refl, ap, arith}
use Rattle.std.specs.List.{AllByRecursion}
use Rattle.std.proofs.lemmas.List.{length-append}
use Rattle.std.proofs.Math.Nat.{mod-lt}
use Rattle.generated_load.specs.Draws.{draw, each_drawn, with_next}

-- a number is below its bound
pub draw-below : (x m : ℕ) → 0 < m → (draw x m).1 < m
unfolding draw
draw-below x m some = mod-lt _ some

-- one more value
pub each_drawn-more : {A : Type 0} (one : ℕ → ℕ → ℕ × A) (count x : ℕ) → each_drawn one (count + 1) x ≡ with_next one count (each_drawn one count x)
each_drawn-more one count x = ap (λ n. each_drawn one n x) (let e : count + 1 ≡ suc count = omega arith in e)

-- as many values as were asked for
pub each_drawn-length : {A : Type 0} (one : ℕ → ℕ → ℕ × A) (count x : ℕ) → length (each_drawn one count x).1 ≡ count
each_drawn-length one zero x = refl
each_drawn-length one (suc count) x =
    let before = each_drawn one count x in
    omega (arith, length-append before.1 ((one count before.0).1 ∷ []), each_drawn-length one count x)

all_more : {A : Type 0} (P : A → Type 0) (xs : List A) (x : A) → AllByRecursion P xs → P x → AllByRecursion P (xs ++ x ∷ [])
all_more P [] x all one = (one, tt)
all_more P (y ∷ ys) x all one = (all.0, all_more P ys x all.1 one)

-- what holds of a value whatever its place and the state before it holds of all of them
pub each_drawn-all : {A : Type 0} (P : A → Type 0) (one : ℕ → ℕ → ℕ × A) → ((place x : ℕ) → P (one place x).1) → (count x : ℕ) → AllByRecursion P (each_drawn one count x).1
each_drawn-all P one holds zero x = tt
each_drawn-all P one holds (suc count) x =
    let before = each_drawn one count x in
    all_more P before.1 (one count before.0).1 (each_drawn-all P one holds count x) (holds count before.0)
