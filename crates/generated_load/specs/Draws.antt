-- Numbers that are drawn one after another from a state of 64 bits, this project's own: a linear congruential generator
-- modulo 2^64, of which the low bits of a state are left out, since they repeat early.
use Rattle.std.specs.Prelude.{ℕ, zero, suc, ◌+◌, ◌*◌, ◌/◌, ◌%◌, ◌^◌, List, [], ◌∷◌, ◌++◌}

-- the state after one draw. Multiplier and increment are those of Knuth's MMIX.
unfoldable pub stepped : ℕ → ℕ
stepped x = (x * 6364136223846793005 + 1442695040888963407) % 2 ^ 64

-- a draw below m: the state after it, and the number, which leaves out the 33 low bits
unfoldable pub draw : ℕ → ℕ → ℕ × ℕ
draw x m = (stepped x, stepped x / 2 ^ 33 % m)

-- one more value behind those that are drawn, for the place behind theirs
abbrev pub with_next : {A : Type 0} → (ℕ → ℕ → ℕ × A) → ℕ → ℕ × List A → ℕ × List A
with_next one place before = let next = one place before.0 in (next.0, before.1 ++ next.1 ∷ [])

-- so many values, drawn one after another for the places from 0 on: the state after them, and the values. Of a value
-- `one` says which it is, by its place and the state before it.
abbrev pub each_drawn : {A : Type 0} → (ℕ → ℕ → ℕ × A) → ℕ → ℕ → ℕ × List A
each_drawn one zero x = (x, [])
each_drawn one (suc count) x = with_next one count (each_drawn one count x)
