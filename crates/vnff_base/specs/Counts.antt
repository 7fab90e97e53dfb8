-- Counts of 64 bits that stand still at their last value, as those of failures and of bytes given.
use Rattle.std.specs.Prelude.{ℕ, ◌+◌, ◌-◌, ◌^◌, ◌≤◌, min}

-- a count after so many more: it stands still at 2^64 - 1
abbrev pub count_with : ℕ → ℕ → ℕ
count_with count more = min (count + more) (2 ^ 64 - 1)

-- A count rose in a call: it is greater at the call's end, or stands at its last value.
abbrev pub Rose : ℕ → ℕ → Type 0
Rose before now = count_with before 1 ≤ now
