-- Worked examples of the definitions.
use Rattle.std.proofs.Common.{◌≡◌, ℕ, ◌-◌, ◌^◌, ◌<◌, ◌≤◌, ◌⊎◌, List, [], ◌∷◌, None, Some, codes, refl, arith}
use Rattle.vnff_base.specs.Counts.{count_with, Rose}
use Rattle.vnff_base.specs.MemShelves.{NamedFile, file_named}
use Rattle.vnff_base.specs.Outputs.{told_after}

-- A count goes on, and stands still at its last value.
five : count_with 3 2 ≡ 5
five = refl

last : count_with 18446744073709551614 7 ≡ 18446744073709551615
last = refl

-- Rising, in plain words: greater than before, or at the last value.
pub Rose-cases : (before now : ℕ) → Rose before now → (before < now) ⊎ (2 ^ 64 - 1 ≤ now)
Rose-cases before now rose = grind arith

pub Rose-from_cases : (before now : ℕ) → (before < now) ⊎ (2 ^ 64 - 1 ≤ now) → Rose before now
Rose-from_cases before now rose = grind arith

-- The newest file of a name is the one that is read.
two_files : List NamedFile
two_files = record { name = codes "a"; bytes = 2 ∷ [] } ∷ record { name = codes "a"; bytes = 1 ∷ [] } ∷ []

newest : file_named two_files (codes "a") ≡ Some (2 ∷ [])
unfolding two_files
newest = refl

absent : file_named two_files (codes "b") ≡ None
unfolding two_files
absent = refl

-- An output that tells its bytes tells what was appended; one that tells none still tells none.
appended : told_after (Some (1 ∷ [])) (2 ∷ 3 ∷ []) ≡ Some (1 ∷ 2 ∷ 3 ∷ [])
appended = refl

untold : told_after None (2 ∷ 3 ∷ []) ≡ None
untold = refl
