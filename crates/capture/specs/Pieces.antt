-- How a list of byte lists is kept: the bytes of all, one list after another, and the places at which each begins and
-- ends. This project's own.
use Rattle.std.specs.Prelude.{◌≡◌, ℕ, ◌+◌, ◌-◌, ◌<◌, ◌≤◌, List, [], ◌∷◌, length, slice_index, slice_range}

-- the pieces of a list between each of the places and the next one
abbrev pub pieces : List ℕ → List ℕ → List (List ℕ)
pieces bytes (from ∷ to ∷ places) = slice_range bytes from to ∷ pieces bytes (to ∷ places)
pieces bytes _ = []

-- The places never fall, and the last one is the end of the bytes.
pub record ArePlaces (bytes places : List ℕ) : Type 0 where
  pub some : 0 < length places
  pub rise : (k : ℕ) → k + 1 < length places → slice_index places k ≤ slice_index places (k + 1)
  pub within : (k : ℕ) → k < length places → slice_index places k ≤ length bytes
  pub last : slice_index places (length places - 1) ≡ length bytes
