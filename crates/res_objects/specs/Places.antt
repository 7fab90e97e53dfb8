-- Places in a sorted index of ids. This project's own.
use Rattle.std.specs.Prelude.{◌≡◌, ℕ, ◌<◌, ◌≤◌, ◌^◌, List, length, slice_index_or}
use Rattle.std.specs.List.{AllByRecursion}
use Rattle.std.specs.List.Sorted.{IsStrictlySortedBy}
use Rattle.std.specs.Map.{keys_of}
use Rattle.std.specs.Ordering.{nat_cmp}

-- the invariant of an index: its ids rise strictly, and each is one of 32 bits
pub record IsIdIndex (index : List (ℕ × ℕ)) : Type 0 where
  pub ordered : IsStrictlySortedBy nat_cmp (keys_of index)
  pub small : AllByRecursion (λ id. id < 2 ^ 32) (keys_of index)

-- the id at a place
abbrev pub id_at : List (ℕ × ℕ) → ℕ → ℕ
id_at index place = let entry = slice_index_or index place (0, 0) in entry.0

-- the entry at the place has the id, and lesser ones stand before it
pub record IsAt (index : List (ℕ × ℕ)) (id place : ℕ) : Type 0 where
  pub in_range : place < length index
  pub has_id : id_at index place ≡ id
  pub lesser_before : (k : ℕ) → k < place → id_at index k < id

-- the id would go to the place: lesser ids before it, and greater ones from it on
pub record IsGapFor (index : List (ℕ × ℕ)) (id place : ℕ) : Type 0 where
  pub in_range : place ≤ length index
  pub lesser_before : (k : ℕ) → k < place → id_at index k < id
  pub greater_after : (k : ℕ) → place ≤ k → k < length index → id < id_at index k
