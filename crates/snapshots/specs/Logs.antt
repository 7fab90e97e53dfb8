-- A worker's log in memory. This project's own.
use Rattle.std.specs.Prelude.{◌≡◌, ℕ, ◌+◌, ◌≤◌, List, [], Option, Some, None, Vec, vec_len, vec_capacity}
use Rattle.snapshots.specs.declared.seen.Seen.{Seen}

module _ {A : Type 0} where
  -- what was logged; before any room was made that is nothing
  abbrev pub items_of : Option (Vec Seen A) → List Seen
  items_of None = []
  items_of (Some log) = log.items

  -- there is room for so many reads more
  abbrev pub Fits : Option (Vec Seen A) → ℕ → Type 0
  Fits None spare = spare ≡ 0
  Fits (Some log) spare = vec_len log + spare ≤ vec_capacity log
