-- A table of specs, as contracts see it: a finite map from the locations. This project's own.
use Rattle.std.specs.Prelude.{ℕ, ◌+◌, if◌then◌else◌, Option, Some, None, is_some}
use Rattle.std.specs.Prelude.{List, [], ◌∷◌, replicate, slice_index_or, slice_set, count_by}
use Rattle.ntuple_text.specs.declared.spec.Spec.{Spec}

-- how many locations a table has: they are those from 0 to 1023
abbrev pub location_count : ℕ
location_count = 1024

-- the most queue pairs that a table is for
abbrev pub most_pairs : ℕ
most_pairs = 16

-- the queue pairs that the table's queues are below, and what stands at each of its locations, from 0 up
pub record TableMap : Type 0 where
  pub pairs : ℕ
  pub slots : List (Option Spec)

-- so many free locations
unfoldable pub free_slots : ℕ → List (Option Spec)
free_slots count = replicate count None

-- a table without a spec
abbrev pub empty_table : ℕ → TableMap
empty_table pairs = record { pairs = pairs; slots = free_slots location_count }

-- the spec at a location; none stands above the last one
abbrev pub spec_at : TableMap → ℕ → Option Spec
spec_at table loc = slice_index_or table.slots loc None

-- how many specs there are
abbrev pub spec_count : TableMap → ℕ
spec_count table = count_by is_some table.slots

-- the table with the spec at its location, in the place of the one that stood there
abbrev pub with_spec : TableMap → Spec → TableMap
with_spec table spec = record table { slots = slice_set table.slots spec.loc (Some spec) }

-- the table without the spec at a location
abbrev pub without_spec : TableMap → ℕ → TableMap
without_spec table loc = record table { slots = slice_set table.slots loc None }

-- the largest free place of a list, by that of its rest
abbrev pub later_free : Option Spec → Option ℕ → Option ℕ
later_free slot (Some place) = Some (place + 1)
later_free slot None = if is_some slot then None else Some 0

-- the largest place that is free
abbrev pub last_free : List (Option Spec) → Option ℕ
last_free [] = None
last_free (slot ∷ slots) = later_free slot (last_free slots)
