-- The rule that the published copy and the seats of its readers and writer keep, and what their steps tell. This
-- project's own.
use Rattle.std.specs.Prelude.{◌≡◌, ℕ, List, fold, Option, Some}
use mathlib.Core.Option.{some}
use lib.ListN.{get_elem?}
use Rattle.ff_headers.specs.declared.limits.Limits.{Limits}
use Rattle.ff_headers.specs.declared.change.Change.{Change}
use Rattle.matcher.specs.Tables.{TableState, no_changes, applied}
use Rattle.snapshots.specs.Lists.{ToldList, with_more}
use Rattle.snapshots.specs.declared.copied.Copied.{Copied}

-- tables after a list of changes
abbrev pub tables_after : Limits → List Change → TableState
tables_after limits list = fold applied (no_changes limits) list

-- a copy for these limits that stands for this list
abbrev pub copy_of : Limits → ToldList → Copied
copy_of limits told = record { tables = tables_after limits told.list; trail = told }

-- two copies of the same tables
pub record IsSame (a b : Copied) : Type 0 where
  pub identity : a.trail.identity ≡ b.trail.identity
  pub limits : a.tables.limits ≡ b.tables.limits

-- the published copy stands for its list, and each seat that knows tables knows these
pub record IsShared (shown : Copied) (seats : List (Option Copied)) : Type 0 where
  pub stands : shown ≡ copy_of shown.tables.limits shown.trail
  pub known : (seat : ℕ) (copied : Copied) → get_elem? seats seat ≡ some (Some copied) → IsSame copied shown

-- the writer's seat knows what it published last
abbrev pub Shows : Option Copied → Copied → Copied → Option Copied → Type 0
Shows seat before shown later = later ≡ Some shown

-- a reader enters a copy that stands for its list; its seat knew these tables, and stays
pub record Enters (seat : Option Copied) (before shown : Copied) (later : Option Copied) : Type 0 where
  pub stands : shown ≡ copy_of shown.tables.limits shown.trail
  pub known : (copied : Copied) → seat ≡ Some copied → IsSame copied shown
  pub kept : later ≡ seat

-- a copy stands for its list, and the trail is that list with one more change
pub record MayShow (shown : Copied) (change : Change) (trail : ToldList) : Type 0 where
  pub stands : shown ≡ copy_of shown.tables.limits shown.trail
  pub longer : trail ≡ with_more shown.trail change
