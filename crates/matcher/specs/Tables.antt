-- Tables of rules as contracts see them. This project's own.
use Rattle.std.specs.Prelude.{ℕ}
use Rattle.ff_headers.specs.Objects.{FlowObjects, no_objects}
use Rattle.ff_headers.specs.Changes.{step, count_after}
use Rattle.ff_headers.specs.declared.limits.Limits.{Limits}
use Rattle.ff_headers.specs.declared.change.Change.{Change}

-- the limits for which there is room, the objects that are held, and how many changes were made
pub record TableState : Type 0 where
  pub limits : Limits
  pub objects : FlowObjects
  pub count : ℕ

-- the tables of these
abbrev pub tables_with : Limits → FlowObjects → ℕ → TableState
tables_with l o n = record { limits = l; objects = o; count = n }

-- tables to which no change was made
abbrev pub no_changes : Limits → TableState
no_changes limits = tables_with limits no_objects 0

-- the tables after one more change
abbrev pub applied : TableState → Change → TableState
applied tables change =
    tables_with tables.limits (step tables.limits tables.objects change) (count_after tables.count change)
