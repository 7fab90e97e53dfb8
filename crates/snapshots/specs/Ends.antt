-- The writing side of published tables as contracts see it. This project's own.
use Rattle.std.specs.Prelude.{List}
use Rattle.ff_headers.specs.declared.limits.Limits.{Limits}
use Rattle.ff_headers.specs.declared.change.Change.{Change}
use Rattle.snapshots.specs.Lists.{Identity, ToldList}

-- which tables they are, for which limits, and the changes that were published
pub record EndState : Type 0 where
  pub identity : Identity
  pub limits : Limits
  pub list : List Change

-- what is told of them
abbrev pub told_by : EndState → ToldList
told_by end = record { identity = end.identity; list = end.list }

-- the same tables, after these changes
abbrev pub with_list : EndState → List Change → EndState
with_list end list = record { identity = end.identity; limits = end.limits; list = list }
