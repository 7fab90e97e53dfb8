-- The commands among the items so far are kept, and the other items are still to come.
use Rattle.std.proofs.Common.{◌≡◌, ◌++◌}
use Rattle.std.specs.Vec.Iter.{into_iter_items}
use Rattle.vnff_run.specs.LiveRuns.{commands_in}
use Rattle.vnff_run.proofs.live_run.commands_in.Given as goal

abbrev pub invariant-loop-item : goal.invariant-loop-item
invariant-loop-item l = record {
  all : l.yielded ++ into_iter_items l.item-iterator ≡ l.fn.items;
  commands : l.commands ≡ commands_in l.yielded;
}
