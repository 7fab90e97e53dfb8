use Rattle.matcher.specs.Rows.{moved_so_far}
use Rattle.matcher.specs.Indexes.{IsRowIndex}
use Rattle.matcher.proofs.index.RowIndex.move_group.Given as goal

abbrev pub invariant-loop-at : goal.invariant-loop-at
invariant-loop-at l = IsRowIndex l.store.limits (moved_so_far l.store.objects l.group l.priority l.at) l.self
