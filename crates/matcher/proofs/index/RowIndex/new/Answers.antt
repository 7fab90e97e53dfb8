use Rattle.std.proofs.Common.{arith}
use Rattle.matcher.proofs.IndexLemmas.{none_kept}
use Rattle.matcher.proofs.index.RowIndex.new.Goals as goal

pub returns : goal.returns
returns c = record {
  rows = rw (c.in_ok-with_capacity.ensures.items, c.in_ok-with_capacity-2.ensures.items) none_kept;
  rows_room = let e = c.in_ok-with_capacity-2.ensures.exact in omega arith;
  shapes_room = let e = c.in_ok-with_capacity.ensures.exact in omega arith;
}
