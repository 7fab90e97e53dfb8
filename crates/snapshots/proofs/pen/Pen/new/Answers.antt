use Rattle.std.proofs.Common.{sym, refl, subst}
use Rattle.snapshots.specs.Lists.{ClosesLast}
use Rattle.snapshots.proofs.Closing.{closes_last_nil}
use Rattle.snapshots.proofs.pen.Pen.new.Goals as goal

pub open-seen-requires : goal.open-seen-requires
open-seen-requires c = (record { words = refl; closes_last = closes_last_nil }, λ xs. tt, c.alone.ensures.1)

pub invariant_of-result : goal.invariant_of-result
invariant_of-result c = let e = c.open-seen.ensures.1 in record {
  counted = rw e;
  closes_last = subst ClosesLast (sym e) closes_last_nil;
}
