-- A place is free or taken.
use Rattle.std.proofs.Common.{◌-◌, arith, sym, ap, ◌∙◌, not}
use Rattle.ntuple_text.proofs.TableLemmas.{free-here, taken-here}
use Rattle.ntuple_text.proofs.table.last_free.Goals as goal

pub returns-then-is_none-clause-value : goal.returns-then-is_none-clause-value
returns-then-is_none-clause-value c =
    sym (free-here c.args.slots.now (c.loop-end.end - 1) c.loop-end.end (omega arith) (omega arith) c.loop-end.invariant.same (c.is_none.ensures ∙ ap not c.if-is_none.true))

pub loop-end-preserved : goal.loop-end-preserved
loop-end-preserved c = record {
  same = taken-here c.args.slots.now (c.loop-end.end - 1) c.loop-end.end (omega arith) (omega arith) c.loop-end.invariant.same (c.is_none.ensures ∙ ap not c.if-is_none.false);
  inside = omega arith;
}
