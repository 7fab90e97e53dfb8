-- One more free place stands at the end.
use Rattle.std.proofs.Common.{arith, ap, sym, ◌∙◌, None, ◌++◌, ◌∷◌, []}
use Rattle.ntuple_text.proofs.TableLemmas.{free_slots-none, free_slots-more}
use Rattle.ntuple_text.proofs.table.free_slots.Goals as goal

pub loop-init : goal.loop-init
loop-init c = record {
  free = c.in_ok-slots.ensures.items ∙ sym free_slots-none;
  len = omega (arith, c.in_ok-slots.ensures.len);
  room = omega (arith, c.in_ok-slots.ensures.exact);
}

pub loop-preserved : goal.loop-preserved
loop-preserved c = record {
  free = c.push_reserved.ensures.items ∙ (ap (λ slots. slots ++ None ∷ []) c.loop.invariant.free ∙ sym (free_slots-more c.loop.counter));
  len = omega (arith, c.push_reserved.ensures.len, c.loop.invariant.len);
  room = omega (arith, c.push_reserved.ensures.capacity, c.loop.invariant.room);
}
