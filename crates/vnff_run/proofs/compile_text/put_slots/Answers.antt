-- Each item is written after those before it.
use Rattle.std.proofs.Common.{arith, refl, None}
use Rattle.vnff_base.proofs.Writing.{wrote_item, stopped_item, writes_stopped}
use Rattle.vnff_run.specs.Programs.{slot_line}
use Rattle.vnff_run.proofs.compile_text.put_slots.Goals as goal

pub returns-in_err-put_slot : goal.returns-in_err-put_slot
returns-in_err-put_slot g c =
    writes_stopped _ _ c.from_residual.ensures.1 (stopped_item slot_line c.args.slots.now c.loop-slot.slot-index None _ (omega arith) refl c.loop-slot.invariant c.in_err-put_slot.ensures)

pub loop-slot-preserved : goal.loop-slot-preserved
loop-slot-preserved g c =
    wrote_item slot_line c.args.slots.now c.loop-slot.slot-index None _ (omega arith) refl c.loop-slot.invariant c.in_ok-put_slot.ensures
