-- Each item is written after those before it.
use Rattle.std.proofs.Common.{arith, refl}
use Rattle.vnff_base.proofs.Writing.{wrote_item, stopped_item, writes_stopped}
use Rattle.vnff_run.specs.Programs.{spaced_number}
use Rattle.vnff_run.proofs.compile_text.put_numbers.Goals as goal

pub returns-in_err-put_next_number : goal.returns-in_err-put_next_number
returns-in_err-put_next_number g c =
    writes_stopped _ _ c.from_residual.ensures.1 (stopped_item spaced_number c.args.numbers.now c.loop-number.number-index _ _ (omega arith) refl c.loop-number.invariant c.in_err-put_next_number.ensures)

pub loop-number-preserved : goal.loop-number-preserved
loop-number-preserved g c =
    wrote_item spaced_number c.args.numbers.now c.loop-number.number-index _ _ (omega arith) refl c.loop-number.invariant c.in_ok-put_next_number.ensures
