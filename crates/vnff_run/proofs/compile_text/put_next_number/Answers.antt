use Rattle.vnff_base.proofs.Writing.{stopped_before, writes_after, writes_stopped}
use Rattle.vnff_run.proofs.compile_text.put_next_number.Goals as goal

pub returns-in_err-put : goal.returns-in_err-put
returns-in_err-put g c = writes_stopped _ _ c.from_residual.ensures.1 (stopped_before c.in_err-put.ensures _)

pub returns : goal.returns
returns g c = rw (← c.from.ensures) (writes_after _ _ _ c.in_ok-put.ensures c.put_number.ensures)
