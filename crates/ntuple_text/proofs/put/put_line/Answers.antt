-- The line, and then its line feed.
use Rattle.vnff_base.proofs.Writing.{writes_after, writes_stopped, stopped_before}
use Rattle.ntuple_text.proofs.put.put_line.Goals as goal

pub returns-in_err-put_spec : goal.returns-in_err-put_spec
returns-in_err-put_spec g c = writes_stopped _ _ c.from_residual.ensures.1 (stopped_before c.in_err-put_spec.ensures.written _)

pub returns : goal.returns
returns g c = writes_after _ _ _ c.in_ok-put_spec.ensures.written c.put.ensures
