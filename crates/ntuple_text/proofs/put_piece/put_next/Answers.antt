-- The separator, and then the piece.
use Rattle.vnff_base.proofs.Writing.{writes_after, writes_stopped, stopped_before}
use Rattle.ntuple_text.proofs.put_piece.put_next.Goals as goal

pub returns-in_err-put : goal.returns-in_err-put
returns-in_err-put g c = writes_stopped _ _ c.from_residual.ensures.1 (stopped_before c.in_err-put.ensures _)

pub returns : goal.returns
returns g c = writes_after _ _ _ c.in_ok-put.ensures c.put_piece.ensures
