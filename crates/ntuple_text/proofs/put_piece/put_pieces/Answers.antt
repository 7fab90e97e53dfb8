-- The first piece, and then the others.
use Rattle.vnff_base.proofs.Writing.{writes_after, writes_stopped, stopped_before}
use Rattle.ntuple_text.proofs.put_piece.put_pieces.Goals as goal

pub returns-in_err-put_piece : goal.returns-in_err-put_piece
returns-in_err-put_piece g c = writes_stopped _ _ c.from_residual.ensures.1 (stopped_before c.in_err-put_piece.ensures _)

pub returns : goal.returns
returns g c = writes_after _ _ _ c.in_ok-put_piece.ensures c.put_rest.ensures
