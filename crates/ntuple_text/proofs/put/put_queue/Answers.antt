-- The word, and then the number.
use Rattle.vnff_base.proofs.Writing.{writes_after, writes_stopped, stopped_before}
use Rattle.ntuple_text.specs.SpecTexts.{queue_words}
use Rattle.ntuple_text.proofs.put.put_queue.Goals as goal

pub returns-in_err-put : goal.returns-in_err-put
unfolding queue_words
returns-in_err-put g c = writes_stopped _ _ c.from_residual.ensures.1 (stopped_before c.in_err-put.ensures _)

pub returns : goal.returns
unfolding queue_words
returns g c = rw c.from.ensures at (writes_after _ _ _ c.in_ok-put.ensures c.put_number.ensures)
