use Rattle.vnff_base.proofs.Writing.{writes_after, writes_stopped, stopped_before}
use Rattle.vnff_run.specs.Outcomes.{refusal_line}
use Rattle.vnff_run.proofs.ending.put_refusal.Goals as goal

pub returns-in_err-put : goal.returns-in_err-put
unfolding refusal_line
returns-in_err-put g c = writes_stopped _ _ c.from_residual.ensures.1 (stopped_before c.in_err-put.ensures _)

pub returns-in_err-put_refusal_words : goal.returns-in_err-put_refusal_words
unfolding refusal_line
returns-in_err-put_refusal_words g c =
    writes_after _ _ _ c.in_ok-put.ensures (writes_stopped _ _ c.from_residual-in_err-put_refusal_words.ensures.1 (stopped_before c.in_err-put_refusal_words.ensures _))

pub returns : goal.returns
unfolding refusal_line
returns g c = writes_after _ _ _ c.in_ok-put.ensures (writes_after _ _ _ c.in_ok-put_refusal_words.ensures c.put-2.ensures)
