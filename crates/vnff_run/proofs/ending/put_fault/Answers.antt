use Rattle.vnff_base.proofs.Writing.{stopped_before, writes_after, writes_stopped}
use Rattle.vnff_run.specs.Outcomes.{fault_words}
use Rattle.vnff_run.proofs.ending.put_fault.Goals as goal

pub returns-in_err-put : goal.returns-in_err-put
unfolding fault_words
returns-in_err-put g c =
    rw (← c.kind_word.ensures) (writes_stopped _ _ c.from_residual.ensures.1 (stopped_before c.in_err-put.ensures _))

pub returns-in_err-put-2 : goal.returns-in_err-put-2
unfolding fault_words
returns-in_err-put-2 g c =
    rw (← c.kind_word.ensures) (writes_after _ _ _ c.in_ok-put.ensures (writes_stopped _ _ c.from_residual-in_err-put-2.ensures.1 (stopped_before c.in_err-put-2.ensures _)))

pub returns-in_err-put_number : goal.returns-in_err-put_number
unfolding fault_words
returns-in_err-put_number g c =
    rw (← c.kind_word.ensures, ← c.from.ensures) (writes_after _ _ _ c.in_ok-put.ensures (writes_after _ _ _ c.in_ok-put-2.ensures (writes_stopped _ _ c.from_residual-in_err-put_number.ensures.1 (stopped_before c.in_err-put_number.ensures _))))

pub returns-in_err-put-3 : goal.returns-in_err-put-3
unfolding fault_words
returns-in_err-put-3 g c =
    rw (← c.kind_word.ensures, ← c.from.ensures) (writes_after _ _ _ c.in_ok-put.ensures (writes_after _ _ _ c.in_ok-put-2.ensures (writes_after _ _ _ c.in_ok-put_number.ensures (writes_stopped _ _ c.from_residual-in_err-put-3.ensures.1 (stopped_before c.in_err-put-3.ensures _)))))

pub returns : goal.returns
unfolding fault_words
returns g c =
    rw (← c.kind_word.ensures, ← c.from.ensures) (writes_after _ _ _ c.in_ok-put.ensures (writes_after _ _ _ c.in_ok-put-2.ensures (writes_after _ _ _ c.in_ok-put_number.ensures (writes_after _ _ _ c.in_ok-put-3.ensures c.put-4.ensures))))
