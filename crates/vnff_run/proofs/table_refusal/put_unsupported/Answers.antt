use Rattle.vnff_base.proofs.Writing.{stopped_before, writes_after, writes_stopped}
use Rattle.vnff_run.specs.TableRefusals.{unsupported_words}
use Rattle.vnff_run.proofs.table_refusal.put_unsupported.Goals as goal

pub returns-in_err-put : goal.returns-in_err-put
unfolding unsupported_words
returns-in_err-put g c = writes_stopped _ _ c.from_residual.ensures.1 (stopped_before c.in_err-put.ensures _)

pub returns-in_err-put_number : goal.returns-in_err-put_number
unfolding unsupported_words
returns-in_err-put_number g c =
    rw (← c.from.ensures) (writes_after _ _ _ c.in_ok-put.ensures (writes_stopped _ _ c.from_residual-in_err-put_number.ensures.1 (stopped_before c.in_err-put_number.ensures _)))

pub returns-in_err-put-2 : goal.returns-in_err-put-2
unfolding unsupported_words
returns-in_err-put-2 g c =
    rw (← c.from.ensures) (writes_after _ _ _ c.in_ok-put.ensures (writes_after _ _ _ c.in_ok-put_number.ensures (writes_stopped _ _ c.from_residual-in_err-put-2.ensures.1 (stopped_before c.in_err-put-2.ensures _))))

pub returns : goal.returns
unfolding unsupported_words
returns g c =
    rw (← c.from.ensures, ← c.header_word.ensures) (writes_after _ _ _ c.in_ok-put.ensures (writes_after _ _ _ c.in_ok-put_number.ensures (writes_after _ _ _ c.in_ok-put-2.ensures c.put-3.ensures)))
