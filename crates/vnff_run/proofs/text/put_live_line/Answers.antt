use Rattle.vnff_base.proofs.Gathering.{gathers_after, gathers_lost, lost_before}
use Rattle.vnff_run.specs.LiveTexts.{live_line}
use Rattle.vnff_run.proofs.text.put_live_line.Goals as goal

pub returns-in_err-put : goal.returns-in_err-put
unfolding live_line
returns-in_err-put g c = gathers_lost _ _ _ c.from_residual.ensures.1 (lost_before c.in_err-put.ensures _)

pub returns-in_err-put_number : goal.returns-in_err-put_number
unfolding live_line
returns-in_err-put_number g c =
    gathers_after _ _ _ _ c.in_ok-put.ensures (gathers_lost _ _ _ c.from_residual-in_err-put_number.ensures.1 (lost_before c.in_err-put_number.ensures _))

pub returns-in_err-put-2 : goal.returns-in_err-put-2
unfolding live_line
returns-in_err-put-2 g c =
    gathers_after _ _ _ _ c.in_ok-put.ensures (gathers_after _ _ _ _ c.in_ok-put_number.ensures (gathers_lost _ _ _ c.from_residual-in_err-put-2.ensures.1 (lost_before c.in_err-put-2.ensures _)))

pub returns-in_err-put_number-2 : goal.returns-in_err-put_number-2
unfolding live_line
returns-in_err-put_number-2 g c =
    gathers_after _ _ _ _ c.in_ok-put.ensures (gathers_after _ _ _ _ c.in_ok-put_number.ensures (gathers_after _ _ _ _ c.in_ok-put-2.ensures
    (gathers_lost _ _ _ c.from_residual-in_err-put_number-2.ensures.1 (lost_before c.in_err-put_number-2.ensures _))))

pub returns-in_err-put-3 : goal.returns-in_err-put-3
unfolding live_line
returns-in_err-put-3 g c =
    gathers_after _ _ _ _ c.in_ok-put.ensures (gathers_after _ _ _ _ c.in_ok-put_number.ensures (gathers_after _ _ _ _ c.in_ok-put-2.ensures (gathers_after _ _ _ _ c.in_ok-put_number-2.ensures
    (gathers_lost _ _ _ c.from_residual-in_err-put-3.ensures.1 (lost_before c.in_err-put-3.ensures _)))))

pub returns-in_err-put_action : goal.returns-in_err-put_action
unfolding live_line
returns-in_err-put_action g c =
    gathers_after _ _ _ _ c.in_ok-put.ensures (gathers_after _ _ _ _ c.in_ok-put_number.ensures (gathers_after _ _ _ _ c.in_ok-put-2.ensures (gathers_after _ _ _ _ c.in_ok-put_number-2.ensures
    (gathers_after _ _ _ _ c.in_ok-put-3.ensures (gathers_lost _ _ _ c.from_residual-in_err-put_action.ensures.1 (lost_before c.in_err-put_action.ensures _))))))

pub returns : goal.returns
unfolding live_line
returns g c =
    gathers_after _ _ _ _ c.in_ok-put.ensures (gathers_after _ _ _ _ c.in_ok-put_number.ensures (gathers_after _ _ _ _ c.in_ok-put-2.ensures (gathers_after _ _ _ _ c.in_ok-put_number-2.ensures
    (gathers_after _ _ _ _ c.in_ok-put-3.ensures (gathers_after _ _ _ _ c.in_ok-put_action.ensures c.put-4.ensures)))))
