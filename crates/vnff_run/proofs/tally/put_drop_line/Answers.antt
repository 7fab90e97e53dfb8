use Rattle.vnff_base.proofs.Gathering.{gathers_after, gathers_lost, lost_before}
use Rattle.vnff_run.specs.Steering.{drop_line}
use Rattle.vnff_run.proofs.tally.put_drop_line.Goals as goal

pub returns-in_err-put : goal.returns-in_err-put
unfolding drop_line
returns-in_err-put g c = gathers_lost _ _ _ c.from_residual.ensures.1 (lost_before c.in_err-put.ensures _)

pub returns-in_err-put_number : goal.returns-in_err-put_number
unfolding drop_line
returns-in_err-put_number g c =
    gathers_after _ _ _ _ c.in_ok-put.ensures (gathers_lost _ _ _ c.from_residual-in_err-put_number.ensures.1 (lost_before c.in_err-put_number.ensures _))

pub returns : goal.returns
unfolding drop_line
returns g c = gathers_after _ _ _ _ c.in_ok-put.ensures (gathers_after _ _ _ _ c.in_ok-put_number.ensures c.put-2.ensures)
