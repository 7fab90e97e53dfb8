use Rattle.vnff_base.proofs.Gathering.{gathers_after, gathers_lost, lost_before}
use Rattle.vnff_run.specs.Replay.{reply_line}
use Rattle.vnff_run.proofs.text.put_reply_line.Goals as goal

pub returns-in_err-put : goal.returns-in_err-put
unfolding reply_line
returns-in_err-put g c = gathers_lost _ _ _ c.from_residual.ensures.1 (lost_before c.in_err-put.ensures _)

pub returns-in_err-hex_gather : goal.returns-in_err-hex_gather
unfolding reply_line
returns-in_err-hex_gather g c =
    gathers_after _ _ _ _ c.in_ok-put.ensures (gathers_lost _ _ _ c.from_residual-in_err-hex_gather.ensures.1 (lost_before c.in_err-hex_gather.ensures _))

pub returns : goal.returns
unfolding reply_line
returns g c = gathers_after _ _ _ _ c.in_ok-put.ensures (gathers_after _ _ _ _ c.in_ok-hex_gather.ensures c.put-2.ensures)
