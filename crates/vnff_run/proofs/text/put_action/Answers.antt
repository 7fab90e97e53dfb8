use Rattle.vnff_base.proofs.Gathering.{gathers_after, gathers_lost, lost_before}
use Rattle.vnff_run.specs.Replay.{action_text}
use Rattle.vnff_run.proofs.text.put_action.Goals as goal

pub returns-in_err-put-in-Queue : goal.returns-in_err-put-in-Queue
unfolding action_text
returns-in_err-put-in-Queue g c =
    rw c.in-Queue.is (gathers_lost _ _ _ c.from_residual.ensures.1 (lost_before c.in_err-put-in-Queue.ensures _))

pub returns-in_ok-put-in-Queue : goal.returns-in_ok-put-in-Queue
unfolding action_text
returns-in_ok-put-in-Queue g c =
    rw (c.in-Queue.is, ← c.from.ensures) (gathers_after _ _ _ _ c.in_ok-put-in-Queue.ensures c.put_number.ensures)
