use Rattle.vnff_base.proofs.Gathering.{gathers_after, gathers_lost, lost_before}
use Rattle.vnff_run.specs.LiveTexts.{live_text}
use Rattle.vnff_run.proofs.live_text.put_lines.Goals as goal

pub returns-in_err-put_replies : goal.returns-in_err-put_replies
unfolding live_text
returns-in_err-put_replies g c =
    gathers_lost _ _ _ c.from_residual.ensures.1 (lost_before (rw c.as_slice.ensures at c.in_err-put_replies.ensures) _)

pub returns : goal.returns
unfolding live_text
returns g c = gathers_after _ _ _ _ (rw c.as_slice.ensures at c.in_ok-put_replies.ensures) c.put_packets.ensures
