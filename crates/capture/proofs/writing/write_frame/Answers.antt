use Rattle.vnff_base.proofs.Writing.{stopped_before, writes_stopped, writes_after}
use Rattle.capture.specs.Captures.{record_text}
use Rattle.capture.proofs.writing.write_frame.Goals as goal

pub returns-then-frame-le-LONGEST_TOGETHER : goal.returns-then-frame-le-LONGEST_TOGETHER
unfolding record_text
returns-then-frame-le-LONGEST_TOGETHER g c =
    rw (← c.record_head-head.ensures) c.put_together.ensures

pub returns-in_err-put : goal.returns-in_err-put
unfolding record_text
returns-in_err-put g c =
    rw (← c.record_head-head.ensures) (writes_stopped _ _ c.from_residual.ensures.1 (stopped_before c.in_err-put.ensures _))

pub returns : goal.returns
unfolding record_text
returns g c =
    rw (← c.record_head-head.ensures) (writes_after _ _ _ c.in_ok-put.ensures c.put-2.ensures)
