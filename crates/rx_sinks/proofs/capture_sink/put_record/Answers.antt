use Rattle.vnff_base.proofs.Writing.{stopped_before, writes_stopped, writes_after}
use Rattle.rx_sinks.proofs.capture_sink.put_record.Goals as goal

pub returns-in_err-begin : goal.returns-in_err-begin
returns-in_err-begin g c = writes_stopped _ _ c.from_residual.ensures.1 (stopped_before c.in_err-begin.ensures _)

pub returns : goal.returns
returns g c = writes_after _ _ _ c.in_ok-begin.ensures c.write_frame.ensures
