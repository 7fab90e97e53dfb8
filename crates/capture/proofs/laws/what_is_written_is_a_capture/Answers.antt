use Rattle.capture.proofs.CaptureLaws.{capture-written}
use Rattle.capture.proofs.laws.what_is_written_is_a_capture.Goals as goal

pub returns : goal.returns
returns c = capture-written
