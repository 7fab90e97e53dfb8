use Rattle.capture.proofs.CaptureLaws.{capture-short}
use Rattle.capture.proofs.laws.frames_of_a_capture_are_short.Goals as goal

pub returns : goal.returns
returns c = capture-short
