use Rattle.capture.proofs.CaptureLaws.{capture_of-is, is-capture_of}
use Rattle.capture.proofs.laws.captures_are_a_header_and_records.Goals as goal

pub returns : goal.returns
returns c = λ bytes frames. (capture_of-is bytes frames, is-capture_of bytes frames)
