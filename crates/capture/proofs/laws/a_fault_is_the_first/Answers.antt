use Rattle.capture.proofs.FaultLaws.{capture-fault}
use Rattle.capture.proofs.laws.a_fault_is_the_first.Goals as goal

pub returns : goal.returns
returns c = capture-fault
