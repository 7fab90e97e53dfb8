use Rattle.std.proofs.Common.{refl}
use Rattle.cap_table.specs.Steps.{state_after}
use Rattle.vnff_run.proofs.steering.send_command.Goals as goal

pub returns-in-Admin : goal.returns-in-Admin
unfolding state_after
returns-in-Admin c = rw c.in-Admin.is c.send.ensures

pub returns-in-Frame : goal.returns-in-Frame
unfolding state_after
returns-in-Frame c = rw c.in-Frame.is refl
