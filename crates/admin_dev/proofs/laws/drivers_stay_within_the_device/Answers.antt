use Rattle.cap_table.proofs.AllowedSets.{always_allowed}
use Rattle.admin_dev.proofs.laws.drivers_stay_within_the_device.Goals as goal

pub returns : goal.returns
returns c caps start commands are = always_allowed caps start commands are
