use Rattle.snapshots.proofs.Seating.{enters}
use Rattle.snapshots.proofs.door.read.Goals as goal

pub enter_as-requires : goal.enter_as-requires
enter_as-requires c = enters _ _
