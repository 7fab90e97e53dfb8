use Rattle.snapshots.proofs.Closing.{covers_front}
use Rattle.snapshots.proofs.Logging.{after_counted}
use Rattle.snapshots.proofs.laws.beginnings_are_covered.Goals as goal

pub returns : goal.returns
returns c = record { covers = covers_front; leaves = after_counted }
