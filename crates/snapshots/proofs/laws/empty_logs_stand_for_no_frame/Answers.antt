use Rattle.snapshots.proofs.Logging.{logged_empty}
use Rattle.snapshots.proofs.laws.empty_logs_stand_for_no_frame.Goals as goal

pub returns : goal.returns
returns c = logged_empty
