use Rattle.cap_table.proofs.ValidSteps.{start_is_valid, valid_after}
use Rattle.admin_dev.proofs.laws.runs_are_valid.Goals as goal

pub returns-clause-start : goal.returns-clause-start
returns-clause-start c = start_is_valid

pub returns-clause-run : goal.returns-clause-run
returns-clause-run c = valid_after
