use Rattle.cap_table.proofs.SettingLemmas.{within_if_no_fault}
use Rattle.cap_table.proofs.laws.accepted_sets_stay_within.Goals as goal

pub returns : goal.returns
returns c = within_if_no_fault
