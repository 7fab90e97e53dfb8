use Rattle.vnff_run.proofs.LiveOrderLemmas.{carried_acts, carried_obeyed}
use Rattle.vnff_run.proofs.live_laws.live_runs_carry_tables.Goals as goal

pub returns-clause-obeyed : goal.returns-clause-obeyed
returns-clause-obeyed c = carried_obeyed

pub returns-clause-acts : goal.returns-clause-acts
returns-clause-acts c = carried_acts
