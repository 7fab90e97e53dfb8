use Rattle.vnff_run.proofs.DrainLemmas.{drain-ends, drain-jumps, drain-pops}
use Rattle.vnff_run.proofs.laws.drains_have_what_is_popped.Goals as goal

pub returns-clause-chains : goal.returns-clause-chains
returns-clause-chains c = drain-pops

pub returns-clause-last : goal.returns-clause-last
returns-clause-last c = drain-ends

pub returns-clause-jump : goal.returns-clause-jump
returns-clause-jump c = drain-jumps
