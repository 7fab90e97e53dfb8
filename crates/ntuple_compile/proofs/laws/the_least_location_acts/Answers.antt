use Rattle.ntuple_compile.proofs.FitLemmas.{first_fit_acts, no_fit_acts, one_of_both_holds}
use Rattle.ntuple_compile.proofs.laws.the_least_location_acts.Goals as goal

pub returns-clause-first : goal.returns-clause-first
returns-clause-first c = first_fit_acts

pub returns-clause-none : goal.returns-clause-none
returns-clause-none c = no_fit_acts

pub returns-clause-one_holds : goal.returns-clause-one_holds
returns-clause-one_holds c = one_of_both_holds
