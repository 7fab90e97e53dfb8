use Rattle.ff_headers.proofs.ChangeLemmas.{none_are_well_formed, step_keeps, after_is_well_formed}
use Rattle.ff_headers.proofs.laws.changes_keep_objects_well_formed.Goals as goal

pub returns-clause-start : goal.returns-clause-start
returns-clause-start c = none_are_well_formed

pub returns-clause-kept : goal.returns-clause-kept
returns-clause-kept c = λ limits objects change was shape. step_keeps limits objects was change shape

pub returns-clause-all : goal.returns-clause-all
returns-clause-all c = after_is_well_formed
