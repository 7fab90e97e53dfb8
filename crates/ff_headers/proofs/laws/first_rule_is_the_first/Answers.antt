use Rattle.ff_headers.proofs.PlaceLemmas.{first_rule_is_found, first_rule_is_first}
use Rattle.ff_headers.proofs.laws.first_rule_is_the_first.Goals as goal

pub returns-clause-found : goal.returns-clause-found
returns-clause-found c = first_rule_is_found

pub returns-clause-first : goal.returns-clause-first
returns-clause-first c = first_rule_is_first
