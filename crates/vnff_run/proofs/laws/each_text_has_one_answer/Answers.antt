use Rattle.vnff_run.specs.Grammar.{script_of}
use Rattle.vnff_run.proofs.AnswerLemmas.{one_of, one_value, one_fault, not_both}
use Rattle.vnff_run.proofs.laws.each_text_has_one_answer.Goals as goal

pub returns-clause-some : goal.returns-clause-some
returns-clause-some c = λ text. one_of (script_of text)

pub returns-clause-one_script : goal.returns-clause-one_script
returns-clause-one_script c = λ text. one_value (script_of text)

pub returns-clause-one_fault : goal.returns-clause-one_fault
returns-clause-one_fault c = λ text. one_fault (script_of text)

pub returns-clause-not_both : goal.returns-clause-not_both
returns-clause-not_both c = λ text. not_both (script_of text)
