use Rattle.split_queue.proofs.AgreementLaws.{round-takes, round-agrees, round-frees}
use Rattle.split_queue.proofs.agreement.rounds_keep_agreement.Goals as goal

pub returns-clause-takes : goal.returns-clause-takes
returns-clause-takes c = λ device round is_round. round-takes c.args.driver.now device round c.free_len.ensures.valid is_round

pub returns-clause-agree : goal.returns-clause-agree
returns-clause-agree c = λ device round is_round. round-agrees c.args.driver.now device round c.free_len.ensures.valid is_round

pub returns-clause-frees : goal.returns-clause-frees
returns-clause-frees c = λ device round is_round. round-frees c.args.driver.now device round c.free_len.ensures.valid is_round
