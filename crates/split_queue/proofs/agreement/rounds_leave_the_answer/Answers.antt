use Rattle.split_queue.proofs.AnswerLaws.{answer-held}
use Rattle.split_queue.proofs.agreement.rounds_leave_the_answer.Goals as goal

pub returns : goal.returns
returns c = λ device round reply answer. answer-held c.args.driver.now device round reply c.free_len.ensures.valid answer
