use Rattle.split_queue.proofs.AgreementLaws.{agree-kept}
use Rattle.split_queue.proofs.agreement.other_bytes_keep_agreement.Goals as goal

pub returns : goal.returns
returns c = agree-kept
