use Rattle.split_queue.proofs.AgreementLaws.{pieces-keep}
use Rattle.split_queue.proofs.agreement.writable_pieces_keep_the_queue.Goals as goal

pub returns : goal.returns
returns c = pieces-keep
