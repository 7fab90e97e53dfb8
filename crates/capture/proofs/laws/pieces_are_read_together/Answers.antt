use Rattle.std.proofs.Common.{[]}
use Rattle.std.specs.List.{concat}
use Rattle.capture.proofs.FeedSteps.{fed-stands}
use Rattle.capture.proofs.laws.pieces_are_read_together.Goals as goal

pub returns : goal.returns
returns c = λ first last pieces said stands fed ended. ended (concat pieces) (fed-stands first last [] pieces stands fed)
