use Rattle.ff_headers.proofs.CutLemmas.{header_stands}
use Rattle.ff_headers.proofs.laws.headers_stand_in_their_frame.Goals as goal

pub returns : goal.returns
returns c = header_stands
