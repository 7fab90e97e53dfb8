use Rattle.ff_headers.proofs.CutLemmas.{header_at-take, alike_have_the_same}
use Rattle.ff_headers.proofs.laws.cut_frames_are_judged_by_what_is_left.Goals as goal

pub returns-clause-cut : goal.returns-clause-cut
returns-clause-cut c = header_at-take

pub returns-clause-alike : goal.returns-clause-alike
returns-clause-alike c = alike_have_the_same
