use Rattle.ntuple_compile.proofs.Bridge.{frame_matches_where_fits}
use Rattle.ntuple_compile.proofs.laws.selectors_match_where_a_spec_fits.Goals as goal

pub returns : goal.returns
returns c = frame_matches_where_fits
