use Rattle.std.proofs.Common.{sym}
use Rattle.matcher.proofs.ScanLemmas.{backed_at}
use Rattle.matcher.proofs.scan.candidate_at.Goals as goal

pub candidate_from-requires : goal.candidate_from-requires
candidate_from-requires c =
    backed_at _ _ c.args.at (c.in_ok-id.id, c.in_ok-id.rule.now) c.requires.well_formed (sym c.in_ok-id.ensures)
