use Rattle.std.proofs.Common.{sym}
use Rattle.matcher.proofs.index.RowIndex.likely_place.Goals as goal

pub place_with-requires : goal.place_with-requires
place_with-requires c = c.requires.backed c.args.id c.in_ok-rule.rule.now (sym c.in_ok-rule.ensures)
