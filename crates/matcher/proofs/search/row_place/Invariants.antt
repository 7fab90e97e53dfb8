use Rattle.std.proofs.Common.{◌-◌}
use Rattle.matcher.proofs.SearchLemmas.{IsSearch}
use Rattle.matcher.proofs.search.row_place.Given as goal

abbrev pub decreases-loop-low : goal.decreases-loop-low
decreases-loop-low g l = l.high - l.low

abbrev pub invariant-loop-low : goal.invariant-loop-low
invariant-loop-low g l = IsSearch l.rows l.number l.key.items l.fn.steps l.low l.high l.steps
