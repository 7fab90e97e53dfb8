use Rattle.std.proofs.Common.{◌≢◌, ℕ, ◌<◌}
use Rattle.matcher.specs.Keys.{shape_of}
use Rattle.matcher.specs.Rows.{selectors_at}
use Rattle.matcher.proofs.shapes.number_of.Given as goal

abbrev pub invariant-loop-number : goal.invariant-loop-number
invariant-loop-number l = (i : ℕ) → i < l.number → shape_of (selectors_at l.shapes i) ≢ shape_of l.selectors
