use Rattle.std.proofs.Common.{◌≢◌, ℕ, ◌<◌, get_or}
use Rattle.matcher.specs.Rows.{id_of}
use Rattle.matcher.specs.declared.rows.Row.{Row}
use Rattle.matcher.proofs.rows.row_of.Given as goal

abbrev pub invariant-loop-place : goal.invariant-loop-place
invariant-loop-place l = (k : ℕ) (d : Row) → k < l.place → id_of (get_or l.rows k d) ≢ l.id
