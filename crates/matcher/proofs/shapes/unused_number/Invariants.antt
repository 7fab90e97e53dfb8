use Rattle.std.proofs.Common.{◌≡◌, ℕ, ◌<◌, true, eqb}
use Rattle.std.specs.List.{list_any}
use Rattle.matcher.specs.declared.rows.Row.{Row}
use Rattle.matcher.proofs.shapes.unused_number.Given as goal

abbrev pub invariant-loop-number : goal.invariant-loop-number
invariant-loop-number l = (i : ℕ) → i < l.number → list_any (λ (row : Row). eqb row.shape i) l.rows ≡ true
