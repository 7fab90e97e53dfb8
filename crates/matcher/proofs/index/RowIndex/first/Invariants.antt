use Rattle.matcher.specs.Searches.{FitsBelow, IsFirstAmong, IsTotalCost}
use Rattle.matcher.proofs.index.RowIndex.first.Given as goal

abbrev pub invariant-loop-number : goal.invariant-loop-number
invariant-loop-number g l = record {
  first : IsFirstAmong l.self.rows.items (FitsBelow l.number l.self.shapes.items l.headers) l.first;
  cost : IsTotalCost l.self.shapes.items l.self.rows.items l.headers l.number l.fn.steps l.steps;
}
