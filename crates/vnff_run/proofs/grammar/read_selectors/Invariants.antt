use Rattle.std.proofs.Common.{◌≡◌, length}
use Rattle.vnff_run.specs.Grammar.{first_selectors}
use Rattle.vnff_run.specs.Readings.{HasSmallNumbers}
use Rattle.vnff_run.proofs.SelectLemmas.{RiseTo, selectors_then}
use Rattle.vnff_run.proofs.grammar.read_selectors.Given as goal

abbrev pub invariant-loop-line : goal.invariant-loop-line
invariant-loop-line l = record {
  same : selectors_then l.selectors.items (first_selectors l.last l.reader.left) ≡ first_selectors 0 l.initial.reader.left;
  rise : RiseTo l.last l.selectors.items;
  small : HasSmallNumbers l.reader;
}

abbrev pub decreases-loop-line : goal.decreases-loop-line
decreases-loop-line l = length l.reader.left
