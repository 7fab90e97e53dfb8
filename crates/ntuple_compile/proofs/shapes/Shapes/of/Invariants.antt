use Rattle.std.proofs.Common.{◌≡◌, ◌≤◌, length, take}
use Rattle.ntuple_compile.specs.ShapeBytes.{IsNumbered, number_under}
use Rattle.ntuple_compile.proofs.ShapeLemmas.{first_uses}
use Rattle.ntuple_compile.proofs.shapes.Shapes.of.Given as goal

abbrev pub invariant-loop-spec : goal.invariant-loop-spec
invariant-loop-spec l = record {
  value : l.shapes.firsts.items ≡ first_uses (take l.spec-index l.specs);
  numbered : IsNumbered l.shapes.firsts.items (number_under l.shapes.numbers);
  few : length l.shapes.firsts.items ≤ l.spec-index;
}
