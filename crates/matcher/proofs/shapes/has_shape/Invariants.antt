use Rattle.std.proofs.Common.{◌≡◌, ℕ, ◌<◌, get_or}
use Rattle.matcher.specs.Keys.{shape_of}
use Rattle.ff_headers.specs.declared.kind.Kind.{Kind}
use Rattle.std.specs.Prelude.{List}
use Rattle.matcher.proofs.shapes.has_shape.Given as goal

abbrev pub invariant-loop-i : goal.invariant-loop-i
invariant-loop-i l = (k : ℕ) (d : Kind × List ℕ) → k < l.i → get_or (shape_of l.a) k d ≡ get_or (shape_of l.b) k d
