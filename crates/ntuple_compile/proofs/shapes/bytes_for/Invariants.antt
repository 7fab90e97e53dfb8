use Rattle.std.proofs.Common.{◌≡◌, ◌*◌, ◌≤◌, length, take}
use Rattle.ntuple_compile.specs.Selected.{selectors_of}
use Rattle.ntuple_compile.specs.ShapeBytes.{shape_bytes}
use Rattle.ntuple_compile.proofs.shapes.bytes_for.Given as goal

abbrev pub invariant-loop-kind : goal.invariant-loop-kind
invariant-loop-kind l =
    (l.bytes.items ≡ shape_bytes (take l.kind-index (selectors_of l.spec))) × (length l.bytes.items ≤ 41 * l.kind-index)
