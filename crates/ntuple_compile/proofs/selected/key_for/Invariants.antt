use Rattle.std.proofs.Common.{◌≡◌, take}
use Rattle.std.specs.Prelude.{flat_map}
use Rattle.ntuple_compile.specs.Selected.{key_part}
use Rattle.ntuple_compile.specs.SpecFits.{kinds_of}
use Rattle.ntuple_compile.proofs.selected.key_for.Given as goal

abbrev pub invariant-loop-kind : goal.invariant-loop-kind
invariant-loop-kind l = l.key.items ≡ flat_map (key_part l.spec) (take l.kind-index (kinds_of l.spec.flow))
