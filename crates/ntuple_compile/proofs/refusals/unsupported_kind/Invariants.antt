use Rattle.std.proofs.Common.{◌≡◌, drop}
use Rattle.ntuple_compile.specs.Compiled.{unsupported_kind}
use Rattle.ntuple_compile.specs.Selected.{selectors_of}
use Rattle.ntuple_compile.proofs.RefusalLemmas.{unsupported_from}
use Rattle.ntuple_compile.proofs.refusals.unsupported_kind.Given as goal

abbrev pub invariant-loop-place : goal.invariant-loop-place
invariant-loop-place l =
    unsupported_kind l.caps l.spec ≡ unsupported_from l.caps l.place (drop l.place (selectors_of l.spec))
