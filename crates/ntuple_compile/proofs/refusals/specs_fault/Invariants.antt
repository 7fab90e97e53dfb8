use Rattle.std.proofs.Common.{◌≡◌, drop}
use Rattle.ntuple_compile.specs.Compiled.{specs_fault}
use Rattle.ntuple_compile.proofs.refusals.specs_fault.Given as goal

abbrev pub invariant-loop-spec : goal.invariant-loop-spec
invariant-loop-spec l = specs_fault l.caps l.specs ≡ specs_fault l.caps (drop l.spec-index l.specs)
