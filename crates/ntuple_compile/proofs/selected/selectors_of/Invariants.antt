use Rattle.std.proofs.Common.{◌≡◌, map, take}
use Rattle.ntuple_compile.specs.Selected.{mask_for, selector_of_mask}
use Rattle.ntuple_compile.specs.SpecFits.{kinds_of}
use Rattle.ntuple_compile.proofs.selected.selectors_of.Given as goal

abbrev pub invariant-loop-kind : goal.invariant-loop-kind
invariant-loop-kind l = l.list.items ≡ map (λ kind. selector_of_mask kind (mask_for l.spec kind)) (take l.kind-index (kinds_of l.spec.flow))
