use Rattle.std.proofs.Common.{◌≡◌, ◌++◌, map, take}
use Rattle.std.specs.List.{enumerate_from}
use Rattle.ntuple_compile.specs.Compiled.{create_rule, spec_rule}
use Rattle.ntuple_compile.specs.Selected.{selectors_of}
use Rattle.ntuple_compile.proofs.commands.create_rules.Given as goal

abbrev pub invariant-loop-id : goal.invariant-loop-id
invariant-loop-id l =
    l.commands ≡ l.initial.commands ++ map create_rule (map (λ e. (e.0, spec_rule l.size (map selectors_of l.shapes.firsts.items) e.0 e.1)) (enumerate_from 0 (take l.id l.specs)))
