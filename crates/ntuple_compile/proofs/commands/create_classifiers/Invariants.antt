use Rattle.std.proofs.Common.{◌≡◌, ◌++◌, map, take}
use Rattle.std.specs.List.{enumerate_from}
use Rattle.ntuple_compile.specs.Compiled.{create_classifier}
use Rattle.ntuple_compile.specs.Selected.{selectors_of}
use Rattle.ntuple_compile.proofs.commands.create_classifiers.Given as goal

abbrev pub invariant-loop-id : goal.invariant-loop-id
invariant-loop-id l =
    l.commands ≡ l.initial.commands ++ map create_classifier (enumerate_from 0 (take l.id (map selectors_of l.firsts)))
