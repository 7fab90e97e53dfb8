use Rattle.std.proofs.Common.{◌≡◌, ◌++◌, map}
use Rattle.std.specs.List.{range_with_len}
use Rattle.ntuple_compile.specs.Compiled.{create_group}
use Rattle.ntuple_compile.proofs.commands.create_groups.Given as goal

abbrev pub invariant-loop-id : goal.invariant-loop-id
invariant-loop-id l = l.commands ≡ l.initial.commands ++ map create_group (map (λ g. (g, g)) (range_with_len 0 l.id))
