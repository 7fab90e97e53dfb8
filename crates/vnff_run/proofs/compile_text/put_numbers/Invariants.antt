-- The items so far were written.
use Rattle.std.proofs.Common.{take}
use Rattle.std.specs.List.{flat_map}
use Rattle.vnff_base.specs.Outputs.{Wrote}
use Rattle.vnff_run.specs.Programs.{spaced_number}
use Rattle.vnff_run.proofs.compile_text.put_numbers.Given as goal

abbrev pub invariant-loop-number : goal.invariant-loop-number
invariant-loop-number g l =
    Wrote (g.O.Out.state l.fn.out) (g.O.Out.state l.out) (flat_map spaced_number (take l.number-index l.numbers))
