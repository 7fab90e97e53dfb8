-- The items so far were written.
use Rattle.std.proofs.Common.{take}
use Rattle.std.specs.List.{flat_map}
use Rattle.vnff_base.specs.Outputs.{Wrote}
use Rattle.vnff_run.specs.Programs.{slot_line}
use Rattle.vnff_run.proofs.compile_text.put_slots.Given as goal

abbrev pub invariant-loop-slot : goal.invariant-loop-slot
invariant-loop-slot g l =
    Wrote (g.O.Out.state l.fn.out) (g.O.Out.state l.out) (flat_map slot_line (take l.slot-index l.slots))
