-- The items so far were written.
use Rattle.std.proofs.Common.{take}
use Rattle.std.specs.List.{flat_map}
use Rattle.vnff_base.specs.Outputs.{Wrote}
use Rattle.ntuple_text.specs.SpecTexts.{slot_text}
use Rattle.ntuple_text.proofs.put.put_slots.Given as goal

abbrev pub invariant-loop-slot : goal.invariant-loop-slot
invariant-loop-slot g l =
    Wrote (g.O.Out.state l.fn.out) (g.O.Out.state l.out) (flat_map slot_text (take l.slot-index l.slots))
