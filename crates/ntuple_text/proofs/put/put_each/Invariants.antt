-- The items so far were written.
use Rattle.std.proofs.Common.{take}
use Rattle.std.specs.List.{flat_map}
use Rattle.vnff_base.specs.Outputs.{Wrote}
use Rattle.ntuple_text.specs.SpecTexts.{field_text}
use Rattle.ntuple_text.proofs.put.put_each.Given as goal

abbrev pub invariant-loop-field : goal.invariant-loop-field
invariant-loop-field g l =
    Wrote (g.O.Out.state l.fn.out) (g.O.Out.state l.out) (flat_map (field_text l.spec) (take l.field-index l.fields))
