-- Each item is written after those before it.
use Rattle.std.proofs.Common.{arith, refl}
use Rattle.vnff_base.proofs.Writing.{wrote_item, stopped_item, writes_stopped}
use Rattle.ntuple_text.specs.SpecTexts.{field_text}
use Rattle.ntuple_text.proofs.put.put_each.Goals as goal

pub returns-in_err-put_field : goal.returns-in_err-put_field
returns-in_err-put_field g c =
    writes_stopped _ _ c.from_residual.ensures.1 (stopped_item (field_text c.args.spec.now) c.args.fields.now c.loop-field.field-index _ _ (omega arith) refl c.loop-field.invariant c.in_err-put_field.ensures)

pub loop-field-preserved : goal.loop-field-preserved
loop-field-preserved g c =
    wrote_item (field_text c.args.spec.now) c.args.fields.now c.loop-field.field-index _ _ (omega arith) refl c.loop-field.invariant c.in_ok-put_field.ensures
