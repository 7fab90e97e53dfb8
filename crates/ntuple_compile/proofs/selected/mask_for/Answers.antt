use Rattle.std.proofs.Common.{ap, ◌∙◌, ◌≤◌, length, arith}
use Rattle.ff_headers.specs.Fields.{fields_of}
use Rattle.ff_headers.specs.declared.field.Field.{Field}
use Rattle.ntuple_compile.specs.Selected.{given_for, mask_field, mask_for}
use Rattle.ntuple_compile.specs.SpecFits.{named_fields}
use Rattle.ntuple_compile.proofs.Bridge.{each_is_part, length-mask, masks_fit}
use Rattle.ntuple_compile.proofs.WrittenLemmas.{all_written, field_begins, next_written, none_written}
use Rattle.ntuple_compile.proofs.selected.mask_for.Goals as goal

pub loop-field-init : goal.loop-field-init
loop-field-init c = rw c.new-bytes.ensures (none_written (λ f. mask_field f.bits (given_for (named_fields c.args.spec.now c.args.kind) f)) (fields_of c.args.kind))

pub put_field-rest-requires-clause-next : goal.put_field-rest-requires-clause-next
put_field-rest-requires-clause-next c =
    let items = c.fields_of-field-items.ensures.value in
    let inside = rw items at c.loop-field-test.true in
    let begins = field_begins c.args.kind c.loop-field.field-index (record { first = 0; bits = 0 }) inside in
    rw (items, begins) c.loop-field.invariant.size

pub put_field-rest-requires-clause-rest : goal.put_field-rest-requires-clause-rest
put_field-rest-requires-clause-rest c =
    let items = c.fields_of-field-items.ensures.value in
    let inside = rw items at c.loop-field-test.true in
    let begins = field_begins c.args.kind c.loop-field.field-index (record { first = 0; bits = 0 }) inside in
    rw (items, begins) c.loop-field.invariant.small

pub loop-field-preserved : goal.loop-field-preserved
loop-field-preserved c =
    let items = c.fields_of-field-items.ensures.value in
    let inside = rw items at c.loop-field-test.true in
    let i = c.loop-field.field-index in
    let d : Field = record { first = 0; bits = 0 } in
    let begins = field_begins c.args.kind i d inside in
    let puts = rw (c.mask_field-value.ensures, c.given_for.ensures, items) at c.put_field-rest.ensures in
    next_written (λ f. mask_field f.bits (given_for (named_fields c.args.spec.now c.args.kind) f)) (fields_of c.args.kind) i d c.loop-field.bytes.items c.put_field-rest.new.bytes.items c.loop-field.rest c.put_field-rest.result inside begins puts c.loop-field.invariant

pub returns : goal.returns
unfolding mask_for
returns c =
    let given = λ (f : Field). given_for (named_fields c.args.spec.now c.args.kind) f in
    let fit = masks_fit given (fields_of c.args.kind) (each_is_part given (fields_of c.args.kind) c.requires) in
    let ended = rw c.fields_of-field-items.ensures.value at c.loop-field-test.false in
    let past : length (fields_of c.args.kind) ≤ c.loop-field.field-index = omega (arith, ended) in
    let is = all_written c.args.kind (λ f. mask_field f.bits (given f)) c.loop-field.field-index c.loop-field.bytes.items c.loop-field.rest fit past c.loop-field.invariant in
    record { value = is; whole = ap length is ∙ length-mask c.args.spec.now c.args.kind }
