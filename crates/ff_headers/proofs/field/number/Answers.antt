use Rattle.std.proofs.Common.{◌*◌, ◌+◌, get_or, sym, ◌∙◌, ap, arith}
use Rattle.ff_headers.proofs.FieldLemmas.{number_more, number_fits}
use Rattle.ff_headers.proofs.field.number.Goals as goal

pub overflow_mul-number : goal.overflow_mul-number
overflow_mul-number c =
    let fits = number_fits c.args.bytes.now c.loop-byte.byte-index (λ k. omega (arith, c.type_inv.bytes k)) c.requires c.loop-byte-test.true in
    omega (arith, c.loop-byte.invariant)

pub overflow_add-number : goal.overflow_add-number
overflow_add-number c =
    let fits = number_fits c.args.bytes.now c.loop-byte.byte-index (λ k. omega (arith, c.type_inv.bytes k)) c.requires c.loop-byte-test.true in
    omega (arith, c.loop-byte.invariant)

pub loop-byte-preserved : goal.loop-byte-preserved
loop-byte-preserved c =
    ap (λ n. n * 256 + get_or c.args.bytes.now c.loop-byte.byte-index 0) c.loop-byte.invariant
    ∙ sym (number_more c.args.bytes.now c.loop-byte.byte-index c.loop-byte-test.true)
