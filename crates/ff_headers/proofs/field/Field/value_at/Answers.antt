use Rattle.std.proofs.Common.{◌≡◌, ◌+◌, ◌-◌, ◌*◌, ◌/◌, ◌%◌, ◌^◌, ◌<◌, ◌≤◌, length, take, drop, ◌∙◌, ap, arith}
use Rattle.std.proofs.lemmas.Grind.{div_ceil_times}
use Rattle.ff_headers.specs.Fields.{number}
use Rattle.ff_headers.proofs.FieldLemmas.{field_in}
use Rattle.ff_headers.proofs.field.Field.value_at.Goals as goal

pub returns : goal.returns
returns c =
    let f = c.args.self.now in
    let header = c.args.header.now in
    let start = f.first / 8 in
    let end = f.first % 8 + f.bits in
    let span = c.div_ceil-span.result in
    let ceil = div_ceil_times end 8 (omega arith) in
    let wide : (end ≤ 8 * span) × (8 * span < end + 8) = (omega (arith, c.div_ceil-span.ensures, ceil.0), omega (arith, c.div_ceil-span.ensures, ceil.1)) in
    let within : start + span ≤ length header = omega (arith, c.requires.inside) in
    let bytes = ap (λ k. number (take k (drop start header))) (let same : start + span - start ≡ span = omega arith in same) in
    c.low_bits.ensures
    ∙ ap (λ n. n / 2 ^ (8 * span - end) % 2 ^ f.bits) (c.number-bytes.ensures ∙ bytes)
    ∙ field_in f header start end span (λ k. omega (arith, c.type_inv.header k)) (omega arith) (omega arith) wide.0 within
