use Rattle.std.proofs.Common.{◌+◌, ◌%◌, ◌^◌, ◌≤◌, arith}
use Rattle.std.proofs.Math.Nat.{pow-le-pow_right}
use Rattle.std.proofs.lemmas.Nat.{one_shl}
use Rattle.ntuple_compile.proofs.WrittenLemmas.{all_fits, put_more}
use Rattle.ntuple_compile.proofs.header.put_field.Goals as goal

pub joined_number-all-requires-clause-fits : goal.joined_number-all-requires-clause-fits
joined_number-all-requires-clause-fits c =
    let field = c.args.field.now in
    let below = all_fits (field.first % 8) field.bits c.args.rest c.args.value c.requires.rest c.requires.value in
    let most : 2 ^ (field.first % 8 + field.bits) ≤ 2 ^ 128 = pow-le-pow_right (omega arith) {j = 128} c.requires.within.short in
    omega (arith, below, most)

pub returns : goal.returns
returns c = λ n written.
    let field = c.args.field.now in
    let rest_bits = (field.first % 8 + field.bits) % 8 in
    let more = put_more field.first field.bits n c.args.value c.args.bytes.now.items c.args.rest c.requires.value written in
    rw (c.put_number.ensures, one_shl rest_bits 128 (omega arith), c.joined_number-all.ensures) more
