-- Four hexadecimal digits have 16 bits.
use Rattle.std.proofs.Common.{◌≡◌, ◌≤◌, length, arith, Some, sym, ◌∙◌}
use Rattle.ntuple_text.specs.Numerals.{hex_number}
use Rattle.ntuple_text.proofs.NumeralLemmas.{hex_number-small}
use Rattle.ntuple_text.proofs.piece.hex_group.Goals as goal

pub overflow_cast-result : goal.overflow_cast-result
overflow_cast-result c =
    let read : hex_number c.args.digits.now ≡ Some c.in_ok-value.value = sym c.hex_number.ensures ∙ c.in_ok-value.was in
    let short : length c.args.digits.now ≤ 4 = omega arith in
    let small = hex_number-small 4 c.args.digits.now c.in_ok-value.value read short in
    omega (arith, small)
