-- Hexadecimal digits are a text, and std reads their value.
use Rattle.std.proofs.lemmas.Str.{IsUtf8-from_ascii}
use Rattle.ntuple_text.proofs.NumeralLemmas.{hex_digits-ascii, hex_digits-parsed}
use Rattle.ntuple_text.proofs.numeral.digits_value.Goals as goal

pub returns-in_default : goal.returns-in_default
returns-in_default c = λ h. c.in_default.ensures.cases.0 (IsUtf8-from_ascii _ (hex_digits-ascii _ c.requires))

pub returns : goal.returns
returns c =
    let read = hex_digits-parsed c.in-Ok.text.now c.args.digits.now c.from_str_radix.result c.in-Ok.ensures.cases.0 c.requires c.from_str_radix.ensures.value in
    rw c.ok.ensures.value read
