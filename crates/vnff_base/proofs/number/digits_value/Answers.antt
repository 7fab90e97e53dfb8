-- Digits are a text, so a word that is no text is none of digits.
use Rattle.std.proofs.lemmas.Fmt.{IsAscii-from_digits}
use Rattle.std.proofs.lemmas.Str.{IsUtf8-from_ascii}
use Rattle.vnff_base.proofs.number.digits_value.Goals as goal

pub returns-in_default : goal.returns-in_default
returns-in_default c = λ h. c.in_default.ensures.cases.0 (IsUtf8-from_ascii _ (IsAscii-from_digits _ h.0.1))
