-- The groups so far are the number's first digits.
use Rattle.std.proofs.Common.{◌≡◌, take}
use Rattle.std.specs.Int.Digits.{number_from_digits}
use Rattle.ntuple_text.proofs.address.number_from_digits.Given as goal

abbrev pub invariant-loop-group : goal.invariant-loop-group
invariant-loop-group l = l.value ≡ number_from_digits l.base (take l.group-index l.groups)
