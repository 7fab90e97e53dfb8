use Rattle.std.proofs.Common.{◌≡◌, take}
use Rattle.ff_headers.specs.Fields.{number}
use Rattle.ff_headers.proofs.field.number.Given as goal

abbrev pub invariant-loop-byte : goal.invariant-loop-byte
invariant-loop-byte l = l.number ≡ number (take l.byte-index l.bytes)
