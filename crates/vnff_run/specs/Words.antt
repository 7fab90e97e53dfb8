-- What a word of a script spells, this project's own: a number or bytes, within a range, or the reason why not.
use Rattle.std.specs.Prelude.{ℕ, ◌&&◌, if◌then◌else◌, nat_le, List, length, Option, Some, None, Result, option_and_then}
use Rattle.std.specs.Option.{ok_or}
use Rattle.vnff_base.specs.Hex.{hex_bytes}
use Rattle.vnff_base.specs.Numbers.{number_of}
use Rattle.vnff_run.specs.declared.error.Reason.{Reason}

-- the number that a word spells, so large at least and at most
unfoldable pub number_within : Reason → ℕ → ℕ → List ℕ → Result ℕ Reason
number_within reason low high word =
    ok_or (option_and_then (λ n. if nat_le low n && nat_le n high then Some n else None) (number_of word)) reason

-- the bytes of so many at least and at most, or none
abbrev pub if_within : ℕ → ℕ → List ℕ → Option (List ℕ)
if_within low high bytes = if nat_le low (length bytes) && nat_le (length bytes) high then Some bytes else None

-- the bytes that a word spells in hexadecimal, so many at least and at most
unfoldable pub bytes_within : Reason → ℕ → ℕ → List ℕ → Result (List ℕ) Reason
bytes_within reason low high word = ok_or (option_and_then (if_within low high) (hex_bytes word)) reason
