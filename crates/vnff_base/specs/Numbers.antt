-- The spelling of numbers in words: decimal digits, with no sign and no leading zero but that of `0` itself. This
-- project's own.
use Rattle.std.specs.Prelude.{ℕ, ◌^◌, if◌then◌else◌, nat_lt, ◌&&◌, List, Option, Some, None}
use Rattle.std.specs.Fmt.{decimal}
use Rattle.std.specs.Str.{bytes_eq}
use Rattle.std.specs.Str.Parse.{digits_value}

-- the number below 2 ^ 64 that a word spells: the word is how that number is written
unfoldable pub number_of : List ℕ → Option ℕ
number_of word =
    let n = digits_value 10 word in
    if nat_lt n (2 ^ 64) && bytes_eq word (decimal n) then Some n else None
