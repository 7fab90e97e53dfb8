-- The spelling of numbers in a table: decimal, or hexadecimal after `0x`. This project's own, after the numbers of
-- ethtool(8).
use Rattle.std.specs.Prelude.{ℕ, ◌^◌, ◌==◌, ◌&&◌, ◌||◌, not, nat_lt, nat_le, Bool, if◌then◌else◌}
use Rattle.std.specs.Prelude.{List, length, drop, slice_index, Option, Some, None, Result, Ok, Err}
use Rattle.std.specs.Char.{is_ascii_digit, is_ascii_hexdigit}
use Rattle.std.specs.List.{list_all}
use Rattle.std.specs.Option.{ok_or}
use Rattle.std.specs.Str.Parse.{digits_value}
use Rattle.vnff_base.specs.Numbers.{number_of}
use Rattle.ntuple_text.specs.declared.error.Fault.{Fault}
use Rattle.ntuple_text.specs.declared.error.Fault.TheVariants.{Octal, Number}

-- the digit `0`, which octal and hexadecimal numbers begin with, and the letters `x` and `X`
abbrev pub digit_zero : ℕ
digit_zero = 48

abbrev pub lower_x : ℕ
lower_x = 120

abbrev pub upper_x : ℕ
upper_x = 88

-- hexadecimal digits, one or more
abbrev pub are_hex_digits : List ℕ → Bool
are_hex_digits digits = not (length digits == 0) && list_all is_ascii_hexdigit digits

-- the number below 2 ^ 64 that hexadecimal digits of either case spell, with any number of leading zeros
unfoldable pub hex_number : List ℕ → Option ℕ
hex_number digits =
    if are_hex_digits digits && nat_lt (digits_value 16 digits) (2 ^ 64) then Some (digits_value 16 digits) else None

-- a word that begins with `0x` or `0X`
abbrev pub is_hexadecimal : List ℕ → Bool
is_hexadecimal word =
    (slice_index word 0 == digit_zero) && ((slice_index word 1 == lower_x) || (slice_index word 1 == upper_x))

-- a word that begins with `0` and a decimal digit, as an octal number of ethtool does
abbrev pub is_octal : List ℕ → Bool
is_octal word = (slice_index word 0 == digit_zero) && is_ascii_digit (slice_index word 1)

-- the number below 2 ^ 64 that a word spells, where it isn't octal
abbrev pub spelled_number : List ℕ → Option ℕ
spelled_number word = if is_hexadecimal word then hex_number (drop 2 word) else number_of word

-- the number that a word spells, or why there is none
unfoldable pub numeral_of : List ℕ → Result ℕ Fault
numeral_of word = if is_octal word then Err Octal else ok_or (spelled_number word) Number

-- a number that is at most `most`
abbrev pub if_at_most : ℕ → Result ℕ Fault → Result ℕ Fault
if_at_most most (Ok n) = if nat_le n most then Ok n else Err Number
if_at_most most (Err fault) = Err fault

-- the number that a word spells, in the range of a field that is at most `most`
unfoldable pub numeral_up_to : ℕ → List ℕ → Result ℕ Fault
numeral_up_to most word = if_at_most most (numeral_of word)
