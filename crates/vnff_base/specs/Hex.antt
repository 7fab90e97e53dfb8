-- The spelling of bytes in hexadecimal, in a script's words and in what is printed: two digits a byte, `-` for no
-- bytes. This project's own.
use Rattle.std.specs.Prelude.{ℕ, ◌+◌, ◌*◌, ◌/◌, ◌%◌, ◌==◌, ◌&&◌, Bool, if◌then◌else◌, List, [], ◌∷◌, length, codes, Option, Some, None}
use Rattle.std.specs.Char.{digit_char, digit_value, is_ascii_hexdigit}
use Rattle.std.specs.List.{list_all, flat_map}
use Rattle.std.specs.Str.{bytes_eq}

-- the word that spells no bytes
abbrev pub dash : List ℕ
dash = codes "-"

-- the two digits of a byte, the high four bits first, letters in lower case
abbrev pub hex_pair : ℕ → List ℕ
hex_pair byte = digit_char (byte / 16) ∷ digit_char (byte % 16) ∷ []

-- the word that spells bytes
abbrev pub hex_text : List ℕ → List ℕ
hex_text bytes = if length bytes == 0 then dash else flat_map hex_pair bytes

-- the bytes of digits that stand in pairs, each of either case
abbrev pub pair_bytes : List ℕ → List ℕ
pair_bytes (high ∷ low ∷ digits) = (16 * digit_value high + digit_value low) ∷ pair_bytes digits
pair_bytes _ = []

-- a word is an even number of hexadecimal digits
abbrev pub are_pairs : List ℕ → Bool
are_pairs word = (length word % 2 == 0) && list_all is_ascii_hexdigit word

-- the bytes that a word spells, and None for a word that is neither `-` nor an even number of digits
unfoldable pub hex_bytes : List ℕ → Option (List ℕ)
hex_bytes word =
    if bytes_eq word dash then Some []
    else if are_pairs word then Some (pair_bytes word)
    else None
