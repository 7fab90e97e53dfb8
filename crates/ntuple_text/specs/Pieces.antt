-- Numbers that are joined by a separator, as the parts of an address are.
use Rattle.std.specs.Prelude.{ℕ, nat_lt, nat_le, ◌==◌, Bool, if◌then◌else◌, count_by}
use Rattle.std.specs.Prelude.{List, [], ◌∷◌, length, Option, Some, None, option_map}
use Rattle.std.specs.List.{slice_split}
use Rattle.std.specs.Option.{option_and_then}
use Rattle.vnff_base.specs.Numbers.{number_of}
use Rattle.ntuple_text.specs.Numerals.{hex_number}
use Rattle.ntuple_text.specs.declared.piece.Spelling.{Spelling}
use Rattle.ntuple_text.specs.declared.piece.Spelling.TheVariants.{MacGroup, Ipv4Byte, Ipv6Group}

-- what stands between the groups of a MAC or IPv6 address: `:`
abbrev pub colon : ℕ
colon = 58

-- what stands between the bytes of an IPv4 address: `.`
abbrev pub dot : ℕ
dot = 46

-- a MAC or IPv4 address is a number whose digits in this base are its pieces, which are bytes
abbrev pub byte_base : ℕ
byte_base = 256

-- an IPv6 address is a number whose digits in this base are its groups, which have 16 bits
abbrev pub group_base : ℕ
group_base = 65536

-- the most pieces that an address has: the groups of an IPv6 address
abbrev pub most_groups : ℕ
most_groups = 8

-- the most digits of a group, in a MAC address
abbrev pub mac_group_digits : ℕ
mac_group_digits = 2

-- the most digits of a group, in an IPv6 address
abbrev pub ipv6_group_digits : ℕ
ipv6_group_digits = 4

-- the number that at most so many hexadecimal digits spell
abbrev pub hex_group : ℕ → List ℕ → Option ℕ
hex_group most digits = if nat_le (length digits) most then hex_number digits else None

-- a number that is a byte
abbrev pub byte_within : Option ℕ → Option ℕ
byte_within (Some n) = if nat_lt n byte_base then Some n else None
byte_within None = None

-- the number of one piece: one or two hexadecimal digits in a MAC address, a decimal number that is a byte in an IPv4
-- address, one to four hexadecimal digits in an IPv6 address
unfoldable pub piece_of : Spelling → List ℕ → Option ℕ
piece_of MacGroup piece = hex_group mac_group_digits piece
piece_of Ipv4Byte piece = byte_within (number_of piece)
piece_of Ipv6Group piece = hex_group ipv6_group_digits piece

-- the byte between two pieces
abbrev pub is_separator : ℕ → ℕ → Bool
is_separator separator byte = byte == separator

-- one more number before the others
abbrev pub with_number : ℕ → List ℕ × List ℕ → List ℕ × List ℕ
with_number n pieces = (n ∷ pieces.0, pieces.1)

-- the numbers of all pieces but the last, and the last piece
abbrev pub front_of : Spelling → List (List ℕ) → Option (List ℕ × List ℕ)
front_of spelling [] = None
front_of spelling (piece ∷ []) = Some ([], piece)
front_of spelling (piece ∷ next ∷ more) =
    option_and_then (λ n. option_map (with_number n) (front_of spelling (next ∷ more))) (piece_of spelling piece)

-- the pieces of a text of at most eight
unfoldable pub pieces_of : Spelling → ℕ → List ℕ → Option (List ℕ × List ℕ)
pieces_of spelling separator text =
    if nat_lt (count_by (is_separator separator) text) most_groups
    then front_of spelling (slice_split (is_separator separator) text)
    else None
