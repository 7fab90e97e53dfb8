-- The spelling of addresses: six groups for a MAC address, four bytes for IPv4 (RFC 791's dotted decimal), eight groups
-- for IPv6 (RFC 4291, section 2.2, without zones).
use Rattle.std.specs.Prelude.{ℕ, ◌+◌, ◌-◌, ◌/◌, ◌%◌, ◌==◌, ◌&&◌, nat_le, Bool, if◌then◌else◌}
use Rattle.std.specs.Prelude.{List, [], ◌∷◌, ◌++◌, length, replicate, take, drop, Option, Some, None, option_map}
use Rattle.std.specs.Int.Digits.{number_from_digits}
use Rattle.std.specs.List.{list_any}
use Rattle.std.specs.Option.{option_and_then}
use Rattle.ntuple_text.specs.Pieces.{byte_base, colon, dot, group_base, most_groups, piece_of, pieces_of}
use Rattle.ntuple_text.specs.declared.piece.Spelling.{Spelling}
use Rattle.ntuple_text.specs.declared.piece.Spelling.TheVariants.{MacGroup, Ipv4Byte, Ipv6Group}

-- how many bytes a MAC address has
abbrev pub mac_bytes : ℕ
mac_bytes = 6

-- how many bytes an IPv4 address has
abbrev pub ipv4_bytes : ℕ
ipv4_bytes = 4

-- the address whose bytes are those before the last, and the last, where they are `count`
abbrev pub address_if_count : ℕ → List ℕ → ℕ → Option ℕ
address_if_count count front last =
    if length front + 1 == count then Some (number_from_digits byte_base (front ++ last ∷ [])) else None

-- the pieces of an address of `count` bytes, where the last is spelled like the others
abbrev pub address_of_bytes : Spelling → ℕ → List ℕ × List ℕ → Option ℕ
address_of_bytes spelling count pieces =
    option_and_then (address_if_count count pieces.0) (piece_of spelling pieces.1)

-- the address that six groups joined by `:` spell
unfoldable pub mac_of : List ℕ → Option ℕ
mac_of word = option_and_then (address_of_bytes MacGroup mac_bytes) (pieces_of MacGroup colon word)

-- the address that four bytes joined by `.` spell
unfoldable pub ipv4_of : List ℕ → Option ℕ
ipv4_of word = option_and_then (address_of_bytes Ipv4Byte ipv4_bytes) (pieces_of Ipv4Byte dot word)

-- a dot, which tells that a piece is spelled as an IPv4 address
abbrev pub is_dot : ℕ → Bool
is_dot byte = byte == dot

-- the two groups of an IPv4 address
abbrev pub two_groups : ℕ → List ℕ
two_groups address = address / group_base ∷ address % group_base ∷ []

-- the groups of the last piece of an IPv6 address: two where it is spelled as an IPv4 address
unfoldable pub last_groups : List ℕ → Option (List ℕ)
last_groups piece =
    if list_any is_dot piece then option_map two_groups (ipv4_of piece)
    else option_map (λ group. group ∷ []) (piece_of Ipv6Group piece)

-- at most eight groups, those of the last piece at the end
abbrev pub at_most_eight_groups : List ℕ → List ℕ → Option (List ℕ)
at_most_eight_groups front last =
    if nat_le (length front + length last) most_groups then Some (front ++ last) else None

-- the groups of a text's pieces
abbrev pub all_groups : List ℕ × List ℕ → Option (List ℕ)
all_groups pieces = option_and_then (at_most_eight_groups pieces.0) (last_groups pieces.1)

-- the groups that stand in a text, joined by `:`, of which there are at most eight; none in an empty one
unfoldable pub groups_of : List ℕ → Option (List ℕ)
groups_of text = if length text == 0 then Some [] else option_and_then all_groups (pieces_of Ipv6Group colon text)

-- two colons
abbrev pub is_gap : ℕ → ℕ → Bool
is_gap first second = (first == colon) && (second == colon)

-- where the first `::` begins
abbrev pub gap_of : List ℕ → Option ℕ
gap_of [] = None
gap_of (first ∷ []) = None
gap_of (first ∷ second ∷ more) =
    if is_gap first second then Some 0 else option_map (λ n. n + 1) (gap_of (second ∷ more))

-- the address of eight groups, which stand in a text without `::`
abbrev pub address_of_groups : List ℕ → Option ℕ
address_of_groups groups =
    if length groups == most_groups then Some (number_from_digits group_base groups) else None

-- the groups before and after a `::`, with the zero groups that it stands for
abbrev pub groups_around_gap : List ℕ → List ℕ → List ℕ
groups_around_gap front back = front ++ replicate (most_groups - (length front + length back)) 0 ++ back

-- the address of the groups before and after a `::`, which stands for one zero group or more
abbrev pub address_around_gap : List ℕ → List ℕ → Option ℕ
address_around_gap front back =
    if nat_le (length front + length back + 1) most_groups
    then Some (number_from_digits group_base (groups_around_gap front back))
    else None

-- the address of the texts before and after the first `::`; an IPv4 address stands at the very end alone
unfoldable pub address_with_gap : List ℕ → List ℕ → Option ℕ
address_with_gap before after =
    if list_any is_dot before then None
    else option_and_then (λ front. option_and_then (address_around_gap front) (groups_of after)) (groups_of before)

-- the address of a word whose first `::` begins at the place, or that has none
abbrev pub address_at : List ℕ → Option ℕ → Option ℕ
address_at word None = option_and_then address_of_groups (groups_of word)
address_at word (Some place) = address_with_gap (take place word) (drop (place + 2) word)

-- the address that groups joined by `:` spell
unfoldable pub ipv6_of : List ℕ → Option ℕ
ipv6_of word = address_at word (gap_of word)
