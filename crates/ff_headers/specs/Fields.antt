-- The fields of a header as numbers, and which mask a capability allows. Where the fields lie is IEEE 802.3, RFC 791,
-- RFC 8200, RFC 9293 and RFC 768; the flag PARTIAL_MASK is the Virtio 1.4 draft's (flow filter selector capability);
-- which masks are allowed is this project's own.
use Rattle.std.specs.Prelude.{◌≡◌, ℕ, ◌+◌, ◌-◌, ◌*◌, ◌/◌, ◌%◌, ◌^◌, ◌<◌, ◌≤◌, ◌==◌, ◌||◌, ◌⊎◌, Bool, if◌then◌else◌, List, [], ◌∷◌, length, slice_index, bit_and, All}
use Rattle.std.specs.List.{list_all, zip}
use Rattle.ff_headers.specs.SelectorParts.{SelectorParts}
use Rattle.ff_headers.specs.declared.kind.Kind.{Kind}
use Rattle.ff_headers.specs.declared.kind.Kind.TheVariants.{Eth, Ipv4, Ipv6, Tcp, Udp}
use Rattle.ff_headers.specs.declared.field.Field.{Field}

-- the number that bytes spell in network order, the first byte the most significant
abbrev pub number : List ℕ → ℕ
number [] = 0
number (byte ∷ bytes) = byte * 2 ^ (8 * length bytes) + number bytes

-- the number of so many bits from a place on, counted in bits from the most significant one
abbrev pub bits_at : ℕ → ℕ → List ℕ → ℕ
bits_at first bits bytes = number bytes / 2 ^ (8 * length bytes - (first + bits)) % 2 ^ bits

-- the field that begins at this bit and has so many
abbrev pub field : ℕ → ℕ → Field
field first bits = record { first = first; bits = bits }

-- the type of what stands behind an Ethernet header (IEEE 802.3)
abbrev pub ether_type : Field
ether_type = field 96 16

-- the version of an IP header (RFC 791, RFC 8200)
abbrev pub ip_version : Field
ip_version = field 0 4

-- the length of an IPv4 header with its options, in words of 4 bytes (RFC 791, IHL)
abbrev pub ipv4_words : Field
ipv4_words = field 4 4

-- the place of a fragment in its datagram, 0 for the first one (RFC 791)
abbrev pub ipv4_fragment_offset : Field
ipv4_fragment_offset = field 51 13

-- the protocol of what an IPv4 datagram carries (RFC 791)
abbrev pub ipv4_protocol : Field
ipv4_protocol = field 72 8

-- the protocol of what stands behind an IPv6 header (RFC 8200)
abbrev pub ipv6_next_header : Field
ipv6_next_header = field 48 8

-- what a field of a header is as a number
abbrev pub value_at : Field → List ℕ → ℕ
value_at f header = bits_at f.first f.bits header

-- the fields of a header, in order
abbrev pub fields_of : Kind → List Field
-- destination, source, type
fields_of Eth = field 0 48 ∷ field 48 48 ∷ ether_type ∷ []
-- version, header length, type of service, total length, identification, flags, fragment offset, time to live,
-- protocol, checksum, source, destination
fields_of Ipv4 =
    ip_version ∷ ipv4_words ∷ field 8 8 ∷ field 16 16 ∷ field 32 16 ∷ field 48 3 ∷ ipv4_fragment_offset ∷ field 64 8
    ∷ ipv4_protocol ∷ field 80 16 ∷ field 96 32 ∷ field 128 32 ∷ []
-- version, traffic class, flow label, payload length, next header, hop limit, source, destination
fields_of Ipv6 =
    ip_version ∷ field 4 8 ∷ field 12 20 ∷ field 32 16 ∷ ipv6_next_header ∷ field 56 8 ∷ field 64 128
    ∷ field 192 128 ∷ []
-- source port, destination port, sequence, acknowledgement, data offset, reserved bits and flags, window, checksum,
-- urgent pointer
fields_of Tcp =
    field 0 16 ∷ field 16 16 ∷ field 32 32 ∷ field 64 32 ∷ field 96 4 ∷ field 100 12 ∷ field 112 16 ∷ field 128 16
    ∷ field 144 16 ∷ []
-- source port, destination port, length, checksum
fields_of Udp = field 0 16 ∷ field 16 16 ∷ field 32 16 ∷ field 48 16 ∷ []

-- a field lies within a header of so many bytes, and touches at most 16 of them, so that its number has at most 128
-- bits
pub record LiesWithin (size : ℕ) (f : Field) : Type 0 where
  pub inside : f.first + f.bits ≤ 8 * size
  pub short : f.first % 8 + f.bits ≤ 128

-- the selector's mask may be asked for in part: its lowest flag bit, PARTIAL_MASK
abbrev pub is_partial : SelectorParts → Bool
is_partial selector = selector.flags % 2 == 1

-- every bit of a mask is one of another
abbrev pub has_bits : List ℕ → List ℕ → Bool
has_bits have want = list_all (λ p. bit_and p.0 p.1 == p.1) (zip have want)

-- a mask asks for nothing of the field, or for just what another has of it
abbrev pub keeps_field : List ℕ → List ℕ → Field → Bool
keeps_field have want f = (value_at f want == 0) || (value_at f want == value_at f have)

-- whether a capability's selector allows the mask of a selector of its kind
unfoldable pub is_allowed : SelectorParts → SelectorParts → Bool
is_allowed have want =
    if is_partial have then has_bits have.mask want.mask
    else list_all (keeps_field have.mask want.mask) (fields_of have.kind)

-- at each place every bit of a mask is one of another
abbrev pub HasBits : List ℕ → List ℕ → Type 0
HasBits have want =
    (j : ℕ) → j < length want → bit_and (slice_index have j) (slice_index want j) ≡ slice_index want j

-- a mask asks for nothing of each field, or for just what another has of it
abbrev pub KeepsFields : Kind → List ℕ → List ℕ → Type 0
KeepsFields kind have want =
    All (λ f. (value_at f want ≡ 0) ⊎ (value_at f want ≡ value_at f have)) (fields_of kind)

-- a capability's selector allows any of its bits with its lowest flag bit, PARTIAL_MASK, and whole fields without it
pub record IsAllowed (have : SelectorParts) (want : SelectorParts) : Type 0 where
  pub by_bits : have.flags % 2 ≡ 1 → HasBits have.mask want.mask
  pub by_fields : have.flags % 2 ≡ 0 → KeepsFields have.kind have.mask want.mask
