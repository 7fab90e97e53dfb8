-- The headers of a frame: for each kind a condition on the whole frame, and the place of its header. The layouts are
-- those of IEEE 802.3, RFC 791, RFC 8200, RFC 9293 and RFC 768; which headers a frame has is this project's own.
use Rattle.std.specs.Prelude.{◌≡◌, ℕ, ◌+◌, ◌*◌, Bool, true, ◌&&◌, ◌||◌, ◌==◌, List, take, drop, length, nat_le, Option, Some, None, IfSome, if◌then◌else◌}
use Rattle.ff_headers.specs.Kinds.{kind_size}
use Rattle.ff_headers.specs.Fields.{value_at, ether_type, ip_version, ipv4_words, ipv4_fragment_offset, ipv4_protocol, ipv6_next_header}
use Rattle.ff_headers.specs.declared.kind.Kind.{Kind}
use Rattle.ff_headers.specs.declared.kind.Kind.TheVariants.{Eth, Ipv4, Ipv6, Tcp, Udp}
use Rattle.ff_headers.specs.declared.field.Field.{Field}

-- the bytes of each header that a frame has
pub record HeaderBytes : Type 0 where
  pub eth : Option (List ℕ)
  pub ipv4 : Option (List ℕ)
  pub ipv6 : Option (List ℕ)
  pub tcp : Option (List ℕ)
  pub udp : Option (List ℕ)

-- the headers with these bytes
abbrev pub header_bytes :
    Option (List ℕ) → Option (List ℕ) → Option (List ℕ) → Option (List ℕ) → Option (List ℕ) → HeaderBytes
header_bytes e v4 v6 t u = record { eth = e; ipv4 = v4; ipv6 = v6; tcp = t; udp = u }

-- the header of a kind, where it is held
abbrev pub header_at : HeaderBytes → Kind → Option (List ℕ)
header_at h Eth = h.eth
header_at h Ipv4 = h.ipv4
header_at h Ipv6 = h.ipv6
header_at h Tcp = h.tcp
header_at h Udp = h.udp

-- each header that is held has its kind's size
pub record HasSizes (h : HeaderBytes) : Type 0 where
  pub eth : IfSome h.eth (λ v. length v ≡ kind_size Eth)
  pub ipv4 : IfSome h.ipv4 (λ v. length v ≡ kind_size Ipv4)
  pub ipv6 : IfSome h.ipv6 (λ v. length v ≡ kind_size Ipv6)
  pub tcp : IfSome h.tcp (λ v. length v ≡ kind_size Tcp)
  pub udp : IfSome h.udp (λ v. length v ≡ kind_size Udp)

-- the type that names an IPv4 header (RFC 894)
abbrev pub ipv4_ether_type : ℕ
ipv4_ether_type = 0x0800

-- the type that names an IPv6 header (RFC 2464)
abbrev pub ipv6_ether_type : ℕ
ipv6_ether_type = 0x86DD

-- the version in an IPv4 header (RFC 791)
abbrev pub ipv4_version : ℕ
ipv4_version = 4

-- the version in an IPv6 header (RFC 8200)
abbrev pub ipv6_version : ℕ
ipv6_version = 6

-- the words of 4 bytes in an IPv4 header without options (RFC 791)
abbrev pub ipv4_least_words : ℕ
ipv4_least_words = 5

-- the protocol of TCP (RFC 9293)
abbrev pub tcp_protocol : ℕ
tcp_protocol = 6

-- the protocol of UDP (RFC 768)
abbrev pub udp_protocol : ℕ
udp_protocol = 17

-- so many bytes from a place on
abbrev pub frame_part : ℕ → ℕ → List ℕ → List ℕ
frame_part place size frame = take size (drop place frame)

-- the frame has so many bytes
abbrev pub reaches : ℕ → List ℕ → Bool
reaches end frame = nat_le end (length frame)

-- an IP header begins where the Ethernet header ends (IEEE 802.3)
abbrev pub ip_place : ℕ
ip_place = kind_size Eth

-- a field of the Ethernet header
unfoldable pub eth_field : Field → List ℕ → ℕ
eth_field f frame = value_at f (frame_part 0 (kind_size Eth) frame)

-- a field of the IP header of a kind
unfoldable pub ip_field : Kind → Field → List ℕ → ℕ
ip_field kind f frame = value_at f (frame_part ip_place (kind_size kind) frame)

-- the bytes of an IP header are there, the frame's type names it, and its version is its kind's
unfoldable pub names_ip : Kind → ℕ → ℕ → List ℕ → Bool
names_ip kind type version frame =
    reaches (ip_place + kind_size kind) frame
    && ((eth_field ether_type frame == type) && (ip_field kind ip_version frame == version))

-- where an IPv4 header ends, with its options
abbrev pub ipv4_end : List ℕ → ℕ
ipv4_end frame = ip_place + 4 * ip_field Ipv4 ipv4_words frame

-- where an IPv6 header ends; what follows it may be a further header (RFC 8200)
abbrev pub ipv6_end : ℕ
ipv6_end = ip_place + kind_size Ipv6

-- the frame has an IPv4 header, of at least its least length, with all its options
unfoldable pub has_ipv4 : List ℕ → Bool
has_ipv4 frame =
    names_ip Ipv4 ipv4_ether_type ipv4_version frame
    && (nat_le ipv4_least_words (ip_field Ipv4 ipv4_words frame) && reaches (ipv4_end frame) frame)

-- the frame has an IPv6 header
abbrev pub has_ipv6 : List ℕ → Bool
has_ipv6 frame = names_ip Ipv6 ipv6_ether_type ipv6_version frame

-- where the IP header ends
unfoldable pub ip_end : List ℕ → ℕ
ip_end frame = if has_ipv4 frame then ipv4_end frame else ipv6_end

-- the IP header names the protocol, and an IPv4 datagram begins in this frame: a later fragment has no ports
unfoldable pub carries : ℕ → List ℕ → Bool
carries protocol frame =
    (has_ipv4 frame
    && ((ip_field Ipv4 ipv4_protocol frame == protocol) && (ip_field Ipv4 ipv4_fragment_offset frame == 0)))
    || (has_ipv6 frame && (ip_field Ipv6 ipv6_next_header frame == protocol))

-- the frame names a header of the kind: the Ethernet header always, an IP header by type, and a port header by protocol
abbrev pub is_named : Kind → List ℕ → Bool
is_named Eth frame = true
is_named Ipv4 frame = has_ipv4 frame
is_named Ipv6 frame = has_ipv6 frame
is_named Tcp frame = carries tcp_protocol frame
is_named Udp frame = carries udp_protocol frame

-- where the frame's header of the kind begins
abbrev pub place_in : Kind → List ℕ → ℕ
place_in Eth frame = 0
place_in Ipv4 frame = ip_place
place_in Ipv6 frame = ip_place
place_in Tcp frame = ip_end frame
place_in Udp frame = ip_end frame

-- so many bytes from a place on, where they are named and the frame has as many
abbrev pub named_part : Bool → ℕ → ℕ → List ℕ → Option (List ℕ)
named_part named place size frame =
    if named && reaches (place + size) frame then Some (frame_part place size frame) else None

-- the frame's header of the kind, without options
abbrev pub header_of : Kind → List ℕ → Option (List ℕ)
header_of kind frame = named_part (is_named kind frame) (place_in kind frame) (kind_size kind) frame

-- the headers of a frame
unfoldable pub headers_of : List ℕ → HeaderBytes
headers_of frame =
    header_bytes (header_of Eth frame) (header_of Ipv4 frame) (header_of Ipv6 frame) (header_of Tcp frame)
    (header_of Udp frame)
