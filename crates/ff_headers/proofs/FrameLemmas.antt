-- What the fields of a frame's headers are in its bytes, and which headers it has by these bytes.
use Rattle.std.proofs.Common.{◌≡◌, ℕ, ◌+◌, ◌-◌, ◌*◌, ◌/◌, ◌%◌, ◌^◌, ◌<◌, ◌≤◌, ◌≢◌, Bool, true, false, ◌&&◌, ◌||◌, cond, bit_and, eqb, leb, List, [], ◌∷◌, length, get_or, take, drop, Option, Some, None, refl, sym, ap, ◌∙◌, arith}
use Rattle.std.specs.Prelude.{is_some, unwrap_or}
use Rattle.std.proofs.lemmas.Bool.{and_parts}
use Rattle.std.proofs.lemmas.Bool.Decides.{nat_tests}
use Rattle.std.proofs.lemmas.List.{get_or-drop, get_or-take, length-take-le, length-drop, drop_more, drop-take, take-take, drop-drop}
use Rattle.std.proofs.lemmas.Nat.{and_mask}
use Rattle.ff_headers.specs.Kinds.{kind_size}
use Rattle.ff_headers.specs.Fields.{number, value_at, ether_type, ip_version, ipv4_words, ipv4_fragment_offset, ipv4_protocol, ipv6_next_header}
use Rattle.ff_headers.specs.Frames.{header_bytes, frame_part, named_part, eth_field, ip_field, names_ip, has_ipv4, has_ipv6, ip_end, ipv4_end, carries, headers_of, ipv4_ether_type, ipv4_version, ipv6_ether_type, ipv6_version, tcp_protocol, udp_protocol}
use Rattle.ff_headers.specs.declared.kind.Kind.{Kind}
use Rattle.ff_headers.specs.declared.kind.Kind.TheVariants.{Eth, Ipv4, Ipv6, Tcp, Udp}
use Rattle.ff_headers.specs.declared.field.Field.{Field}
use Rattle.ff_headers.proofs.FieldLemmas.{AreBytes, are_bytes-take, are_bytes-drop, field_in}

-- ---- bytes at a place

pub length-frame_part : (place size : ℕ) (frame : List ℕ) → place + size ≤ length frame → length (frame_part place size frame) ≡ size
length-frame_part place size frame fits = length-take-le size (drop place frame) (omega (arith, length-drop place frame))

get_or-frame_part : (place size i : ℕ) (frame : List ℕ) → i < size → get_or (frame_part place size frame) i 0 ≡ get_or frame (place + i) 0
get_or-frame_part place size i frame inside = get_or-take size (drop place frame) i 0 inside ∙ get_or-drop place frame i 0

are_bytes-at : (place size : ℕ) (frame : List ℕ) → AreBytes frame → AreBytes (frame_part place size frame)
are_bytes-at place size frame bytes = are_bytes-take size (drop place frame) (are_bytes-drop place frame bytes)

one_byte : (place : ℕ) (frame : List ℕ) → place < length frame → frame_part place 1 frame ≡ get_or frame place 0 ∷ []
one_byte place frame inside = ap (λ (xs : List ℕ). take 1 xs) (drop_more frame place 0 inside)

number-one : (place : ℕ) (frame : List ℕ) → place < length frame → number (frame_part place 1 frame) ≡ get_or frame place 0
number-one place frame inside = rw (one_byte place frame inside) (omega arith)

two_bytes : (place : ℕ) (frame : List ℕ) → place + 1 < length frame → frame_part place 2 frame ≡ get_or frame place 0 ∷ get_or frame (place + 1) 0 ∷ []
two_bytes place frame inside =
    ap (λ (xs : List ℕ). take 2 xs) (drop_more frame place 0 (omega arith))
    ∙ ap (λ (xs : List ℕ). get_or frame place 0 ∷ take 1 xs) (drop_more frame (place + 1) 0 inside)

pub frame_part-within : (place size start span : ℕ) (frame : List ℕ) → start + span ≤ size → frame_part start span (frame_part place size frame) ≡ frame_part (place + start) span frame
frame_part-within place size start span frame within =
    let whole : size ≡ start + (size - start) = omega arith in
    ap (λ n. take span (drop start (take n (drop place frame)))) whole
    ∙ ap (λ (xs : List ℕ). take span xs) (drop-take start (size - start) (drop place frame))
    ∙ take-take span (size - start) (drop start (drop place frame)) (omega arith)
    ∙ ap (λ (xs : List ℕ). take span xs) (drop-drop start place frame)

-- ---- fields

-- a field in a header at a place is in the bytes of the frame that it touches
field_at : (f : Field) (frame : List ℕ) (place size start end span : ℕ) → AreBytes frame → place + size ≤ length frame → start + span ≤ size
    → f.first + f.bits ≡ 8 * start + end → f.bits ≤ end → end ≤ 8 * span
    → value_at f (frame_part place size frame) ≡ number (frame_part (place + start) span frame) / 2 ^ (8 * span - end) % 2 ^ f.bits
field_at f frame place size start end span bytes fits within at inside room =
    sym (field_in f (frame_part place size frame) start end span (are_bytes-at place size frame bytes) at inside room (omega (arith, length-frame_part place size frame fits)))
    ∙ ap (λ bs. number bs / 2 ^ (8 * span - end) % 2 ^ f.bits) (frame_part-within place size start span frame within)

some_bytes : (kind : Kind) → 0 + 1 ≤ kind_size kind
some_bytes Eth = omega arith
some_bytes Ipv4 = omega arith
some_bytes Ipv6 = omega arith
some_bytes Tcp = omega arith
some_bytes Udp = omega arith

one_below : (n : ℕ) → n < 256 → n / 2 ^ 0 % 2 ^ 8 ≡ n
one_below n below = omega arith

two_below : (place : ℕ) (frame : List ℕ) → AreBytes frame → place + 1 < length frame → number (frame_part place 2 frame) < 65536
two_below place frame bytes inside = rw (two_bytes place frame inside) (omega (arith, bytes place, bytes (place + 1)))

pub ether_type-bytes : (frame : List ℕ) → AreBytes frame → 14 ≤ length frame → eth_field ether_type frame ≡ number (frame_part 12 2 frame)
unfolding eth_field
ether_type-bytes frame bytes long =
    field_at ether_type frame 0 14 12 16 2 bytes long (omega arith) refl (omega arith) (omega arith)
    ∙ same (number (frame_part 12 2 frame)) (two_below 12 frame bytes (omega arith))
  where
    same : (n : ℕ) → n < 65536 → n / 2 ^ 0 % 2 ^ 16 ≡ n
    same n below = omega arith

pub version-byte : (kind : Kind) (frame : List ℕ) → AreBytes frame → 14 + kind_size kind ≤ length frame → ip_field kind ip_version frame ≡ get_or frame 14 0 / 16
unfolding ip_field
version-byte kind frame bytes long =
    field_at ip_version frame 14 (kind_size kind) 0 4 1 bytes long (some_bytes kind) refl (omega arith) (omega arith)
    ∙ ap (λ n. n / 2 ^ 4 % 2 ^ 4) (number-one 14 frame (omega (arith, some_bytes kind)))
    ∙ same (get_or frame 14 0) (bytes 14)
  where
    same : (n : ℕ) → n < 256 → n / 2 ^ 4 % 2 ^ 4 ≡ n / 16
    same n below = omega arith

pub words-byte : (frame : List ℕ) → AreBytes frame → 34 ≤ length frame → ip_field Ipv4 ipv4_words frame ≡ get_or frame 14 0 % 16
unfolding ip_field
words-byte frame bytes long =
    field_at ipv4_words frame 14 20 0 8 1 bytes long (omega arith) refl (omega arith) (omega arith)
    ∙ ap (λ n. n / 2 ^ 0 % 2 ^ 4) (number-one 14 frame (omega arith))
    ∙ same (get_or frame 14 0)
  where
    same : (n : ℕ) → n / 2 ^ 0 % 2 ^ 4 ≡ n % 16
    same n = omega arith

pub fragment-bytes : (frame : List ℕ) → AreBytes frame → 34 ≤ length frame → ip_field Ipv4 ipv4_fragment_offset frame ≡ number (frame_part 20 2 frame) % 8192
unfolding ip_field
fragment-bytes frame bytes long =
    field_at ipv4_fragment_offset frame 14 20 6 16 2 bytes long (omega arith) refl (omega arith) (omega arith)
    ∙ same (number (frame_part 20 2 frame))
  where
    same : (n : ℕ) → n / 2 ^ 0 % 2 ^ 13 ≡ n % 8192
    same n = omega arith

pub protocol-byte : (frame : List ℕ) → AreBytes frame → 34 ≤ length frame → ip_field Ipv4 ipv4_protocol frame ≡ get_or frame 23 0
unfolding ip_field
protocol-byte frame bytes long =
    field_at ipv4_protocol frame 14 20 9 8 1 bytes long (omega arith) refl (omega arith) (omega arith)
    ∙ ap (λ n. n / 2 ^ 0 % 2 ^ 8) (number-one 23 frame (omega arith))
    ∙ one_below (get_or frame 23 0) (bytes 23)

pub next_header-byte : (frame : List ℕ) → AreBytes frame → 54 ≤ length frame → ip_field Ipv6 ipv6_next_header frame ≡ get_or frame 20 0
unfolding ip_field
next_header-byte frame bytes long =
    field_at ipv6_next_header frame 14 40 6 8 1 bytes long (omega arith) refl (omega arith) (omega arith)
    ∙ ap (λ n. n / 2 ^ 0 % 2 ^ 8) (number-one 20 frame (omega arith))
    ∙ one_below (get_or frame 20 0) (bytes 20)

-- ---- the tests on a frame, in its bytes

pub names_ip-bytes : (kind : Kind) (type version : ℕ) (frame : List ℕ) → AreBytes frame
    → names_ip kind type version frame ≡ (leb (14 + kind_size kind) (length frame) && (eqb (number (frame_part 12 2 frame)) type && eqb (get_or frame 14 0 / 16) version))
unfolding names_ip
names_ip-bytes kind type version frame bytes = by_length (leb (14 + kind_size kind) (length frame)) refl
  where
    by_length : (b : Bool) → leb (14 + kind_size kind) (length frame) ≡ b
        → (b && (eqb (eth_field ether_type frame) type && eqb (ip_field kind ip_version frame) version)) ≡ (b && (eqb (number (frame_part 12 2 frame)) type && eqb (get_or frame 14 0 / 16) version))
    by_length true is =
        let long : 14 + kind_size kind ≤ length frame = grind (arith, nat_tests) in
        rw (ether_type-bytes frame bytes (omega arith), version-byte kind frame bytes long) refl
    by_length false is = refl

pub names_ip-cut : (kind : Kind) (type version : ℕ) (frame : List ℕ) → length frame < 14 + kind_size kind → false ≡ names_ip kind type version frame
unfolding names_ip
names_ip-cut kind type version frame short = grind (arith, nat_tests)

pub names_ip-other : (kind : Kind) (type version n : ℕ) (frame : List ℕ) → AreBytes frame → n ≡ number (frame_part 12 2 frame) → n ≢ type → eqb n type ≡ names_ip kind type version frame
names_ip-other kind type version n frame bytes is other = rw (names_ip-bytes kind type version frame bytes) (grind (arith, nat_tests))

pub names_ip-version : (kind : Kind) (type version n : ℕ) (frame : List ℕ) → AreBytes frame → 14 + kind_size kind ≤ length frame → n ≡ number (frame_part 12 2 frame) → n ≡ type
    → eqb (get_or frame 14 0 / 16) version ≡ names_ip kind type version frame
names_ip-version kind type version n frame bytes long is same = rw (names_ip-bytes kind type version frame bytes) (grind (arith, nat_tests))

-- a frame that names an IP header has its bytes
pub named_is_long : (kind : Kind) (type version : ℕ) (frame : List ℕ) → names_ip kind type version frame ≡ true → 14 + kind_size kind ≤ length frame
unfolding names_ip
named_is_long kind type version frame is = grind (arith, nat_tests)

-- ---- the IPv4 header

pub ipv4_unnamed : (frame : List ℕ) → names_ip Ipv4 ipv4_ether_type ipv4_version frame ≡ false → has_ipv4 frame ≡ false
unfolding has_ipv4
ipv4_unnamed frame is = rw is refl

pub ipv4_by_words : (frame : List ℕ) (words : ℕ) → AreBytes frame → names_ip Ipv4 ipv4_ether_type ipv4_version frame ≡ true → words ≡ bit_and (get_or frame 14 0) 15
    → (has_ipv4 frame ≡ (leb 5 words && leb (14 + 4 * words) (length frame))) × (ipv4_end frame ≡ 14 + 4 * words)
unfolding has_ipv4
ipv4_by_words frame words bytes named is =
    let long : 34 ≤ length frame = named_is_long Ipv4 ipv4_ether_type ipv4_version frame named in
    let same : ip_field Ipv4 ipv4_words frame ≡ words = words-byte frame bytes long ∙ sym (is ∙ and_mask (get_or frame 14 0) 4) in
    (rw (named, same) refl, rw same refl)

pub ipv4_end_by_words : (frame : List ℕ) (words : ℕ) (end : Option ℕ) → AreBytes frame → names_ip Ipv4 ipv4_ether_type ipv4_version frame ≡ true → words ≡ bit_and (get_or frame 14 0) 15
    → end ≡ cond (leb 5 words && leb (14 + 4 * words) (length frame)) (Some (14 + 4 * words)) None
    → end ≡ cond (has_ipv4 frame) (Some (ipv4_end frame)) None
ipv4_end_by_words frame words end bytes named is result =
    let e = ipv4_by_words frame words bytes named is in
    rw (e.0, e.1) result

pub ipv4_is_named : (frame : List ℕ) → has_ipv4 frame ≡ true → names_ip Ipv4 ipv4_ether_type ipv4_version frame ≡ true
unfolding has_ipv4
ipv4_is_named frame is = (and_parts _ _ is).0

pub ipv4_is_long : (frame : List ℕ) → has_ipv4 frame ≡ true → 34 ≤ length frame
ipv4_is_long frame is = named_is_long Ipv4 ipv4_ether_type ipv4_version frame (ipv4_is_named frame is)

pub ipv6_is_long : (frame : List ℕ) → has_ipv6 frame ≡ true → 54 ≤ length frame
ipv6_is_long frame is = named_is_long Ipv6 ipv6_ether_type ipv6_version frame is

-- ---- all headers

two_types : (t m n : ℕ) (a b c d : Bool) → m ≢ n → (a && (eqb t m && b)) ≡ true → (c && (eqb t n && d)) ≡ false
two_types t m n a b c d apart is = grind (arith, nat_tests)

-- a frame has one type, and so one IP header at most
pub one_ip : (frame : List ℕ) → has_ipv4 frame ≡ true → has_ipv6 frame ≡ false
unfolding names_ip
one_ip frame is =
    two_types (eth_field ether_type frame) ipv4_ether_type ipv6_ether_type _ _ _ _ (omega arith) (ipv4_is_named frame is)

pub carries_over_ipv4 : (frame : List ℕ) (protocol n : ℕ) → AreBytes frame → has_ipv4 frame ≡ true → n ≡ number (frame_part 20 2 frame)
    → carries protocol frame ≡ (eqb (bit_and n 8191) 0 && eqb (get_or frame 23 0) protocol)
unfolding carries
carries_over_ipv4 frame protocol n bytes is two =
    let long = ipv4_is_long frame is in
    let offset : ip_field Ipv4 ipv4_fragment_offset frame ≡ bit_and n 8191 = fragment-bytes frame bytes long ∙ ap (λ m. m % 8192) (sym two) ∙ sym (and_mask n 13) in
    rw (is, one_ip frame is, protocol-byte frame bytes long, offset) (turned (eqb (get_or frame 23 0) protocol) (eqb (bit_and n 8191) 0))
  where
    turned : (a b : Bool) → ((a && b) || false) ≡ (b && a)
    turned true true = refl
    turned true false = refl
    turned false true = refl
    turned false false = refl

pub carries_over_ipv6 : (frame : List ℕ) (protocol : ℕ) → AreBytes frame → has_ipv4 frame ≡ false → has_ipv6 frame ≡ true
    → carries protocol frame ≡ eqb (get_or frame 20 0) protocol
unfolding carries
carries_over_ipv6 frame protocol bytes without is = rw (without, is, next_header-byte frame bytes (ipv6_is_long frame is)) refl

pub carries_nothing : (frame : List ℕ) (protocol : ℕ) → has_ipv4 frame ≡ false → has_ipv6 frame ≡ false → carries protocol frame ≡ false
unfolding carries
carries_nothing frame protocol without neither = rw (without, neither) refl

-- the headers, by what names them and where the IPv4 header ends
pub headers_by : (frame : List ℕ) (ipv4 : Option ℕ) → ipv4 ≡ cond (has_ipv4 frame) (Some (ipv4_end frame)) None
    → header_bytes (named_part true 0 14 frame) (named_part (is_some ipv4) 14 20 frame) (named_part (has_ipv6 frame) 14 40 frame)
    (named_part (carries tcp_protocol frame) (unwrap_or ipv4 54) 20 frame) (named_part (carries udp_protocol frame) (unwrap_or ipv4 54) 8 frame) ≡ headers_of frame
unfolding headers_of ip_end
headers_by frame ipv4 is = rw is (by_ipv4 (has_ipv4 frame) refl)
  where
    by_ipv4 : (b : Bool) → has_ipv4 frame ≡ b
        → header_bytes (named_part true 0 14 frame) (named_part (is_some (cond b (Some (ipv4_end frame)) None)) 14 20 frame) (named_part (has_ipv6 frame) 14 40 frame)
        (named_part (carries tcp_protocol frame) (unwrap_or (cond b (Some (ipv4_end frame)) None) 54) 20 frame)
        (named_part (carries udp_protocol frame) (unwrap_or (cond b (Some (ipv4_end frame)) None) 54) 8 frame)
        ≡ header_bytes (named_part true 0 14 frame) (named_part b 14 20 frame) (named_part (has_ipv6 frame) 14 40 frame)
        (named_part (carries tcp_protocol frame) (cond b (ipv4_end frame) 54) 20 frame) (named_part (carries udp_protocol frame) (cond b (ipv4_end frame) 54) 8 frame)
    by_ipv4 true e = refl
    by_ipv4 false e = refl
