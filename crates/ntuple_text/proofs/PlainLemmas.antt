-- The value of a field is written as one word: it has a byte, and each of its bytes is above the blank.
use Rattle.std.proofs.Common.{◌≡◌, ℕ, ◌/◌, ◌%◌, ◌<◌, ◌≤◌, ◌^◌, false, List, [], ◌∷◌, ◌++◌, length, drop, arith, length-append, length-drop, All}
use Rattle.std.specs.Char.{digit_char}
use Rattle.std.specs.Fmt.{decimal}
use Rattle.std.specs.List.{AllByRecursion, flat_map}
use Rattle.std.proofs.lemmas.Bool.Decides.{nat_tests}
use Rattle.std.proofs.lemmas.Fmt.{decimal_is_IsNumeral}
use Rattle.std.proofs.lemmas.List.Elements.{All-nil, All-cons, All-append, All-drop, All-weaker, All-from_get_or}
use Rattle.std.proofs.lemmas.Str.Parse.{digit_at}
use Rattle.vnff_base.specs.Lines.{IsWord, is_blank}
use Rattle.vnff_base.proofs.TextLaws.{above_blanks, digit_char-high}
use Rattle.ntuple_text.specs.Keys.{form_of}
use Rattle.ntuple_text.specs.SpecTexts.{form_range, form_text, four_digits, ipv4_text, ipv6_text, leading_zeros, mac_text, next_piece, piece_text, pieces_text, type_text, value_text}
use Rattle.ntuple_text.specs.declared.key.SpecField.{SpecField}
use Rattle.ntuple_text.specs.declared.key.SpecField.TheVariants.{SrcMac, DstMac, EtherType, SrcIp, DstIp, Tos, TrafficClass, L4Proto, SrcPort, DstPort}
use Rattle.ntuple_text.specs.declared.key.FieldForm.{FieldForm}
use Rattle.ntuple_text.specs.declared.key.FieldForm.TheVariants.{Mac, Ipv4, Ipv6, Bits8, Bits16}
use Rattle.ntuple_text.specs.declared.piece.Spelling.{Spelling}
use Rattle.ntuple_text.specs.declared.piece.Spelling.TheVariants.{MacGroup, Ipv4Byte, Ipv6Group}
use Rattle.ntuple_text.specs.declared.spec.Flow.{Flow}

-- a text without blanks and control bytes
pub record IsPlain (text : List ℕ) : Type 0 where
  pub some : 0 < length text
  pub high : All (λ byte. 33 ≤ byte) text

-- such a text is a word
pub plain-word : (text : List ℕ) → IsPlain text → IsWord text
plain-word text plain =
    record { some = plain.some; whole = All-weaker (λ byte. 33 ≤ byte) (λ byte. is_blank byte ≡ false) above_blanks text plain.high }

-- numbers, in decimal and in hexadecimal digits
pub decimal-plain : (n : ℕ) → n < 2 ^ 64 → IsPlain (decimal n)
decimal-plain n small =
    let digits = decimal_is_IsNumeral n small in
    record {
      some = digits.0.0;
      high = All-from_get_or (λ byte. 33 ≤ byte) (decimal n) 0 (λ i inside. omega (arith, digit_at (decimal n) i digits.0.1 inside));
    }

four-high : (n : ℕ) → All (λ byte. 33 ≤ byte) (four_digits n)
four-high n =
    let P : ℕ → Type 0 = λ byte. 33 ≤ byte in
    let a = digit_char (n / 4096 % 16) in
    let b = digit_char (n / 256 % 16) in
    let c = digit_char (n / 16 % 16) in
    let d = digit_char (n % 16) in
    All-cons P a (b ∷ c ∷ d ∷ []) (digit_char-high _) (All-cons P b (c ∷ d ∷ []) (digit_char-high _) (All-cons P c (d ∷ []) (digit_char-high _) (All-cons P d [] (digit_char-high _) (All-nil P))))

zeros-few : (n : ℕ) → leading_zeros n ≤ 3
zeros-few n = grind (arith, nat_tests)

drop-plain : (k n : ℕ) → k ≤ 3 → IsPlain (drop k (four_digits n))
drop-plain k n few =
    record { some = omega (arith, length-drop k (four_digits n)); high = All-drop (λ byte. 33 ≤ byte) k (four_digits n) (four-high n) }

pub type-plain : (n : ℕ) → IsPlain (type_text n)
unfolding type_text
type-plain n =
    let P : ℕ → Type 0 = λ byte. 33 ≤ byte in
    record { some = omega arith; high = All-cons P 48 (120 ∷ four_digits n) (omega arith) (All-cons P 120 (four_digits n) (omega arith) (four-high n)) }

-- one piece of an address
piece-plain : (s : Spelling) (n : ℕ) → n < 2 ^ 64 → IsPlain (piece_text s n)
unfolding piece_text
piece-plain MacGroup n small = drop-plain 2 n (omega arith)
piece-plain Ipv4Byte n small = decimal-plain n small
piece-plain Ipv6Group n small = drop-plain (leading_zeros n) n (zeros-few n)

-- joined pieces, with a separator that is above the blank
rest-high : (s : Spelling) (separator : ℕ) (rest : List ℕ) → 33 ≤ separator → AllByRecursion (λ n. n < 2 ^ 64) rest → All (λ byte. 33 ≤ byte) (flat_map (next_piece s separator) rest)
rest-high s separator [] high small = All-nil (λ byte. 33 ≤ byte)
rest-high s separator (n ∷ rest) high small =
    let P : ℕ → Type 0 = λ byte. 33 ≤ byte in
    All-cons P separator (piece_text s n ++ flat_map (next_piece s separator) rest) high (All-append P (piece_text s n) (flat_map (next_piece s separator) rest) (piece-plain s n small.0).high (rest-high s separator rest high small.1))

pieces-plain : (s : Spelling) (separator first : ℕ) (rest : List ℕ) → 33 ≤ separator → AllByRecursion (λ n. n < 2 ^ 64) (first ∷ rest) → IsPlain (pieces_text s separator first rest)
pieces-plain s separator first rest high small =
    let piece = piece-plain s first small.0 in
    record {
      some = omega (arith, piece.some, length-append (piece_text s first) (flat_map (next_piece s separator) rest));
      high = All-append (λ byte. 33 ≤ byte) (piece_text s first) (flat_map (next_piece s separator) rest) piece.high (rest-high s separator rest high small.1);
    }

-- addresses
small-byte : (n : ℕ) → n % 256 < 2 ^ 64
small-byte n = omega arith

small-group : (n : ℕ) → n % 65536 < 2 ^ 64
small-group n = omega arith

mac-plain : (v : ℕ) → IsPlain (mac_text v)
unfolding mac_text
mac-plain v =
    let first = v / 0x10000000000 % 256 in
    let rest = (v / 0x100000000 % 256) ∷ (v / 0x1000000 % 256) ∷ (v / 0x10000 % 256) ∷ (v / 0x100 % 256) ∷ (v % 256) ∷ [] in
    let small : AllByRecursion (λ n. n < 2 ^ 64) (first ∷ rest) = (small-byte _, (small-byte _, (small-byte _, (small-byte _, (small-byte _, (small-byte _, tt)))))) in
    pieces-plain MacGroup 58 first rest (omega arith) small

ipv4-plain : (v : ℕ) → IsPlain (ipv4_text v)
unfolding ipv4_text
ipv4-plain v =
    let first = v / 0x1000000 % 256 in
    let rest = (v / 0x10000 % 256) ∷ (v / 0x100 % 256) ∷ (v % 256) ∷ [] in
    let small : AllByRecursion (λ n. n < 2 ^ 64) (first ∷ rest) = (small-byte _, (small-byte _, (small-byte _, (small-byte _, tt)))) in
    pieces-plain Ipv4Byte 46 first rest (omega arith) small

ipv6-plain : (v : ℕ) → IsPlain (ipv6_text v)
unfolding ipv6_text
ipv6-plain v =
    let first = v / 0x10000000000000000000000000000 % 65536 in
    let rest = (v / 0x1000000000000000000000000 % 65536) ∷ (v / 0x100000000000000000000 % 65536) ∷ (v / 0x10000000000000000 % 65536) ∷ (v / 0x1000000000000 % 65536) ∷ (v / 0x100000000 % 65536) ∷ (v / 0x10000 % 65536) ∷ (v % 65536) ∷ [] in
    let small : AllByRecursion (λ n. n < 2 ^ 64) (first ∷ rest) = (small-group _, (small-group _, (small-group _, (small-group _, (small-group _, (small-group _, (small-group _, (small-group _, tt)))))))) in
    pieces-plain Ipv6Group 58 first rest (omega arith) small

-- the value of a field
form-plain : (form : FieldForm) (v : ℕ) → v < form_range form → IsPlain (form_text form v)
unfolding form_text
form-plain Mac v small = mac-plain v
form-plain Ipv4 v small = ipv4-plain v
form-plain Ipv6 v small = ipv6-plain v
form-plain Bits8 v small = decimal-plain v (omega arith)
form-plain Bits16 v small = decimal-plain v (omega arith)

pub value-plain : (flow : Flow) (field : SpecField) (v : ℕ) → v < form_range (form_of flow field) → IsPlain (value_text flow field v)
unfolding value_text
value-plain flow SrcMac v small = mac-plain v
value-plain flow DstMac v small = mac-plain v
value-plain flow EtherType v small = type-plain v
value-plain flow SrcIp v small = form-plain (form_of flow SrcIp) v small
value-plain flow DstIp v small = form-plain (form_of flow DstIp) v small
value-plain flow Tos v small = decimal-plain v (omega arith)
value-plain flow TrafficClass v small = decimal-plain v (omega arith)
value-plain flow L4Proto v small = decimal-plain v (omega arith)
value-plain flow SrcPort v small = decimal-plain v (omega arith)
value-plain flow DstPort v small = decimal-plain v (omega arith)
