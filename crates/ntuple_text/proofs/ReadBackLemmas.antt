-- What is written of a number is read back.
use Rattle.std.proofs.Common.{◌≡◌, ℕ, ◌+◌, ◌/◌, ◌%◌, ◌<◌, ◌≤◌, ◌^◌, true, false, ◌&&◌, ◌||◌, eqb, ltb, leb, List, [], ◌∷◌, length, drop, get_or, sym, ap, ◌∙◌, Some, None, Ok, Err, refl, arith, ⊎_elim, ◌++◌, map, append-nil, count_by, length-append}
use Rattle.std.specs.Char.{digit_char, is_ascii_digit, is_ascii_hexdigit}
use Rattle.std.specs.Fmt.{decimal}
use Rattle.std.specs.Option.{ok_or}
use Rattle.std.proofs.lemmas.Bool.{cond-true, cond-false, and_from, ne_eqb, eq-eqb, lt-ltb, le-leb, cases_lt, false≢true}
use Rattle.std.proofs.lemmas.Fmt.{decimal_is_IsNumeral, decimal_digit, first_decimal}
use Rattle.std.proofs.lemmas.Str.Parse.{digit_at}
use Rattle.vnff_base.specs.Numbers.{number_of}
use Rattle.vnff_base.proofs.HexLemmas.{digit_char-read}
use Rattle.vnff_base.proofs.NumberLemmas.{number_of-decimal}
use Rattle.ntuple_text.specs.Numerals.{hex_number, is_hexadecimal, is_octal, numeral_of, numeral_up_to, if_at_most}
use Rattle.std.specs.Int.Digits.{number_from_digits}
use Rattle.std.specs.List.{All, AllByRecursion, flat_map, slice_split, list_all, list_any}
use Rattle.std.specs.Option.{option_map, option_and_then}
use Rattle.std.proofs.lemmas.List.{length-map}
use Rattle.std.proofs.lemmas.List.Elements.{All-nil, All-cons, All-from_get_or}
use Rattle.ntuple_text.specs.Addresses.{address_at, all_groups, address_of_bytes, at_most_eight_groups, groups_of, ipv4_of, ipv6_of, is_dot, last_groups, mac_of, address_of_groups}
use Rattle.ntuple_text.proofs.Ipv6Lemmas.{gap-piece, gap-rest, group-no_dot, group-plain, group-read, group-some}
use Rattle.std.specs.Str.Parse.{digits_value}
use Rattle.std.proofs.lemmas.List.Splits.{slice_split_at, slice_split_none, length-slice_split}
use Rattle.ntuple_text.specs.Pieces.{byte_within, front_of, is_separator, piece_of, pieces_of}
use Rattle.ntuple_text.specs.SpecTexts.{four_digits, ipv4_text, ipv6_text, mac_text, next_piece, piece_text, pieces_text, type_text}
use Rattle.ntuple_text.specs.declared.piece.Spelling.{Spelling}
use Rattle.ntuple_text.specs.declared.piece.Spelling.TheVariants.{MacGroup, Ipv4Byte, Ipv6Group}
use Rattle.ntuple_text.specs.declared.error.Fault.TheVariants.{Number}

-- a decimal number of several digits begins with no zero
first_not_zero : (n : ℕ) → 0 < n → n < 2 ^ 64 → eqb (get_or (decimal n) 0 0) 48 ≡ false
first_not_zero n some small = ne_eqb _ 48 (λ e. omega (arith, first_decimal n some small))

plain_decimal : (n : ℕ) → n < 2 ^ 64 → (is_octal (decimal n) ≡ false) × (is_hexadecimal (decimal n) ≡ false)
plain_decimal n small =
    ⊎_elim (λ zero. let is : decimal n ≡ (48 + n) ∷ [] = decimal_digit n (omega arith) in
    let none : n ≡ 0 = omega arith in
    let word : decimal n ≡ 48 ∷ [] = is ∙ ap (λ k. (48 + k) ∷ []) none in
    (ap is_octal word, ap is_hexadecimal word))
    (λ some. let no = first_not_zero n some small in
    (cc (ap (λ b. b && is_ascii_digit (get_or (decimal n) 1 0)) no), cc (ap (λ b. b && (eqb (get_or (decimal n) 1 0) 120 || eqb (get_or (decimal n) 1 0) 88)) no)))
    (cases_lt n 1)

pub numeral_of-decimal : (n : ℕ) → n < 2 ^ 64 → numeral_of (decimal n) ≡ Ok n
unfolding numeral_of
numeral_of-decimal n small =
    let plain = plain_decimal n small in
    cond-false (is_octal (decimal n)) _ _ plain.0 ∙ (ap (λ o. ok_or o Number) (cond-false (is_hexadecimal (decimal n)) (hex_number (drop 2 (decimal n))) (number_of (decimal n)) plain.1) ∙ ap (λ o. ok_or o Number) (number_of-decimal (decimal n) n small refl))

pub numeral_up_to-decimal : (most n : ℕ) → most < 2 ^ 64 → n ≤ most → numeral_up_to most (decimal n) ≡ Ok n
unfolding numeral_up_to
numeral_up_to-decimal most n small within =
    ap (if_at_most most) (numeral_of-decimal n (omega arith)) ∙ cond-true (leb n most) (Ok n) _ (le-leb n most within)

-- a digit that is written is one that is read
four-hex : (n : ℕ) → list_all is_ascii_hexdigit (four_digits n) ≡ true
four-hex n =
    and_from _ _ (digit_char-read (n / 4096 % 16) (omega arith)).1 (and_from _ _ (digit_char-read (n / 256 % 16) (omega arith)).1 (and_from _ _ (digit_char-read (n / 16 % 16) (omega arith)).1 (and_from _ _ (digit_char-read (n % 16) (omega arith)).1 refl)))

four-value : (n : ℕ) → n < 65536 → digits_value 16 (four_digits n) ≡ n
four-value n small =
    let a = (digit_char-read (n / 4096 % 16) (omega arith)).0 in
    let b = (digit_char-read (n / 256 % 16) (omega arith)).0 in
    let c = (digit_char-read (n / 16 % 16) (omega arith)).0 in
    let d = (digit_char-read (n % 16) (omega arith)).0 in
    rw (a, b, c, d) (omega arith)

hex_number-four : (n : ℕ) → n < 65536 → hex_number (four_digits n) ≡ Some n
unfolding hex_number
hex_number-four n small =
    let value = four-value n small in
    let below : ltb (digits_value 16 (four_digits n)) (2 ^ 64) ≡ true = lt-ltb _ _ (omega (arith, value)) in
    cond-true _ (Some (digits_value 16 (four_digits n))) None (and_from _ _ (four-hex n) below) ∙ ap Some value

pub numeral_up_to-type : (n : ℕ) → n < 65536 → numeral_up_to 65535 (type_text n) ≡ Ok n
unfolding numeral_up_to numeral_of type_text
numeral_up_to-type n small =
    ap (λ o. if_at_most 65535 (ok_or o Number)) (hex_number-four n small) ∙ cond-true (leb n 65535) (Ok n) (Err Number) (le-leb n 65535 (omega arith))

-- a piece that is read back, and that has no separator
record IsReadBack (s : Spelling) (separator n : ℕ) : Type 0 where
  read : piece_of s (piece_text s n) ≡ Some n
  plain : All (λ b. is_separator separator b ≡ false) (piece_text s n)

-- pieces without separators are cut where they were joined
split-pieces : (s : Spelling) (separator first : ℕ) (rest : List ℕ) → AllByRecursion (IsReadBack s separator) (first ∷ rest) → slice_split (is_separator separator) (pieces_text s separator first rest) ≡ piece_text s first ∷ map (piece_text s) rest
split-pieces s separator first [] good =
    ap (slice_split (is_separator separator)) (append-nil (piece_text s first)) ∙ slice_split_none (is_separator separator) (piece_text s first) good.0.plain
split-pieces s separator first (n ∷ rest) good =
    slice_split_at (is_separator separator) (piece_text s first) separator (pieces_text s separator n rest) good.0.plain (eq-eqb separator separator refl) ∙ ap (λ parts. piece_text s first ∷ parts) (split-pieces s separator n rest good.1)

-- all numbers but the last, and the last
abbrev init_of : ℕ → List ℕ → List ℕ
init_of first [] = []
init_of first (n ∷ rest) = first ∷ init_of n rest

abbrev last_of : ℕ → List ℕ → ℕ
last_of first [] = first
last_of first (n ∷ rest) = last_of n rest

read-front : (s : Spelling) (separator first : ℕ) (rest : List ℕ) → AllByRecursion (IsReadBack s separator) (first ∷ rest) → front_of s (piece_text s first ∷ map (piece_text s) rest) ≡ Some (init_of first rest, piece_text s (last_of first rest))
read-front s separator first [] good = refl
read-front s separator first (n ∷ rest) good =
    let more = front_of s (piece_text s n ∷ map (piece_text s) rest) in
    ap (option_and_then (λ m. option_map (λ pieces. (m ∷ pieces.0, pieces.1)) more)) good.0.read ∙ ap (option_map (λ pieces. (first ∷ pieces.0, pieces.1))) (read-front s separator n rest good.1)

read-pieces : (s : Spelling) (separator first : ℕ) (rest : List ℕ) → AllByRecursion (IsReadBack s separator) (first ∷ rest) → length rest < 8 → pieces_of s separator (pieces_text s separator first rest) ≡ Some (init_of first rest, piece_text s (last_of first rest))
unfolding pieces_of
read-pieces s separator first rest good few =
    let p = is_separator separator in
    let text = pieces_text s separator first rest in
    let cut = split-pieces s separator first rest good in
    let count : count_by p text < 8 = omega (arith, length-slice_split p text, ap length cut, length-map rest (piece_text s), few) in
    cond-true (ltb (count_by p text) 8) (front_of s (slice_split p text)) None (lt-ltb _ _ count) ∙ (ap (front_of s) cut ∙ read-front s separator first rest good)

no_colon : (d : ℕ) → d < 16 → is_separator 58 (digit_char d) ≡ false
no_colon d small = ne_eqb _ 58 (λ is. false≢true (sym (ap is_ascii_hexdigit is) ∙ (digit_char-read d small).1))

two-number : (n : ℕ) → n < 256 → hex_number (digit_char (n / 16 % 16) ∷ digit_char (n % 16) ∷ []) ≡ Some n
unfolding hex_number
two-number n small =
    let digits = digit_char (n / 16 % 16) ∷ digit_char (n % 16) ∷ [] in
    let a = digit_char-read (n / 16 % 16) (omega arith) in
    let b = digit_char-read (n % 16) (omega arith) in
    let value : digits_value 16 digits ≡ n = rw (a.0, b.0) (omega arith) in
    let below : ltb (digits_value 16 digits) (2 ^ 64) ≡ true = lt-ltb _ _ (omega (arith, value)) in
    cond-true _ (Some (digits_value 16 digits)) None (and_from _ _ (and_from _ _ a.1 (and_from _ _ b.1 refl)) below) ∙ ap Some value

mac-piece : (n : ℕ) → n < 256 → IsReadBack MacGroup 58 n
unfolding piece_of piece_text
mac-piece n small =
    let P : ℕ → Type 0 = λ b. is_separator 58 b ≡ false in
    record { read = two-number n small; plain = All-cons P (digit_char (n / 16 % 16)) (digit_char (n % 16) ∷ []) (no_colon (n / 16 % 16) (omega arith)) (All-cons P (digit_char (n % 16)) [] (no_colon (n % 16) (omega arith)) (All-nil P)) }

mac-value : (v : ℕ) → v < 2 ^ 48 → number_from_digits 256 ((v / 0x10000000000 % 256) ∷ (v / 0x100000000 % 256) ∷ (v / 0x1000000 % 256) ∷ (v / 0x10000 % 256) ∷ (v / 0x100 % 256) ∷ (v % 256) ∷ []) ≡ v
mac-value v small = omega arith

pub mac_of-mac_text : (v : ℕ) → v < 2 ^ 48 → mac_of (mac_text v) ≡ Some v
unfolding mac_of mac_text
mac_of-mac_text v small =
    let first = v / 0x10000000000 % 256 in
    let rest = (v / 0x100000000 % 256) ∷ (v / 0x1000000 % 256) ∷ (v / 0x10000 % 256) ∷ (v / 0x100 % 256) ∷ (v % 256) ∷ [] in
    let byte : (n : ℕ) → IsReadBack MacGroup 58 (n % 256) = λ n. mac-piece (n % 256) (omega arith) in
    let good : AllByRecursion (IsReadBack MacGroup 58) (first ∷ rest) = (byte _, (byte _, (byte _, (byte _, (byte _, (byte _, tt)))))) in
    ap (option_and_then (address_of_bytes MacGroup 6)) (read-pieces MacGroup 58 first rest good (omega arith)) ∙ (ap (option_and_then (λ last. Some (number_from_digits 256 (init_of first rest ++ last ∷ [])))) (byte v).read ∙ ap Some (mac-value v small))

byte-read : (n : ℕ) → n < 256 → byte_within (number_of (decimal n)) ≡ Some n
byte-read n small = ap byte_within (number_of-decimal (decimal n) n (omega arith) refl) ∙ cond-true (ltb n 256) (Some n) None (lt-ltb n 256 small)

ipv4-piece : (n : ℕ) → n < 256 → IsReadBack Ipv4Byte 46 n
unfolding piece_of piece_text
ipv4-piece n small =
    let digits = decimal_is_IsNumeral n (omega arith) in
    record {
      read = byte-read n small;
      plain = All-from_get_or (λ b. is_separator 46 b ≡ false) (decimal n) 0 (λ i inside. ne_eqb _ 46 (λ is. omega (arith, digit_at (decimal n) i digits.0.1 inside)));
    }

ipv4-value : (v : ℕ) → v < 2 ^ 32 → number_from_digits 256 ((v / 0x1000000 % 256) ∷ (v / 0x10000 % 256) ∷ (v / 0x100 % 256) ∷ (v % 256) ∷ []) ≡ v
ipv4-value v small = omega arith

pub ipv4_of-ipv4_text : (v : ℕ) → v < 2 ^ 32 → ipv4_of (ipv4_text v) ≡ Some v
unfolding ipv4_of ipv4_text
ipv4_of-ipv4_text v small =
    let first = v / 0x1000000 % 256 in
    let rest = (v / 0x10000 % 256) ∷ (v / 0x100 % 256) ∷ (v % 256) ∷ [] in
    let byte : (n : ℕ) → IsReadBack Ipv4Byte 46 (n % 256) = λ n. ipv4-piece (n % 256) (omega arith) in
    let good : AllByRecursion (IsReadBack Ipv4Byte 46) (first ∷ rest) = (byte _, (byte _, (byte _, (byte _, tt)))) in
    ap (option_and_then (address_of_bytes Ipv4Byte 4)) (read-pieces Ipv4Byte 46 first rest good (omega arith)) ∙ (ap (option_and_then (λ last. Some (number_from_digits 256 (init_of first rest ++ last ∷ [])))) (byte v).read ∙ ap Some (ipv4-value v small))

group-piece : (n : ℕ) → n < 65536 → IsReadBack Ipv6Group 58 n
group-piece n small = record { read = group-read n small; plain = group-plain n small }

last-group : (n : ℕ) → n < 65536 → last_groups (piece_text Ipv6Group n) ≡ Some (n ∷ [])
unfolding last_groups
last-group n small =
    cond-false (list_any is_dot (piece_text Ipv6Group n)) _ (option_map (λ group. group ∷ []) (piece_of Ipv6Group (piece_text Ipv6Group n))) (group-no_dot n small) ∙ ap (option_map (λ group. group ∷ [])) (group-read n small)

read-groups : (first : ℕ) (rest : List ℕ) → AllByRecursion (λ n. n < 65536) (first ∷ rest) → AllByRecursion (IsReadBack Ipv6Group 58) (first ∷ rest) → length rest < 8 → last_of first rest < 65536 → groups_of (pieces_text Ipv6Group 58 first rest) ≡ at_most_eight_groups (init_of first rest) (last_of first rest ∷ [])
unfolding groups_of
read-groups first rest small good few last =
    let text = pieces_text Ipv6Group 58 first rest in
    let some : eqb (length text) 0 ≡ false = ne_eqb (length text) 0 (λ e. omega (arith, group-some first small.0, length-append (piece_text Ipv6Group first) (flat_map (next_piece Ipv6Group 58) rest))) in
    cond-false (eqb (length text) 0) (Some []) (option_and_then all_groups (pieces_of Ipv6Group 58 text)) some ∙ (ap (option_and_then all_groups) (read-pieces Ipv6Group 58 first rest good few) ∙ ap (option_and_then (at_most_eight_groups (init_of first rest))) (last-group (last_of first rest) last))

ipv6-value : (v : ℕ) → v < 2 ^ 128 → number_from_digits 65536 ((v / 0x10000000000000000000000000000 % 65536) ∷ (v / 0x1000000000000000000000000 % 65536) ∷ (v / 0x100000000000000000000 % 65536) ∷ (v / 0x10000000000000000 % 65536) ∷ (v / 0x1000000000000 % 65536) ∷ (v / 0x100000000 % 65536) ∷ (v / 0x10000 % 65536) ∷ (v % 65536) ∷ []) ≡ v
ipv6-value v small = omega arith

pub ipv6_of-ipv6_text : (v : ℕ) → v < 2 ^ 128 → ipv6_of (ipv6_text v) ≡ Some v
unfolding ipv6_of ipv6_text
ipv6_of-ipv6_text v small =
    let first = v / 0x10000000000000000000000000000 % 65536 in
    let rest = (v / 0x1000000000000000000000000 % 65536) ∷ (v / 0x100000000000000000000 % 65536) ∷ (v / 0x10000000000000000 % 65536) ∷ (v / 0x1000000000000 % 65536) ∷ (v / 0x100000000 % 65536) ∷ (v / 0x10000 % 65536) ∷ (v % 65536) ∷ [] in
    let text = pieces_text Ipv6Group 58 first rest in
    let below : (n : ℕ) → n % 65536 < 65536 = λ n. omega arith in
    let piece : (n : ℕ) → IsReadBack Ipv6Group 58 (n % 65536) = λ n. group-piece (n % 65536) (below n) in
    let all : AllByRecursion (λ n. n < 65536) (first ∷ rest) = (below _, (below _, (below _, (below _, (below _, (below _, (below _, (below _, tt)))))))) in
    let good : AllByRecursion (IsReadBack Ipv6Group 58) (first ∷ rest) = (piece _, (piece _, (piece _, (piece _, (piece _, (piece _, (piece _, (piece _, tt)))))))) in
    let none = gap-piece (piece_text Ipv6Group first) (flat_map (next_piece Ipv6Group 58) rest) (group-plain first (below _)) (gap-rest rest all.1) in
    ap (address_at text) none ∙ (ap (option_and_then address_of_groups) (read-groups first rest all good (omega arith) (below v)) ∙ ap Some (ipv6-value v small))
