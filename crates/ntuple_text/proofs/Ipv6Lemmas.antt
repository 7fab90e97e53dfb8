-- An IPv6 address that is written is read back.
use Rattle.std.proofs.Common.{◌≡◌, ℕ, ◌+◌, ◌*◌, ◌/◌, ◌%◌, ◌<◌, ◌≤◌, ◌^◌, true, false, ◌&&◌, eqb, ltb, List, [], ◌∷◌, ◌++◌, length, drop, map, sym, ap, ◌∙◌, Some, None, refl, arith, ⊎_elim, not, leb}
use Rattle.std.specs.Char.{digit_char, is_ascii_hexdigit}
use Rattle.std.specs.Int.Digits.{number_from_digits, number_from_digits_after}
use Rattle.std.specs.List.{All, AllByRecursion, flat_map, list_all, list_any}
use Rattle.std.specs.Option.{option_map}
use Rattle.std.specs.Str.Parse.{digits_value, digits_value_after}
use Rattle.std.proofs.lemmas.Bool.{cond-true, cond-false, and_from, ne_eqb, lt-ltb, le-ltb, le-leb, cases_lt, false≢true, or_from}
use Rattle.std.proofs.lemmas.List.Elements.{All-nil, All-cons, All-head, All-tail, All-same}
use Rattle.std.proofs.lemmas.List.{length-map}
use Rattle.vnff_base.proofs.HexLemmas.{digit_char-read}
use Rattle.ntuple_text.specs.Addresses.{gap_of, is_dot, is_gap}
use Rattle.ntuple_text.specs.Numerals.{are_hex_digits, hex_number}
use Rattle.ntuple_text.specs.Pieces.{is_separator, hex_group, piece_of}
use Rattle.ntuple_text.specs.SpecTexts.{four_digits, leading_zeros, next_piece, piece_text}
use Rattle.ntuple_text.specs.declared.piece.Spelling.TheVariants.{Ipv6Group}

IsPlain : List ℕ → Type 0
IsPlain text = All (λ b. is_separator 58 b ≡ false) text

-- a text in which no two colons stand side by side has no `::`
gap-plain : (x : ℕ) (rest : List ℕ) → eqb x 58 ≡ false → gap_of rest ≡ None → gap_of (x ∷ rest) ≡ None
gap-plain x [] other none = refl
gap-plain x (y ∷ more) other none =
    cond-false (is_gap x y) (Some 0) (option_map (λ n. n + 1) (gap_of (y ∷ more))) (ap (λ b. b && eqb y 58) other) ∙ ap (option_map (λ n. n + 1)) none

gap-colon : (y : ℕ) (rest : List ℕ) → eqb y 58 ≡ false → gap_of (y ∷ rest) ≡ None → gap_of (58 ∷ y ∷ rest) ≡ None
gap-colon y rest other none =
    cond-false (is_gap 58 y) (Some 0) (option_map (λ n. n + 1) (gap_of (y ∷ rest))) other ∙ ap (option_map (λ n. n + 1)) none

pub gap-piece : (piece tail : List ℕ) → All (λ b. is_separator 58 b ≡ false) piece → gap_of tail ≡ None → gap_of (piece ++ tail) ≡ None
gap-piece [] tail plain none = none
gap-piece (x ∷ piece) tail plain none =
    let P : ℕ → Type 0 = λ b. is_separator 58 b ≡ false in
    gap-plain x (piece ++ tail) (All-head P x piece plain) (gap-piece piece tail (All-tail P x piece plain) none)

pub gap-next : (piece tail : List ℕ) → 0 < length piece → All (λ b. is_separator 58 b ≡ false) piece → gap_of tail ≡ None → gap_of (58 ∷ (piece ++ tail)) ≡ None
gap-next [] tail some plain none = absurd (omega arith)
gap-next (x ∷ piece) tail some plain none =
    let P : ℕ → Type 0 = λ b. is_separator 58 b ≡ false in
    gap-colon x (piece ++ tail) (All-head P x piece plain) (gap-piece (x ∷ piece) tail plain none)

-- digits by their values
digit-other : (d byte : ℕ) → d < 16 → is_ascii_hexdigit byte ≡ false → eqb (digit_char d) byte ≡ false
digit-other d byte small other = ne_eqb _ byte (λ is. false≢true (sym other ∙ (sym (ap is_ascii_hexdigit is) ∙ (digit_char-read d small).1)))

pub digits-hex : (ds : List ℕ) → AllByRecursion (λ d. d < 16) ds → list_all is_ascii_hexdigit (map digit_char ds) ≡ true
digits-hex [] small = refl
digits-hex (d ∷ ds) small = and_from _ _ (digit_char-read d small.0).1 (digits-hex ds small.1)

digits-after : (n : ℕ) (ds : List ℕ) → AllByRecursion (λ d. d < 16) ds → digits_value_after 16 n (map digit_char ds) ≡ number_from_digits_after 16 n ds
digits-after n [] small = refl
digits-after n (d ∷ ds) small = ap (λ k. digits_value_after 16 (n * 16 + k) (map digit_char ds)) (digit_char-read d small.0).0 ∙ digits-after (n * 16 + d) ds small.1

pub digits-plain : (ds : List ℕ) → AllByRecursion (λ d. d < 16) ds → All (λ b. is_separator 58 b ≡ false) (map digit_char ds)
digits-plain [] small = All-nil (λ b. is_separator 58 b ≡ false)
digits-plain (d ∷ ds) small =
    let P : ℕ → Type 0 = λ b. is_separator 58 b ≡ false in
    All-cons P (digit_char d) (map digit_char ds) (digit-other d 58 small.0 refl) (digits-plain ds small.1)

pub digits-no_dot : (ds : List ℕ) → AllByRecursion (λ d. d < 16) ds → list_any is_dot (map digit_char ds) ≡ false
digits-no_dot [] small = refl
digits-no_dot (d ∷ ds) small = or_from _ _ (digit-other d 46 small.0 refl) (digits-no_dot ds small.1)

pub digits-number : (d n : ℕ) (ds : List ℕ) → AllByRecursion (λ d. d < 16) (d ∷ ds) → number_from_digits 16 (d ∷ ds) ≡ n → n < 2 ^ 64 → hex_number (map digit_char (d ∷ ds)) ≡ Some n
unfolding hex_number
digits-number d n ds small is below =
    let text = map digit_char (d ∷ ds) in
    let value : digits_value 16 text ≡ n = digits-after 0 (d ∷ ds) small ∙ is in
    let fits : ltb (digits_value 16 text) (2 ^ 64) ≡ true = lt-ltb _ _ (omega (arith, value)) in
    let some : not (eqb (length text) 0) ≡ true = ap not (ne_eqb (length text) 0 (λ e. omega arith)) in
    let hex : are_hex_digits text ≡ true = and_from _ _ some (digits-hex (d ∷ ds) small) in
    cond-true (are_hex_digits text && ltb (digits_value 16 text) (2 ^ 64)) (Some (digits_value 16 text)) None (and_from _ _ hex fits) ∙ ap Some value

-- the digits of a group, by their values
record IsSpelledBy (n d : ℕ) (ds : List ℕ) : Type 0 where
  text : drop (leading_zeros n) (four_digits n) ≡ map digit_char (d ∷ ds)
  small : AllByRecursion (λ d. d < 16) (d ∷ ds)
  value : number_from_digits 16 (d ∷ ds) ≡ n
  short : length ds < 4

from-zeros : (n k : ℕ) → leading_zeros n ≡ k → drop (leading_zeros n) (four_digits n) ≡ drop k (four_digits n)
from-zeros n k e = ap (λ k. drop k (four_digits n)) e

spelled : (n : ℕ) → n < 65536 → (d : ℕ) × ((ds : List ℕ) × IsSpelledBy n d ds)
spelled n small =
    let a = n / 4096 % 16 in
    let b = n / 256 % 16 in
    let c = n / 16 % 16 in
    let d = n % 16 in
    ⊎_elim (λ one. (d, ([], record { text = from-zeros n 3 (cond-true (ltb n 16) 3 _ (lt-ltb n 16 one)); small = (omega arith, tt); value = omega arith; short = omega arith })))
    (λ more. ⊎_elim (λ two. (c, (d ∷ [], record { text = from-zeros n 2 (cond-false (ltb n 16) 3 _ (le-ltb n 16 more) ∙ cond-true (ltb n 256) 2 _ (lt-ltb n 256 two)); small = (omega arith, (omega arith, tt)); value = omega arith; short = omega arith })))
    (λ much. ⊎_elim (λ three. (b, (c ∷ d ∷ [], record { text = from-zeros n 1 (cond-false (ltb n 16) 3 _ (le-ltb n 16 more) ∙ (cond-false (ltb n 256) 2 _ (le-ltb n 256 much) ∙ cond-true (ltb n 4096) 1 _ (lt-ltb n 4096 three))); small = (omega arith, (omega arith, (omega arith, tt))); value = omega arith; short = omega arith })))
    (λ most. (a, (b ∷ c ∷ d ∷ [], record { text = from-zeros n 0 (cond-false (ltb n 16) 3 _ (le-ltb n 16 more) ∙ (cond-false (ltb n 256) 2 _ (le-ltb n 256 much) ∙ cond-false (ltb n 4096) 1 _ (le-ltb n 4096 most))); small = (omega arith, (omega arith, (omega arith, (omega arith, tt)))); value = omega arith; short = omega arith })))
    (cases_lt n 4096))
    (cases_lt n 256))
    (cases_lt n 16)

pub group-read : (n : ℕ) → n < 65536 → piece_of Ipv6Group (piece_text Ipv6Group n) ≡ Some n
unfolding piece_of piece_text
group-read n small =
    let s = spelled n small in
    let h = s.1.1 in
    let text = map digit_char (s.0 ∷ s.1.0) in
    let short : length text ≤ 4 = omega (arith, length-map s.1.0 digit_char, h.short) in
    ap (hex_group 4) h.text ∙ (cond-true (leb (length text) 4) (hex_number text) None (le-leb (length text) 4 short) ∙ digits-number s.0 n s.1.0 h.small h.value (omega arith))

pub group-plain : (n : ℕ) → n < 65536 → All (λ b. is_separator 58 b ≡ false) (piece_text Ipv6Group n)
unfolding piece_text
group-plain n small =
    let s = spelled n small in
    let P : ℕ → Type 0 = λ b. is_separator 58 b ≡ false in
    All-same P _ _ s.1.1.text (digits-plain (s.0 ∷ s.1.0) s.1.1.small)

pub group-no_dot : (n : ℕ) → n < 65536 → list_any is_dot (piece_text Ipv6Group n) ≡ false
unfolding piece_text
group-no_dot n small =
    let s = spelled n small in ap (list_any is_dot) s.1.1.text ∙ digits-no_dot (s.0 ∷ s.1.0) s.1.1.small

pub group-some : (n : ℕ) → n < 65536 → 0 < length (piece_text Ipv6Group n)
unfolding piece_text
group-some n small = let s = spelled n small in omega (arith, ap length s.1.1.text)

pub gap-rest : (rest : List ℕ) → AllByRecursion (λ n. n < 65536) rest → gap_of (flat_map (next_piece Ipv6Group 58) rest) ≡ None
gap-rest [] small = refl
gap-rest (n ∷ rest) small =
    gap-next (piece_text Ipv6Group n) (flat_map (next_piece Ipv6Group 58) rest) (group-some n small.0) (group-plain n small.0) (gap-rest rest small.1)
