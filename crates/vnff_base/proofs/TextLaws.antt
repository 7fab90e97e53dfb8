-- What the crates above know of lines and words: what a reader gives, and that what is written line by line and word by
-- word is read back.
use Rattle.std.proofs.Common.{◌≡◌, ℕ, ◌+◌, ◌<◌, ◌≤◌, ◌^◌, true, false, List, [], ◌∷◌, ◌++◌, length, eqb, sym, ap, ◌∙◌, refl, arith, append_assoc, ⊎_elim, subst, nat_lt, get_or, ◌/◌, ◌%◌, length-append}
use Rattle.std.specs.Char.{digit_char}
use Rattle.std.specs.Fmt.{decimal}
use Rattle.std.specs.List.{slice_split, flat_map, join_with_byte, All}
use Rattle.std.specs.Str.Lines.{lines, lines_of_parts}
use Rattle.std.proofs.lemmas.Bool.{cases_Bool, cases_cond, cond-true, cond-false, ne_eqb, or_from, true≢false, eqb-false}
use Rattle.std.proofs.lemmas.List.Elements.{All-nil, All-cons, All-head, All-tail, All-same, All-weaker, All-from_get_or}
use Rattle.std.proofs.lemmas.List.Splits.{slice_split_at, slice_split_none, length-slice_split, join_with_byte-slice_split}
use Rattle.std.proofs.lemmas.Fmt.{decimal_is_IsNumeral}
use Rattle.std.proofs.lemmas.Str.Parse.{digit_at}
use Rattle.vnff_base.specs.Hex.{dash, hex_pair, hex_text}
use Rattle.vnff_base.specs.Lines.{IsLine, IsWord, NumberedLine, is_blank, is_line_feed, is_skipped, numbered_from, words_of}
use Rattle.vnff_base.proofs.LineLemmas.{lines_of_parts-cons, words_of-parts, words_of-is, words_of-nil}

-- a line that is not skipped has a word
pub words-some : (words : List (List ℕ)) → is_skipped words ≡ false → 0 < length words
words-some [] kept = absurd (true≢false kept)
words-some (word ∷ words) kept = omega arith

-- each line that a reader gives is not skipped, and its number is one of the text's lines
pub numbered_from-kept : (from : ℕ) (text : List (List ℕ)) → All (λ line. is_skipped line.words ≡ false) (numbered_from from text)
numbered_from-kept from [] = All-nil (λ line. is_skipped line.words ≡ false)
numbered_from-kept from (line ∷ more) =
    let P : NumberedLine → Type 0 = λ line. is_skipped line.words ≡ false in
    let this : NumberedLine = record { number = from; words = words_of line } in
    let rest = numbered_from-kept (from + 1) more in
    ⊎_elim (λ skipped. All-same P _ _ (cond-true (is_skipped (words_of line)) _ (this ∷ numbered_from (from + 1) more) skipped) rest)
    (λ kept. All-same P _ _ (cond-false (is_skipped (words_of line)) (numbered_from (from + 1) more) _ kept) (All-cons P this _ kept rest))
    (cases_Bool (is_skipped (words_of line)))

pub numbered_from-numbers : (from : ℕ) (text : List (List ℕ)) → All (λ line. (from ≤ line.number) × (line.number < from + length text)) (numbered_from from text)
numbered_from-numbers from [] = All-nil (λ line. (from ≤ line.number) × (line.number < from + 0))
numbered_from-numbers from (line ∷ more) =
    let P : NumberedLine → Type 0 = λ one. (from ≤ one.number) × (one.number < from + length (line ∷ more)) in
    let this : NumberedLine = record { number = from; words = words_of line } in
    let rest = All-weaker (λ one. (from + 1 ≤ one.number) × (one.number < from + 1 + length more)) P (λ one inside. (omega arith, omega arith)) _ (numbered_from-numbers (from + 1) more) in
    ⊎_elim (λ skipped. All-same P _ _ (cond-true (is_skipped (words_of line)) _ (this ∷ numbered_from (from + 1) more) skipped) rest)
    (λ kept. All-same P _ _ (cond-false (is_skipped (words_of line)) (numbered_from (from + 1) more) _ kept) (All-cons P this _ (omega arith, omega arith) rest))
    (cases_Bool (is_skipped (words_of line)))

-- a text has no more lines than bytes, and of these no more are given than there are
lines_of_parts-length : (parts : List (List ℕ)) → length (lines_of_parts parts) ≤ length (join_with_byte 10 parts)
lines_of_parts-length [] = omega arith
lines_of_parts-length (part ∷ []) =
    ⊎_elim (λ empty. omega (arith, ap length (cond-true (eqb (length part) 0) [] (part ∷ []) empty)))
    (λ some. let bytes = eqb-false (length part) 0 some in omega (arith, ap length (cond-false (eqb (length part) 0) [] (part ∷ []) some)))
    (cases_Bool (eqb (length part) 0))
lines_of_parts-length (part ∷ next ∷ more) =
    let rest = lines_of_parts-length (next ∷ more) in
    omega (arith, length-append part (10 ∷ join_with_byte 10 (next ∷ more)))

pub length-lines-le : (text : List ℕ) → length (lines text) ≤ length text
length-lines-le text =
    omega (arith, lines_of_parts-length (slice_split is_line_feed text), ap length (join_with_byte-slice_split 10 text))

pub length-numbered_from-le : (from : ℕ) (text : List (List ℕ)) → length (numbered_from from text) ≤ length text
length-numbered_from-le from [] = omega arith
length-numbered_from-le from (line ∷ more) =
    let rest = length-numbered_from-le (from + 1) more in
    let this : NumberedLine = record { number = from; words = words_of line } in
    ⊎_elim (λ e. omega (arith, ap length e)) (λ e. omega (arith, ap length e)) (cases_cond (is_skipped (words_of line)) (numbered_from (from + 1) more) (this ∷ numbered_from (from + 1) more) (numbered_from from (line ∷ more)) refl)

-- a line that is written with its line feed is read back
pub lines-line : (line rest : List ℕ) → IsLine line → lines (line ++ 10 ∷ rest) ≡ line ∷ lines rest
lines-line line rest good =
    ap lines_of_parts (slice_split_at is_line_feed line 10 rest good.whole refl) ∙ (lines_of_parts-cons line (slice_split is_line_feed rest) (omega (arith, length-slice_split is_line_feed rest)) ∙ ap (λ first. first ∷ lines rest) good.kept)

pub lines-written : (text : List (List ℕ)) → All IsLine text → lines (flat_map (λ line. line ++ 10 ∷ []) text) ≡ text
lines-written [] good = refl
lines-written (line ∷ more) good =
    let rest = flat_map (λ line. line ++ 10 ∷ []) more in
    ap lines (append_assoc line (10 ∷ []) rest) ∙ (lines-line line rest (All-head IsLine line more good) ∙ ap (λ read. line ∷ read) (lines-written more (All-tail IsLine line more good)))

-- a word that is written is read back, before a blank or at the line's end
pub words_of-word : (word : List ℕ) → IsWord word → words_of word ≡ word ∷ []
words_of-word word good = words_of-parts word word [] (slice_split_none is_blank word good.whole) good.some

pub words_of-word_blank : (word rest : List ℕ) (blank : ℕ) → IsWord word → is_blank blank ≡ true → words_of (word ++ blank ∷ rest) ≡ word ∷ words_of rest
words_of-word_blank word rest blank good ends =
    words_of-parts (word ++ blank ∷ rest) word (slice_split is_blank rest) (slice_split_at is_blank word blank rest good.whole ends) good.some ∙ ap (λ more. word ∷ more) (sym (words_of-is rest))

pub words_of-written : (words : List (List ℕ)) → All IsWord words → words_of (join_with_byte 32 words) ≡ words
words_of-written [] good = words_of-nil
words_of-written (word ∷ []) good = words_of-word word (All-head IsWord word [] good)
words_of-written (word ∷ next ∷ more) good =
    words_of-word_blank word (join_with_byte 32 (next ∷ more)) 32 (All-head IsWord word (next ∷ more) good) refl ∙ ap (λ rest. word ∷ rest) (words_of-written (next ∷ more) (All-tail IsWord word (next ∷ more) good))

pub above_blanks : (byte : ℕ) → 33 ≤ byte → is_blank byte ≡ false
above_blanks byte high = or_from _ _ (ne_eqb byte 32 (λ e. omega arith)) (ne_eqb byte 9 (λ e. omega arith))

-- a number as it is written is a word, and so are bytes in hexadecimal
pub IsWord-decimal : (n : ℕ) → n < 2 ^ 64 → IsWord (decimal n)
IsWord-decimal n small =
    let digits = decimal_is_IsNumeral n small in
    record {
      some = digits.0.0;
      whole = All-from_get_or (λ byte. is_blank byte ≡ false) (decimal n) 0 (λ i inside. above_blanks (get_or (decimal n) i 0) (omega (arith, digit_at (decimal n) i digits.0.1 inside)));
    }

pub digit_char-high : (d : ℕ) → 33 ≤ digit_char d
digit_char-high d = ⊎_elim (λ e. omega arith) (λ e. omega arith) (cases_cond (nat_lt d 10) (48 + d) (87 + d) (digit_char d) refl)

no_blank_in_pairs : (bytes : List ℕ) → All (λ byte. is_blank byte ≡ false) (flat_map hex_pair bytes)
no_blank_in_pairs [] = All-nil (λ byte. is_blank byte ≡ false)
no_blank_in_pairs (byte ∷ bytes) =
    let P : ℕ → Type 0 = λ byte. is_blank byte ≡ false in
    All-cons P (digit_char (byte / 16)) (digit_char (byte % 16) ∷ flat_map hex_pair bytes) (above_blanks _ (digit_char-high (byte / 16))) (All-cons P (digit_char (byte % 16)) (flat_map hex_pair bytes) (above_blanks _ (digit_char-high (byte % 16))) (no_blank_in_pairs bytes))

pub IsWord-hex_text : (bytes : List ℕ) → IsWord (hex_text bytes)
IsWord-hex_text [] = record { some = omega arith; whole = All-cons (λ byte. is_blank byte ≡ false) 45 [] refl (All-nil (λ byte. is_blank byte ≡ false)) }
IsWord-hex_text (byte ∷ bytes) =
    let text = flat_map hex_pair (byte ∷ bytes) in
    let written : hex_text (byte ∷ bytes) ≡ text = cond-false (eqb (length (byte ∷ bytes)) 0) dash text (ne_eqb _ 0 (λ e. omega arith)) in
    subst IsWord (sym written) (record { some = omega arith; whole = no_blank_in_pairs (byte ∷ bytes) })
