-- Lines that are written word by word are read as these words.
use Rattle.std.proofs.Common.{◌≡◌, ◌≢◌, ℕ, ◌+◌, ◌-◌, ◌<◌, ◌≤◌, ◌^◌, ◌/◌, ◌%◌, true, false, List, [], ◌∷◌, ◌++◌, length, get_or, take, eqb, ltb, leb, refl, sym, ap, subst, ◌∙◌, append_assoc, arith, if◌then◌else◌}
use Rattle.std.specs.Char.{digit_char}
use Rattle.std.specs.Fmt.{decimal}
use Rattle.std.specs.List.{All, flat_map, join_with_byte, list_all}
use Rattle.std.specs.Str.Lines.{lines}
use Rattle.std.proofs.lemmas.Bool.{ne_eqb, cond-false, and_parts, leb-true, ltb-true}
use Rattle.std.proofs.lemmas.Fmt.{decimal_is_IsNumeral}
use Rattle.std.proofs.lemmas.List.Elements.{All-nil, All-cons, All-append, All-weaker, All-head, All-tail, All-get_or, All-from_get_or}
use Rattle.std.proofs.lemmas.Str.Parse.{digit_at}
use Rattle.vnff_base.specs.Hex.{dash, hex_pair, hex_text}
use Rattle.vnff_base.specs.Lines.{IsLine, IsWord, NumberedLine, is_blank, is_line_feed, is_skipped, numbered_from, words_of}
use Rattle.vnff_base.proofs.TextLaws.{above_blanks, digit_char-high, lines-line, words_of-written}
use Rattle.vnff_run.specs.ScriptTexts.{line_text}

-- a word of bytes above the blank
pub record IsSpelled (word : List ℕ) : Type 0 where
  pub some : 0 < length word
  pub high : All (λ byte. 33 ≤ byte) word

high-test : (word : List ℕ) → list_all (leb 33) word ≡ true → All (λ byte. 33 ≤ byte) word
high-test [] good = All-nil (λ byte. 33 ≤ byte)
high-test (byte ∷ word) good =
    let parts = and_parts _ _ good in
    All-cons (λ byte. 33 ≤ byte) byte word (leb-true 33 byte parts.0) (high-test word parts.1)

-- a word that is given
pub literal-spelled : (word : List ℕ) → ltb 0 (length word) ≡ true → list_all (leb 33) word ≡ true → IsSpelled word
literal-spelled word some high = record { some = ltb-true 0 (length word) some; high = high-test word high }

-- a number
pub decimal-spelled : (n : ℕ) → n < 2 ^ 64 → IsSpelled (decimal n)
decimal-spelled n small =
    let digits = decimal_is_IsNumeral n small in
    record {
      some = digits.0.0;
      high = All-from_get_or (λ byte. 33 ≤ byte) (decimal n) 0 (λ i inside. omega (arith, digit_at (decimal n) i digits.0.1 inside));
    }

pairs-high : (bytes : List ℕ) → All (λ byte. 33 ≤ byte) (flat_map hex_pair bytes)
pairs-high [] = All-nil (λ byte. 33 ≤ byte)
pairs-high (byte ∷ bytes) =
    let P : ℕ → Type 0 = λ byte. 33 ≤ byte in
    All-cons P (digit_char (byte / 16)) (digit_char (byte % 16) ∷ flat_map hex_pair bytes) (digit_char-high (byte / 16)) (All-cons P (digit_char (byte % 16)) (flat_map hex_pair bytes) (digit_char-high (byte % 16)) (pairs-high bytes))

-- bytes in hexadecimal
pub hex-spelled : (bytes : List ℕ) → IsSpelled (hex_text bytes)
hex-spelled [] = literal-spelled dash refl refl
hex-spelled (byte ∷ bytes) =
    let text = flat_map hex_pair (byte ∷ bytes) in
    let written : hex_text (byte ∷ bytes) ≡ text = cond-false (eqb (length (byte ∷ bytes)) 0) dash text (ne_eqb _ 0 (λ e. omega arith)) in
    subst IsSpelled (sym written) (record { some = omega arith; high = pairs-high (byte ∷ bytes) })

spelled-word : (word : List ℕ) → IsSpelled word → IsWord word
spelled-word word good = record {
  some = good.some;
  whole = All-weaker (λ byte. 33 ≤ byte) (λ byte. is_blank byte ≡ false) above_blanks word good.high;
}

-- words with blanks between them have no control bytes
join-high : (words : List (List ℕ)) → All IsSpelled words → All (λ byte. 32 ≤ byte) (join_with_byte 32 words)
join-high [] good = All-nil (λ byte. 32 ≤ byte)
join-high (word ∷ []) good =
    All-weaker (λ byte. 33 ≤ byte) (λ byte. 32 ≤ byte) (λ byte above. omega (arith, above)) word (All-head IsSpelled word [] good).high
join-high (word ∷ next ∷ more) good =
    let P : ℕ → Type 0 = λ byte. 32 ≤ byte in
    let rest = join_with_byte 32 (next ∷ more) in
    let high = All-weaker (λ byte. 33 ≤ byte) P (λ byte above. omega (arith, above)) word (All-head IsSpelled word (next ∷ more) good).high in
    All-append P word (32 ∷ rest) high (All-cons P 32 rest (omega arith) (join-high (next ∷ more) (All-tail IsSpelled word (next ∷ more) good)))

last-high : (line : List ℕ) → All (λ byte. 32 ≤ byte) line → get_or line (length line - 1) 0 ≢ 13
last-high [] high is = omega (arith, is)
last-high (byte ∷ line) high is =
    omega (arith, is, All-get_or (λ byte. 32 ≤ byte) (byte ∷ line) (length (byte ∷ line) - 1) 0 (omega arith) high)

high-line : (line : List ℕ) → All (λ byte. 32 ≤ byte) line → IsLine line
high-line line high =
    let last = length line - 1 in
    record {
      whole = All-weaker (λ byte. 32 ≤ byte) (λ byte. is_line_feed byte ≡ false) (λ byte above. ne_eqb byte 10 (λ e. omega (arith, e, above))) line high;
      kept = cond-false (eqb (get_or line last 0) 13) (take last line) line (ne_eqb (get_or line last 0) 13 (last-high line high));
    }

-- a line of such words that isn't skipped
pub record IsSpelledLine (words : List (List ℕ)) : Type 0 where
  pub spelled : All IsSpelled words
  pub kept : is_skipped words ≡ false

-- lines with numbers from one on
abbrev pub numbered_words : ℕ → List (List (List ℕ)) → List NumberedLine
numbered_words from [] = []
numbered_words from (words ∷ more) = record { number = from; words = words } ∷ numbered_words (from + 1) more

-- a line that isn't skipped comes first
numbered-line : (from : ℕ) (line : List ℕ) (words : List (List ℕ)) (more : List (List ℕ)) → words_of line ≡ words → is_skipped words ≡ false → numbered_from from (line ∷ more) ≡ record { number = from; words = words } ∷ numbered_from (from + 1) more
numbered-line from line words more is kept =
    let later = numbered_from (from + 1) more in
    ap (λ (read : List (List ℕ)). if is_skipped read then later else record { number = from; words = read } ∷ later) is ∙ cond-false (is_skipped words) later (record { number = from; words = words } ∷ later) kept

-- what is written line by line is read so
pub lines-read : (from : ℕ) (text : List (List (List ℕ))) → All IsSpelledLine text → numbered_from from (lines (flat_map line_text text)) ≡ numbered_words from text
lines-read from [] good = refl
lines-read from (words ∷ more) good =
    let line = join_with_byte 32 words in
    let rest = flat_map line_text more in
    let first = All-head IsSpelledLine words more good in
    let cut : lines (line_text words ++ rest) ≡ line ∷ lines rest = ap lines (append_assoc line (10 ∷ []) rest) ∙ lines-line line rest (high-line line (join-high words first.spelled)) in
    let read = words_of-written words (All-weaker IsSpelled IsWord spelled-word words first.spelled) in
    ap (numbered_from from) cut ∙ (numbered-line from line words (lines rest) read first.kept ∙ ap (λ later. record { number = from; words = words } ∷ later) (lines-read (from + 1) more (All-tail IsSpelledLine words more good)))
