-- A text is read line by line, and a line word by word.
use Rattle.std.proofs.Common.{◌≡◌, ℕ, ◌+◌, ◌<◌, ◌≤◌, Bool, true, false, List, [], ◌∷◌, length, take, drop, get_or, eqb, filter, sym, ap, ◌∙◌, inl, inr, ◌⊎◌, ltb, Option, Some, None, refl, arith, ⊎_elim, add-zero}
use Rattle.std.specs.List.{slice_split, position, position_or_len, prefix_len, before_first, after_first, All}
use Rattle.std.specs.Str.Lines.{lines, lines_of_parts, strip_carriage_return}
use Rattle.std.proofs.lemmas.Bool.{cases_Bool, cases_lt, cond-true, cond-false, ne_eqb, not_from_false, both_ways, lt-ltb, le-ltb, false_from_ne_true}
use Rattle.std.proofs.lemmas.List.{take_all, drop_all, drop_more, drop-drop, length-take-le, length-drop, get_or-drop, get_or-take, nil_from_length}
use Rattle.std.proofs.lemmas.List.Elements.{All-from_get_or}
use Rattle.std.proofs.lemmas.List.Splits.{slice_split_first, slice_split_none, slice_split-cons_yes, length-slice_split}
use Rattle.std.proofs.lemmas.List.Sums.{prefix_len_stops, passes_at_first, fails_before_first, position_or_len_is}
use Rattle.std.specs.Option.{unwrap_or}
use Rattle.memchr.specs.Find.{IsFirstByte, NoneBefore, Nowhere, Passes}
use Rattle.vnff_base.specs.Lines.{NumberedLine, UnreadLines, is_line_feed, is_blank, is_nonempty, is_skipped, numbered_from, unread_from, words_of}

-- where no element passes, the first place that passes is past the end
none_pass : {X : Type 0} (p : X → Bool) (xs : List X) (d : X) → length xs ≤ position_or_len p xs → All (λ x. p x ≡ false) xs
none_pass p xs d past = All-from_get_or (λ x. p x ≡ false) xs d (λ i below. fails_before_first p xs i d (omega arith))

pub lines_of_parts-cons : (part : List ℕ) (parts : List (List ℕ)) → 0 < length parts → lines_of_parts (part ∷ parts) ≡ strip_carriage_return part ∷ lines_of_parts parts
lines_of_parts-cons part [] some = absurd (omega arith)
lines_of_parts-cons part (next ∷ more) some = refl

-- the first of several lines, or of one that ends with a line feed
lines-first : (text : List ℕ) → position_or_len is_line_feed text < length text → lines text ≡ strip_carriage_return (before_first is_line_feed text) ∷ lines (after_first is_line_feed text)
lines-first text inside =
    ap lines_of_parts (slice_split_first is_line_feed text 0 inside) ∙ lines_of_parts-cons (before_first is_line_feed text) (slice_split is_line_feed (after_first is_line_feed text)) (omega (arith, length-slice_split is_line_feed (after_first is_line_feed text)))

-- a last line that lacks the line feed
lines-last : (text : List ℕ) → length text ≤ position_or_len is_line_feed text → 0 < length text → lines text ≡ text ∷ []
lines-last text past some =
    ap lines_of_parts (slice_split_none is_line_feed text (none_pass is_line_feed text 0 past)) ∙ cond-false (eqb (length text) 0) [] (text ∷ []) (ne_eqb _ 0 (λ e. omega arith))

position_cases : {X : Type 0} (p : X → Bool) (xs : List X) → ((position p xs ≡ Some (position_or_len p xs)) × (position_or_len p xs < length xs)) ⊎ ((position p xs ≡ None) × (length xs ≤ position_or_len p xs))
position_cases p xs =
    let n = position_or_len p xs in
    ⊎_elim (λ inside. inl (cond-true (ltb n (length xs)) (Some n) None (lt-ltb n (length xs) inside), inside))
    (λ past. inr (cond-false (ltb n (length xs)) (Some n) None (le-ltb n (length xs) past), past))
    (cases_lt n (length xs))

-- the first byte that passes, as a search answers it
fails_before : (test : ℕ → Bool) (text : List ℕ) (end : ℕ) → Nowhere (Passes test text) 0 end → (k : ℕ) → k < end → test (get_or text k 0) ≡ false
fails_before test text end nowhere k below = false_from_ne_true _ (nowhere k (omega arith) below)

found_none : (test : ℕ → Bool) (text : List ℕ) → Nowhere (Passes test text) 0 (length text) → position_or_len test text ≡ length text
found_none test text nowhere =
    position_or_len_is test text (length text) 0 (omega arith) (fails_before test text (length text) nowhere) (λ inside. absurd (omega arith))

found_at : (test : ℕ → Bool) (text : List ℕ) (k : ℕ) → NoneBefore (Passes test text) 0 (length text) k → Passes test text k → position_or_len test text ≡ k
found_at test text k first passes =
    position_or_len_is test text k 0 (omega (arith, first.high)) (fails_before test text k first.before) (λ inside. passes)

pub first_byte-position : (test : ℕ → Bool) (text : List ℕ) (found : Option ℕ) → IsFirstByte test text found → found ≡ position test text
first_byte-position test text None nowhere =
    ⊎_elim (λ inside. absurd (omega (arith, inside.1, found_none test text nowhere))) (λ past. sym past.0) (position_cases test text)
first_byte-position test text (Some k) first =
    ⊎_elim (λ inside. ap Some (sym (found_at test text k first.0 first.1)) ∙ sym inside.0)
    (λ past. absurd (omega (arith, past.1, first.0.high, found_at test text k first.0 first.1)))
    (position_cases test text)

pub first_byte-or_len : (test : ℕ → Bool) (text : List ℕ) (found : Option ℕ) → IsFirstByte test text found → unwrap_or found (length text) ≡ position_or_len test text
first_byte-or_len test text None nowhere = sym (found_none test text nowhere)
first_byte-or_len test text (Some k) first = sym (found_at test text k first.0 first.1)

-- the same by where the first line feed stands
pub lines-at : (text : List ℕ) (end : ℕ) → position is_line_feed text ≡ Some end → lines text ≡ strip_carriage_return (take end text) ∷ lines (drop (end + 1) text)
lines-at text end found =
    ⊎_elim (λ inside. let same : position_or_len is_line_feed text ≡ end = cc in
    lines-first text inside.1 ∙ ap (λ n. strip_carriage_return (take n text) ∷ lines (drop (n + 1) text)) same)
    (λ past. absurd (cc))
    (position_cases is_line_feed text)

pub lines-end : (text : List ℕ) → position is_line_feed text ≡ None → 0 < length text → lines text ≡ text ∷ []
lines-end text none some =
    ⊎_elim (λ inside. absurd (cc)) (λ past. lines-last text past.1 some) (position_cases is_line_feed text)

pub words_of-nil : words_of [] ≡ []
unfolding words_of
words_of-nil = refl

words_of-blank : (byte : ℕ) (line : List ℕ) → is_blank byte ≡ true → words_of (byte ∷ line) ≡ words_of line
unfolding words_of
words_of-blank byte line blank = ap (filter is_nonempty) (slice_split-cons_yes is_blank byte line blank)

-- blanks before the first word do not matter
words_of-skip : (line : List ℕ) → words_of (drop (prefix_len is_blank line) line) ≡ words_of line
words_of-skip [] = refl
words_of-skip (byte ∷ line) =
    ⊎_elim (λ blank. let n : prefix_len is_blank (byte ∷ line) ≡ 1 + prefix_len is_blank line = cond-true (is_blank byte) (1 + prefix_len is_blank line) 0 blank in
    ap (λ k. words_of (drop k (byte ∷ line))) n ∙ (ap words_of (sym (drop-drop (prefix_len is_blank line) 1 (byte ∷ line))) ∙ (words_of-skip line ∙ sym (words_of-blank byte line blank))))
    (λ other. let n : prefix_len is_blank (byte ∷ line) ≡ 0 = cond-false (is_blank byte) (1 + prefix_len is_blank line) 0 other in
    ap (λ k. words_of (drop k (byte ∷ line))) n)
    (cases_Bool (is_blank byte))

pub words_of-parts : (line : List ℕ) (word : List ℕ) (parts : List (List ℕ)) → slice_split is_blank line ≡ word ∷ parts → 0 < length word → words_of line ≡ word ∷ filter is_nonempty parts
unfolding words_of
words_of-parts line word parts e some =
    ap (filter is_nonempty) e ∙ cond-true (is_nonempty word) (word ∷ filter is_nonempty parts) (filter is_nonempty parts) (not_from_false _ (ne_eqb _ 0 (λ none. omega arith)))

pub words_of-is : (line : List ℕ) → words_of line ≡ filter is_nonempty (slice_split is_blank line)
unfolding words_of
words_of-is line = refl

first_blank_later : (line : List ℕ) → position_or_len is_blank line < length line → is_blank (get_or line 0 0) ≡ false → 0 < position_or_len is_blank line
first_blank_later line inside begins =
    let n = position_or_len is_blank line in
    ⊎_elim (λ later. later)
    (λ first. let zero : n ≡ 0 = omega arith in
    absurd (both_ways (is_blank (get_or line 0 0)) begins (ap (λ k. is_blank (get_or line k 0)) (sym zero) ∙ passes_at_first is_blank line 0 inside)))
    (cases_lt 0 n)

-- the first word ends at the first blank
words_of-first : (line : List ℕ) → 0 < length line → is_blank (get_or line 0 0) ≡ false → words_of line ≡ before_first is_blank line ∷ words_of (drop (position_or_len is_blank line) line)
words_of-first line some begins =
    let n = position_or_len is_blank line in
    ⊎_elim (λ inside. let word = before_first is_blank line in
    let nonempty : 0 < length word = omega (arith, length-take-le n line (omega arith), first_blank_later line inside begins) in
    words_of-parts line word (slice_split is_blank (after_first is_blank line)) (slice_split_first is_blank line 0 inside) nonempty ∙ ap (λ more. word ∷ more) (sym (ap words_of (drop_more line n 0 inside) ∙ (words_of-blank (get_or line n 0) (after_first is_blank line) (passes_at_first is_blank line 0 inside) ∙ words_of-is (after_first is_blank line)))))
    (λ past. words_of-parts line line [] (slice_split_none is_blank line (none_pass is_blank line 0 past)) some ∙ rw (take_all n line past, drop_all n line past, words_of-nil) refl)
    (cases_lt n (length line))

-- the same, as a reader takes them: past b blanks, the first n bytes of the rest
pub words_of-none : (line rest : List ℕ) (b : ℕ) → b ≡ prefix_len is_blank line → rest ≡ drop b line → length rest ≡ 0 → words_of line ≡ []
words_of-none line rest b blanks is empty =
    let skipped : drop (prefix_len is_blank line) line ≡ [] = nil_from_length _ (ap (λ k. length (drop k line)) (sym blanks) ∙ (ap length (sym is) ∙ empty)) in
    sym (words_of-skip line) ∙ (ap words_of skipped ∙ words_of-nil)

begins_behind : (line rest : List ℕ) (b : ℕ) → b ≡ prefix_len is_blank line → rest ≡ drop b line → 0 < length rest → is_blank (get_or rest 0 0) ≡ false
begins_behind line rest b blanks is some =
    let same : rest ≡ drop (prefix_len is_blank line) line = is ∙ ap (λ k. drop k line) blanks in
    let inside : prefix_len is_blank line < length line = omega (arith, ap length same, length-drop (prefix_len is_blank line) line) in
    ap (λ xs. is_blank (get_or xs 0 0)) same ∙ (ap is_blank (get_or-drop (prefix_len is_blank line) line 0 0 ∙ ap (λ k. get_or line k 0) (add-zero (prefix_len is_blank line))) ∙ prefix_len_stops is_blank line 0 inside)

pub words_of-next : (line rest : List ℕ) (b n : ℕ) → b ≡ prefix_len is_blank line → rest ≡ drop b line → n ≡ position_or_len is_blank rest → 0 < length rest → words_of line ≡ take n rest ∷ words_of (drop n rest)
words_of-next line rest b n blanks is count some =
    let same : rest ≡ drop (prefix_len is_blank line) line = is ∙ ap (λ k. drop k line) blanks in
    let begins = begins_behind line rest b blanks is some in
    sym (words_of-skip line) ∙ (ap words_of (sym same) ∙ (words_of-first rest some begins ∙ ap (λ k. take k rest ∷ words_of (drop k rest)) (sym count)))

-- whether a line is skipped, by the first byte behind its blanks
pub is_skipped-none : (line rest : List ℕ) (b : ℕ) → b ≡ prefix_len is_blank line → rest ≡ drop b line → length rest ≡ 0 → is_skipped (words_of line) ≡ true
is_skipped-none line rest b blanks is empty = ap is_skipped (words_of-none line rest b blanks is empty)

pub is_skipped-next : (line rest : List ℕ) (b : ℕ) → b ≡ prefix_len is_blank line → rest ≡ drop b line → 0 < length rest → is_skipped (words_of line) ≡ eqb (get_or rest 0 0) 35
is_skipped-next line rest b blanks is some =
    let n = position_or_len is_blank rest in
    let begins = begins_behind line rest b blanks is some in
    let later : 0 < n = ⊎_elim (λ inside. first_blank_later rest inside begins) (λ past. omega arith) (cases_lt n (length rest)) in
    ap is_skipped (words_of-next line rest b n blanks is refl some) ∙ ap (λ byte. eqb byte 35) (get_or-take n rest 0 0 later)

same_unread : (a b : UnreadLines) → a.left ≡ b.left → a.missing ≡ b.missing → a ≡ b
same_unread a b left missing =
    let with_left : List NumberedLine → UnreadLines = λ lines. record { left = lines; missing = a.missing } in
    let with_missing : ℕ → UnreadLines = λ number. record { left = b.left; missing = number } in
    ap with_left left ∙ ap with_missing missing

-- a reader past the first line of a text, which has the number n
pub missing-next : (n : ℕ) (text line rest : List ℕ) → lines text ≡ line ∷ lines rest → (unread_from (n + 1) rest).missing ≡ (unread_from n text).missing
missing-next n text line rest first = omega (arith, ap length first)

pub left-next : (n : ℕ) (text line rest : List ℕ) → lines text ≡ line ∷ lines rest → is_skipped (words_of line) ≡ false → (unread_from n text).left ≡ record { number = n; words = words_of line } ∷ (unread_from (n + 1) rest).left
left-next n text line rest first kept =
    let this : NumberedLine = record { number = n; words = words_of line } in
    let more = numbered_from (n + 1) (lines rest) in
    ap (numbered_from n) first ∙ cond-false (is_skipped (words_of line)) more (this ∷ more) kept

left-skip : (n : ℕ) (text line rest : List ℕ) → lines text ≡ line ∷ lines rest → is_skipped (words_of line) ≡ true → (unread_from (n + 1) rest).left ≡ (unread_from n text).left
left-skip n text line rest first skipped =
    let this : NumberedLine = record { number = n; words = words_of line } in
    let more = numbered_from (n + 1) (lines rest) in
    sym (ap (numbered_from n) first ∙ cond-true (is_skipped (words_of line)) more (this ∷ more) skipped)

pub unread-skip : (n : ℕ) (text line rest : List ℕ) → lines text ≡ line ∷ lines rest → is_skipped (words_of line) ≡ true → unread_from (n + 1) rest ≡ unread_from n text
unread-skip n text line rest first skipped = same_unread _ _ (left-skip n text line rest first skipped) (missing-next n text line rest first)

pub ruleset reader_steps = (missing-next, left-next, unread-skip)
