-- A text is cut into its pieces one by one.
use Rattle.std.proofs.Common.{◌≡◌, ℕ, ◌+◌, ◌<◌, Bool, List, [], ◌∷◌, ◌++◌, length, take, drop, sym, ap, ◌∙◌, Some, None, Option, refl, arith, append_assoc, append-nil, ⊎_elim, ltb, false}
use Rattle.std.specs.List.{slice_split, position, position_or_len, count_by}
use Rattle.std.proofs.lemmas.Bool.{cases_lt, cond-true, cond-false, lt-ltb, le-ltb}
use Rattle.std.proofs.lemmas.List.Elements.{All-from_get_or}
use Rattle.std.proofs.lemmas.List.Splits.{slice_split_first, slice_split_none, length-slice_split}
use Rattle.std.proofs.lemmas.List.Sums.{fails_before_first}
use Rattle.std.specs.Option.{option_map, option_and_then}
use Rattle.ntuple_text.specs.Pieces.{front_of, is_separator, piece_of, pieces_of}
use Rattle.ntuple_text.specs.declared.piece.Spelling.{Spelling}

-- where an element passes, the first piece ends there; where none does, the text is one piece
pub pieces-at : (p : ℕ → Bool) (text : List ℕ) (end : ℕ) → position p text ≡ Some end → slice_split p text ≡ take end text ∷ slice_split p (drop (end + 1) text)
pieces-at p text end found =
    let n = position_or_len p text in
    ⊎_elim (λ inside. let here = cond-true (ltb n (length text)) (Some n) None (lt-ltb n (length text) inside) in
    let same : n ≡ end = cc in
    slice_split_first p text 0 inside ∙ ap (λ k. take k text ∷ slice_split p (drop (k + 1) text)) same)
    (λ past. let none = cond-false (ltb n (length text)) (Some n) None (le-ltb n (length text) past) in absurd (cc))
    (cases_lt n (length text))

pub pieces-one : (p : ℕ → Bool) (text : List ℕ) → position p text ≡ None → slice_split p text ≡ text ∷ []
pieces-one p text none =
    let n = position_or_len p text in
    ⊎_elim (λ inside. let here = cond-true (ltb n (length text)) (Some n) None (lt-ltb n (length text) inside) in absurd (cc))
    (λ past. slice_split_none p text (All-from_get_or (λ x. p x ≡ false) text 0 (λ i below. fails_before_first p text i 0 (omega arith))))
    (cases_lt n (length text))

-- numbers that were read, before those of the pieces that are left
abbrev pub after_front : List ℕ → Option (List ℕ × List ℕ) → Option (List ℕ × List ℕ)
after_front front rest = option_map (λ pieces. (front ++ pieces.0, pieces.1)) rest

onto : (front : List ℕ) (n : ℕ) (rest : Option (List ℕ × List ℕ)) → after_front front (option_map (λ pieces. (n ∷ pieces.0, pieces.1)) rest) ≡ after_front (front ++ n ∷ []) rest
onto front n None = refl
onto front n (Some pieces) = ap (λ numbers. Some (numbers, pieces.1)) (sym (append_assoc front (n ∷ []) pieces.0))

pub front-more : (s : Spelling) (front : List ℕ) (parts more : List (List ℕ)) (piece : List ℕ) (n : ℕ) → parts ≡ piece ∷ more → 0 < length more → piece_of s piece ≡ Some n → after_front front (front_of s parts) ≡ after_front (front ++ n ∷ []) (front_of s more)
front-more s front parts [] piece n cut some read = absurd (omega arith)
front-more s front parts (next ∷ more) piece n cut some read =
    ap (λ list. after_front front (front_of s list)) cut ∙ (ap (λ r. after_front front (option_and_then (λ m. option_map (λ pieces. (m ∷ pieces.0, pieces.1)) (front_of s (next ∷ more))) r)) read ∙ onto front n (front_of s (next ∷ more)))

pub front-bad : (s : Spelling) (parts more : List (List ℕ)) (piece : List ℕ) → parts ≡ piece ∷ more → 0 < length more → piece_of s piece ≡ None → front_of s parts ≡ None
front-bad s parts [] piece cut some read = absurd (omega arith)
front-bad s parts (next ∷ more) piece cut some read =
    ap (front_of s) cut ∙ ap (λ r. option_and_then (λ m. option_map (λ pieces. (m ∷ pieces.0, pieces.1)) (front_of s (next ∷ more))) r) read

pub front-last : (s : Spelling) (front : List ℕ) (parts : List (List ℕ)) (last : List ℕ) → parts ≡ last ∷ [] → after_front front (front_of s parts) ≡ Some (front, last)
front-last s front parts last cut = ap (λ list. after_front front (front_of s list)) cut ∙ ap (λ numbers. Some (numbers, last)) (append-nil front)

pub after_front-none : (front : List ℕ) (rest : Option (List ℕ × List ℕ)) → rest ≡ None → after_front front rest ≡ None
after_front-none front rest e = ap (after_front front) e

pub after_front-nil : (rest : Option (List ℕ × List ℕ)) → after_front [] rest ≡ rest
after_front-nil None = refl
after_front-nil (Some pieces) = refl

-- a piece that is spelled wrongly stops the reading of the whole text
pub pieces-stop : (s : Spelling) (separator : ℕ) (text rest first more front : List ℕ) → count_by (is_separator separator) text < 8 → after_front front (front_of s (slice_split (is_separator separator) rest)) ≡ front_of s (slice_split (is_separator separator) text) → slice_split (is_separator separator) rest ≡ first ∷ slice_split (is_separator separator) more → piece_of s first ≡ None → pieces_of s separator text ≡ None
unfolding pieces_of
pieces-stop s separator text rest first more front few same cut bad =
    let p = is_separator separator in
    let some : 0 < length (slice_split p more) = omega (arith, length-slice_split p more) in
    let none = ap (after_front front) (front-bad s (slice_split p rest) (slice_split p more) first cut some bad) in
    cond-true (ltb (count_by p text) 8) (front_of s (slice_split p text)) None (lt-ltb (count_by p text) 8 few) ∙ (sym same ∙ none)

pub pieces-step : (s : Spelling) (separator : ℕ) (text rest first more front pushed : List ℕ) (n : ℕ) → pushed ≡ front ++ n ∷ [] → after_front front (front_of s (slice_split (is_separator separator) rest)) ≡ front_of s (slice_split (is_separator separator) text) → slice_split (is_separator separator) rest ≡ first ∷ slice_split (is_separator separator) more → piece_of s first ≡ Some n → after_front pushed (front_of s (slice_split (is_separator separator) more)) ≡ front_of s (slice_split (is_separator separator) text)
pieces-step s separator text rest first more front pushed n push same cut read =
    let p = is_separator separator in
    let some : 0 < length (slice_split p more) = omega (arith, length-slice_split p more) in
    ap (λ numbers. after_front numbers (front_of s (slice_split p more))) push ∙ (sym (front-more s front (slice_split p rest) (slice_split p more) first n cut some read) ∙ same)
