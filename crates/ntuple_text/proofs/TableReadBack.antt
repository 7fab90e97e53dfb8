-- The text of a table is read as the same table.
use Rattle.std.proofs.Common.{◌≡◌, ℕ, ◌+◌, ◌≤◌, false, List, [], ◌∷◌, ◌++◌, length, get_or, ap, refl, arith, length-append, sym, ◌∙◌, Some, None, Option, append_assoc, codes, if◌then◌else◌, Ok, suc, slice_set}
use Rattle.std.specs.List.{flat_map}
use Rattle.std.specs.Option.{IfSome}
use Rattle.std.specs.Str.Lines.{lines}
use Rattle.std.proofs.Math.Seq.{set-append_seam}
use Rattle.std.proofs.lemmas.Bool.{cond-false}
use Rattle.std.proofs.lemmas.Option.{IfSome_then}
use Rattle.vnff_base.specs.Lines.{words_of, is_skipped, numbered_from, word_lines}
use Rattle.vnff_base.proofs.TextLaws.{lines-line}
use Rattle.ntuple_text.specs.Keys.{flow_word}
use Rattle.ntuple_text.specs.SpecTexts.{spec_text, slot_text, table_lines}
use Rattle.ntuple_text.specs.Spellable.{IsSpellable, IsTable}
use Rattle.ntuple_text.specs.TableLines.{after_lines, rest_or_fault, table_of}
use Rattle.ntuple_text.specs.TableMaps.{TableMap, with_spec, free_slots}
use Rattle.ntuple_text.specs.declared.spec.Spec.{Spec}
use Rattle.ntuple_text.proofs.LineReadBack.{words-line}
use Rattle.ntuple_text.proofs.SpecLines.{IsLine-spec_text, words_of-spec_text}
use Rattle.ntuple_text.proofs.TableLemmas.{free_slots-none}
use Rattle.ntuple_text.proofs.WordsReadBack.{option_words}

-- what stands at a place is a spec of this place, which a line can spell
abbrev IsSlot : ℕ → ℕ → Option Spec → Type 0
IsSlot pairs place slot = IfSome slot (λ spec. (spec.loc ≡ place) × IsSpellable pairs spec)

-- the places of a list that begins at one of the table's
abbrev AreSlots : ℕ → ℕ → List (Option Spec) → Type 0
AreSlots pairs place [] = Unit {0}
AreSlots pairs place (slot ∷ slots) = IsSlot pairs place slot × AreSlots pairs (place + 1) slots

-- the places of a whole table, from their contents
slots-from : (pairs place : ℕ) (slots : List (Option Spec)) → ((k : ℕ) → IsSlot pairs (place + k) (get_or slots k None)) → AreSlots pairs place slots
slots-from pairs place [] all = tt
slots-from pairs place (slot ∷ slots) all =
    (IfSome_then slot (all 0) (λ spec good. (omega arith, good.1)), slots-from pairs (place + 1) slots (λ k. IfSome_then (get_or slots k None) (all (suc k)) (λ spec good. (omega arith, good.1))))

-- free places from the first on
free_slots-next : (n : ℕ) → free_slots (suc n) ≡ None ∷ free_slots n
unfolding free_slots
free_slots-next n = refl

-- a line that isn't skipped comes first
numbered-line : (from : ℕ) (line word : List ℕ) (words more : List (List ℕ)) → words_of line ≡ word ∷ words → is_skipped (word ∷ words) ≡ false → numbered_from from (line ∷ more) ≡ record { number = from; words = word ∷ words } ∷ numbered_from (from + 1) more
numbered-line from line word words more is kept =
    let later = numbered_from (from + 1) more in
    ap (λ (read : List (List ℕ)). if is_skipped read then later else record { number = from; words = read } ∷ later) is ∙ cond-false (is_skipped (word ∷ words)) later (record { number = from; words = word ∷ words } ∷ later) kept

-- a table whose first places are filled
abbrev table_at : ℕ → List (Option Spec) → ℕ → TableMap
table_at pairs front count = record { pairs = pairs; slots = front ++ free_slots count }

-- the next place is filled
filled : (pairs : ℕ) (front : List (Option Spec)) (spec : Spec) (count : ℕ) → spec.loc ≡ length front → with_spec (table_at pairs front (suc count)) spec ≡ table_at pairs (front ++ Some spec ∷ []) count
filled pairs front spec count at =
    let free = free_slots count in
    ap (λ slots. record { pairs = pairs; slots = slots }) (ap (λ place. slice_set (front ++ free_slots (suc count)) place (Some spec)) at ∙ (ap (λ rest. slice_set (front ++ rest) (length front) (Some spec)) (free_slots-next count) ∙ (set-append_seam front None free (Some spec) ∙ sym (append_assoc front (Some spec ∷ []) free))))

-- the lines of the places that are left
rest-read : (pairs : ℕ) (front rest : List (Option Spec)) (from place : ℕ) → pairs ≤ 16 → length front ≡ place → AreSlots pairs place rest → after_lines (table_at pairs front (length rest)) (numbered_from from (lines (flat_map slot_text rest))) ≡ Ok (record { pairs = pairs; slots = front ++ rest })
unfolding slot_text
rest-read pairs front [] from place few at good = ap (λ slots. Ok (record { pairs = pairs; slots = front ++ slots })) free_slots-none
rest-read pairs front (None ∷ rest) from place few at good =
    let read = numbered_from from (lines (flat_map slot_text rest)) in
    let count = length rest in
    ap (λ free. after_lines (record { pairs = pairs; slots = front ++ free }) read) (free_slots-next count) ∙ (ap (λ slots. after_lines (record { pairs = pairs; slots = slots }) read) (sym (append_assoc front (None ∷ []) (free_slots count))) ∙ (rest-read pairs (front ++ None ∷ []) rest from (place + 1) few (omega (arith, at, length-append front (None ∷ []))) good.1 ∙ ap (λ slots. Ok (record { pairs = pairs; slots = slots })) (append_assoc front (None ∷ []) rest)))
rest-read pairs front (Some spec ∷ rest) from place few at good =
    let text = spec_text spec in
    let more = flat_map slot_text rest in
    let table = table_at pairs front (suc (length rest)) in
    let words = flow_word spec.flow ∷ option_words spec in
    let later = numbered_from (from + 1) (lines more) in
    let cut : lines (text ++ 10 ∷ [] ++ more) ≡ text ∷ lines more = ap lines (append_assoc text (10 ∷ []) more) ∙ lines-line text more (IsLine-spec_text pairs spec few good.0.1) in
    let first = numbered-line from text (codes "flow-type") words (lines more) (words_of-spec_text pairs spec few good.0.1) refl in
    ap (λ read. after_lines table (numbered_from from read)) cut ∙ (ap (after_lines table) first ∙ (ap (rest_or_fault (λ next. after_lines next later) from) (words-line table spec few good.0.1) ∙ (ap (λ next. after_lines next later) (filled pairs front spec (length rest) (good.0.0 ∙ sym at)) ∙ (rest-read pairs (front ++ Some spec ∷ []) rest (from + 1) (place + 1) few (omega (arith, at, length-append front (Some spec ∷ []))) good.1 ∙ ap (λ slots. Ok (record { pairs = pairs; slots = slots })) (append_assoc front (Some spec ∷ []) rest)))))

-- the lines of all places
pub table-read : (pairs : ℕ) (slots : List (Option Spec)) → IsTable pairs slots → table_of pairs (word_lines (table_lines (record { pairs = pairs; slots = slots }))) ≡ Ok (record { pairs = pairs; slots = slots })
unfolding table_of
table-read pairs slots good =
    let read = numbered_from 1 (lines (flat_map slot_text slots)) in
    ap (λ count. after_lines (table_at pairs [] count) read) (sym good.size) ∙ rest-read pairs [] slots 1 0 good.few refl (slots-from pairs 0 slots (λ k. IfSome_then (get_or slots k None) (good.spelled k) (λ spec at. (omega arith, at.1))))
