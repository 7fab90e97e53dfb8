-- The numbers of a script's lines have 32 bits, and the lines of its items are read one after another.
use Rattle.std.proofs.Common.{◌≡◌, ℕ, ◌+◌, ◌<◌, ◌≤◌, ◌^◌, List, [], ◌∷◌, ◌++◌, length, Option, Some, None, Result, Ok, Err, refl, sym, ap, subst, ◌∙◌, append_assoc, append-nil, arith}
use Rattle.std.specs.Prelude.{IfSome, MatchOption, MatchResult}
use Rattle.std.specs.Str.Lines.{lines}
use Rattle.std.proofs.lemmas.List.Elements.{All-weaker, All-same, All-nil, All-head, All-tail, filter-append}
use Rattle.vnff_base.specs.Lines.{NumberedLine, UnreadLines, unread_from, numbered_from, words_of}
use Rattle.vnff_base.specs.declared.text.Line.{Line}
use Rattle.vnff_base.proofs.TextLaws.{numbered_from-numbers, length-lines-le}
use Rattle.vnff_base.specs.Shelves.{file_limit}
use Rattle.vnff_run.specs.Readings.{HasSmallNumbers, IsScriptFault, ReadsItem, is_kept, kept_in, kept_of, lines_from, numbered_words}
use Rattle.vnff_run.specs.Results.{◌>>=◌}
use Rattle.vnff_run.specs.Grammar.{at_line, items_of}
use Rattle.vnff_run.specs.ItemLines.{item_of}
use Rattle.vnff_run.specs.declared.script.Item.{Item}
use Rattle.vnff_run.specs.declared.script.Kept.{Kept}
use Rattle.vnff_run.specs.declared.error.Reason.{Reason}
use Rattle.vnff_run.specs.declared.error.ScriptFault.{ScriptFault}
use Rattle.vnff_run.specs.declared.error.ScriptFault.TheVariants as faults

abbrev IsSmall : NumberedLine → Type 0
IsSmall line = line.number < 2 ^ 32

-- a text that is not too long has few lines
pub small_lines : (text : List ℕ) (unread : UnreadLines) → length text ≤ file_limit → unread ≡ unread_from 1 text → HasSmallNumbers unread
small_lines text unread short is =
    let bound = length-lines-le text in
    let left : unread.left ≡ numbered_from 1 (lines text) = ap (λ u. u.left) is in
    let missing : unread.missing ≡ 1 + length (lines text) = ap (λ u. u.missing) is in
    record {
      left = All-same IsSmall _ _ left (All-weaker (λ line. (1 ≤ line.number) × (line.number < 1 + length (lines text))) IsSmall (λ line inside. omega (arith, inside.1, bound, short)) _ (numbered_from-numbers 1 (lines text)));
      missing = omega (arith, missing, bound, short);
    }

-- the first line, and those behind it
pub small_first : (old : UnreadLines) (more : List NumberedLine) (line : NumberedLine) → old.left ≡ line ∷ more → HasSmallNumbers old → line.number < 2 ^ 32
small_first old more line is small = All-head IsSmall line more (All-same IsSmall _ _ (sym is) small.left)

pub small_rest : (old new : UnreadLines) (line : NumberedLine) → old.left ≡ line ∷ new.left → new.missing ≡ old.missing → HasSmallNumbers old → HasSmallNumbers new
small_rest old new line is same small = record {
  left = All-tail IsSmall line new.left (All-same IsSmall _ _ (sym is) small.left);
  missing = omega (arith, same, small.missing);
}

pub ruleset small_numbers = (small_lines, small_first, small_rest)

-- ---- the items that a reader keeps

-- items in front of those that it keeps of what lines spell
abbrev pub with_front : Kept → List Item → Result (List Item) (ℕ × Reason) → Result (List Item) (ℕ × Reason)
with_front kept items spelled = spelled >>= λ more. Ok (items ++ kept_of kept more)

with_front-push : (kept : Kept) (items : List Item) (item : Item) (spelled : Result (List Item) (ℕ × Reason)) → with_front kept items (spelled >>= λ more. Ok (item ∷ more)) ≡ with_front kept (items ++ kept_of kept (item ∷ [])) spelled
with_front-push kept items item (Ok more) =
    ap (λ (kept_more : List Item). Ok (items ++ kept_more)) (filter-append (is_kept kept) (item ∷ []) more) ∙ ap Ok (sym (append_assoc items (kept_of kept (item ∷ [])) (kept_of kept more)))
with_front-push kept items item (Err fault) = refl

-- one more line is an item
pub items_of-step : (left lines : List NumberedLine) (line : NumberedLine) (item : Item) → left ≡ line ∷ lines → at_line line.number (item_of line.words) ≡ Ok item → items_of left ≡ (items_of lines >>= λ more. Ok (item ∷ more))
unfolding items_of
items_of-step left lines line item cut is = rw (cut, is) refl

pub items_of-more : (kept : Kept) (items : List Item) (left lines : List NumberedLine) (line : NumberedLine) (item : Item) → left ≡ line ∷ lines → at_line line.number (item_of line.words) ≡ Ok item → with_front kept items (items_of left) ≡ with_front kept (items ++ kept_of kept (item ∷ [])) (items_of lines)
items_of-more kept items left lines line item cut is =
    ap (with_front kept items) (items_of-step left lines line item cut is) ∙ with_front-push kept items item (items_of lines)

-- the fault of what is left is that of all
pub kept_in-fault : (kept : Kept) (fault : ScriptFault) (items : List Item) (left all : Result (List Item) (ℕ × Reason)) → with_front kept items left ≡ kept_in kept all → IsScriptFault left fault → IsScriptFault all fault
kept_in-fault kept (faults.Bad line reason) items left (Ok found) same is = absurd (cc)
kept_in-fault kept (faults.Bad line reason) items left (Err found) same is =
    let there : with_front kept items left ≡ Err (line, reason) = ap (with_front kept items) is in
    cc
kept_in-fault kept faults.Memory items left all same is = tt

-- no line is left
pub items_of-end : (kept : Kept) (items : List Item) (left : List NumberedLine) → left ≡ [] → with_front kept items (items_of left) ≡ Ok items
unfolding items_of
items_of-end kept items left none = rw none (ap Ok (append-nil items))

-- a fault of a first part is the whole's
pub fault_of_first : {A B : Type 0} (fault : ScriptFault) (part : Result A (ℕ × Reason)) (next : A → Result B (ℕ × Reason)) → IsScriptFault part fault → IsScriptFault (part >>= next) fault
fault_of_first (faults.Bad line reason) part next is = ap (λ p. p >>= next) is
fault_of_first faults.Memory part next is = tt

-- what a reader gives next, and what it leaves
pub next_lines : (old new : UnreadLines) (next : Option Line) → MatchOption next ((old.left ≡ []) × (new.left ≡ [])) (λ line. old.left ≡ numbered_words line ∷ new.left) → lines_from next new.left ≡ old.left
next_lines old new None is = sym is.0
next_lines old new (Some line) is = sym is

pub next_small : (old new : UnreadLines) (next : Option Line) → MatchOption next ((old.left ≡ []) × (new.left ≡ [])) (λ line. old.left ≡ numbered_words line ∷ new.left) → new.missing ≡ old.missing → HasSmallNumbers old → IfSome next (λ line. line.number < 2 ^ 32) × HasSmallNumbers new
next_small old new None is same small =
    (tt, record { left = All-same IsSmall _ _ is.1 (All-nil IsSmall); missing = omega (arith, same, small.missing) })
next_small old new (Some line) is same small =
    (small_first old new.left (numbered_words line) is small, small_rest old new (numbered_words line) is same small)

first_fault : (more : List NumberedLine) (line : Line) (fault : ScriptFault) → IsScriptFault (at_line line.number (item_of (words_of line.text.now))) fault → IsScriptFault (items_of (numbered_words line ∷ more)) fault
unfolding items_of
first_fault more line fault is = fault_of_first fault (at_line line.number (item_of (words_of line.text.now))) _ is

-- an item or a fault is what was read
pub read_is : (old new : List NumberedLine) (read found : Result Item ScriptFault) → read ≡ found → ReadsItem old new (Some read) → ReadsItem old new (Some found)
read_is old new read found is was = subst (λ r. ReadsItem old new (Some r)) is was

-- what is read of the next line of items
pub next_read : (old new : List NumberedLine) (line : Line) (read : Result Item ScriptFault) → old ≡ numbered_words line ∷ new → MatchResult read (λ item. at_line line.number (item_of (words_of line.text.now)) ≡ Ok item) (IsScriptFault (at_line line.number (item_of (words_of line.text.now)))) → ReadsItem old new (Some read)
next_read old new line (Ok item) cut is = (numbered_words line, cut, is)
next_read old new line (Err fault) cut is = subst (λ lines. IsScriptFault (items_of lines) fault) (sym cut) (first_fault new line fault is)
