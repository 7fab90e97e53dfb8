-- What a text spells is within the limits of the grammar: the bytes of its commands, their rooms, and its frames; and it
-- spells no more items than it has bytes.
use Rattle.std.proofs.Common.{◌≡◌, ◌≢◌, ℕ, ◌+◌, ◌≤◌, Bool, true, false, not, List, [], ◌∷◌, codes, length, drop, Option, Some, None, Result, Ok, Err, ◌⊎◌, inl, inr, ⊎_elim, refl, subst, arith}
use Rattle.std.specs.Prelude.{IfOk, MatchResult, ◌&&◌, if◌then◌else◌, nat_le, option_and_then}
use Rattle.std.specs.List.{All}
use Rattle.std.specs.Option.{ok_or}
use Rattle.std.proofs.lemmas.Bool.{and_parts, leb-true}
use Rattle.std.proofs.lemmas.List.Elements.{All-nil, All-cons, All-filter}
use Rattle.std.specs.Str.{bytes_eq}
use Rattle.std.specs.Str.Lines.{lines}
use Rattle.ff_headers.specs.Kinds.{kind_code}
use Rattle.ff_headers.specs.SelectorParts.{SelectorParts}
use Rattle.vnff_base.proofs.TextLaws.{length-lines-le}
use Rattle.vnff_base.specs.Hex.{hex_bytes}
use Rattle.vnff_base.specs.Lines.{NumberedLine, is_skipped, numbered_from, words_of}
use Rattle.vnff_base.specs.Numbers.{number_of}
use Rattle.capture.specs.Sizes.{longest_frame}
use Rattle.steer.specs.BenchPlaces.{most_command, most_room}
use Rattle.vnff_run.specs.DeviceLines.{device_of, is_version}
use Rattle.vnff_run.specs.Grammar.{after_version, at_line, device_in, items_of, script_of, script_of_lines, first_selectors, caps_with_selectors}
use Rattle.vnff_run.specs.ItemLines.{IsItemWithin, admin_of, frame_item, item_of}
use Rattle.vnff_run.specs.Readings.{IsScriptFault, ReadsKept, is_kept, kept_of, with_kept}
use Rattle.vnff_run.specs.Results.{◌>>=◌}
use Rattle.vnff_run.specs.SelectLines.{is_select, selector_in_line}
use Rattle.vnff_run.specs.Words.{bytes_within, if_within, number_within}
use Rattle.vnff_run.specs.declared.script.DeviceLine.{DeviceLine}
use Rattle.vnff_run.specs.declared.script.Item.{Item}
use Rattle.vnff_run.specs.declared.script.Item.TheVariants.{Admin, Frame}
use Rattle.vnff_run.specs.declared.script.Kept.{Kept}
use Rattle.vnff_run.specs.declared.script.Kept.TheVariants.{All as Everything, Commands, Nothing}
use Rattle.vnff_run.specs.declared.error.Reason.{Reason}
use Rattle.vnff_run.specs.declared.error.Reason.TheVariants.{Hex, Room, Version, Word}
use Rattle.vnff_run.specs.declared.script.Script.{Script}
use Rattle.vnff_run.specs.declared.error.ScriptFault.{ScriptFault}

-- what steps give that are all done
pub both_done : {A B E : Type 0} (first : Result A E) (next : A → Result B E) (value : B) → (first >>= next) ≡ Ok value → (part : A) × (first ≡ Ok part) × (next part ≡ Ok value)
both_done (Ok part) next value is = (part, refl, is)
both_done (Err fault) next value is = absurd (cc)

there : {A E : Type 0} (found : Option A) (fault : E) (value : A) → ok_or found fault ≡ Ok value → found ≡ Some value
there (Some x) fault value is = cc
there None fault value is = absurd (cc)

found_then : {A B : Type 0} (found : Option A) (next : A → Option B) (value : B) → option_and_then next found ≡ Some value → (part : A) × (found ≡ Some part) × (next part ≡ Some value)
found_then (Some part) next value is = (part, refl, is)
found_then None next value is = absurd (cc)

passed : {A : Type 0} (test : Bool) (x value : A) → (if test then Some x else None) ≡ Some value → (test ≡ true) × (x ≡ value)
passed true x value is = (refl, cc)
passed false x value is = absurd (cc)

-- a number that a word spells
number_bounds : (reason : Reason) (low high : ℕ) (word : List ℕ) (n : ℕ) → number_within reason low high word ≡ Ok n → (low ≤ n) × (n ≤ high)
unfolding number_within
number_bounds reason low high word n is =
    let found = found_then (number_of word) (λ m. if nat_le low m && nat_le m high then Some m else None) n (there _ reason n is) in
    let test = passed (nat_le low found.0 && nat_le found.0 high) found.0 n found.2 in
    let parts = and_parts _ _ test.0 in
    subst (λ m. (low ≤ m) × (m ≤ high)) test.1 (leb-true low found.0 parts.0, leb-true found.0 high parts.1)

-- bytes that a word spells
bytes_bounds : (reason : Reason) (low high : ℕ) (word bytes : List ℕ) → bytes_within reason low high word ≡ Ok bytes → (low ≤ length bytes) × (length bytes ≤ high)
unfolding bytes_within
bytes_bounds reason low high word bytes is =
    let found = found_then (hex_bytes word) (if_within low high) bytes (there _ reason bytes is) in
    let test = passed (nat_le low (length found.0) && nat_le (length found.0) high) found.0 bytes found.2 in
    let parts = and_parts _ _ test.0 in
    subst (λ b. (low ≤ length b) × (length b ≤ high)) test.1 (leb-true low _ parts.0, leb-true _ high parts.1)

admin_within : (words : List (List ℕ)) (item : Item) → admin_of words ≡ Ok item → IsItemWithin item
unfolding admin_of
admin_within [] item is = absurd (cc)
admin_within (hex ∷ []) item is = absurd (cc)
admin_within (hex ∷ room ∷ []) item is =
    let bytes = both_done (bytes_within Hex 1 most_command hex) _ item is in
    let number = both_done (number_within Room 0 most_room room) _ item bytes.2 in
    let command = bytes_bounds Hex 1 most_command hex bytes.0 bytes.1 in
    let space = number_bounds Room 0 most_room room number.0 number.1 in
    let same : Admin (record { bytes = bytes.0; room = number.0 }) ≡ item = cc in
    subst IsItemWithin same (record { some = command.0; most = command.1; room = space.1 })
admin_within (hex ∷ room ∷ more ∷ words) item is = absurd (cc)

frame_within : (words : List (List ℕ)) (item : Item) → frame_item words ≡ Ok item → IsItemWithin item
unfolding frame_item
frame_within [] item is = absurd (cc)
frame_within (hex ∷ []) item is =
    let bytes = both_done (bytes_within Hex 0 longest_frame hex) _ item is in
    let same : Frame bytes.0 ≡ item = cc in
    subst IsItemWithin same (bytes_bounds Hex 0 longest_frame hex bytes.0 bytes.1).1
frame_within (hex ∷ more ∷ words) item is = absurd (cc)

either_within : (first second : Bool) (admin frame fault : Result Item Reason) (item : Item) → (admin ≡ Ok item → IsItemWithin item) → (frame ≡ Ok item → IsItemWithin item) → fault ≢ Ok item → (if first then admin else if second then frame else fault) ≡ Ok item → IsItemWithin item
either_within true second admin frame fault item one other none is = one is
either_within false true admin frame fault item one other none is = other is
either_within false false admin frame fault item one other none is = absurd (none is)

item_within : (words : List (List ℕ)) (item : Item) → item_of words ≡ Ok item → IsItemWithin item
unfolding item_of
item_within [] item is = absurd (cc)
item_within (name ∷ words) item is =
    either_within (bytes_eq name (codes "admin")) (bytes_eq name (codes "frame")) (admin_of words) (frame_item words) (Err Word) item (admin_within words item) (frame_within words item) (λ e. absurd (cc)) is

at_line-ok : {A : Type 0} (number : ℕ) (spelled : Result A Reason) (value : A) → at_line number spelled ≡ Ok value → spelled ≡ Ok value
at_line-ok number (Ok x) value is = cc
at_line-ok number (Err reason) value is = absurd (cc)

-- what is read of a line
pub read_item_within : (number : ℕ) (words : List (List ℕ)) (read : Result Item ScriptFault) → MatchResult read (λ item. at_line number (item_of words) ≡ Ok item) (IsScriptFault (at_line number (item_of words))) → IfOk read IsItemWithin
read_item_within number words (Ok item) is = item_within words item (at_line-ok number _ item is)
read_item_within number words (Err fault) is = tt

items_within : (lines : List NumberedLine) (items : List Item) → items_of lines ≡ Ok items → All IsItemWithin items
unfolding items_of
items_within [] items is =
    let same : [] ≡ items = cc in
    subst (All IsItemWithin) same (All-nil IsItemWithin)
items_within (line ∷ lines) items is =
    let first = both_done (at_line line.number (item_of line.words)) _ items is in
    let more = both_done (items_of lines) _ items first.2 in
    let same : first.0 ∷ more.0 ≡ items = cc in
    subst (All IsItemWithin) same (All-cons IsItemWithin first.0 more.0 (item_within line.words first.0 (at_line-ok line.number _ first.0 first.1)) (items_within lines more.0 more.1))

-- the items of a script that lines spell
script_within : (missing : ℕ) (lines : List NumberedLine) (script : Script) → script_of_lines missing lines ≡ Ok script → All IsItemWithin script.items
unfolding script_of_lines
script_within missing lines script is =
    let behind = both_done (after_version missing lines) _ script is in
    let device = both_done (device_in missing behind.0) _ script behind.2 in
    let selected = both_done (first_selectors 0 device.0.1) _ script device.2 in
    let items = both_done (items_of selected.0.1) _ script selected.2 in
    let same : record { caps = caps_with_selectors device.0.0.caps selected.0.0; start = device.0.0.start; items = items.0 } ≡ script = cc in
    subst (λ (s : Script). All IsItemWithin s.items) same (items_within selected.0.1 items.0 items.1)

-- and of what a reader of a text keeps
pub kept_within : (kept : Kept) (text : List ℕ) (result : Result Script ScriptFault) → ReadsKept kept (script_of text) result → IfOk result (λ script. All IsItemWithin script.items)
kept_within kept text (Ok read) is =
    let whole = both_done (script_of text) _ read is in
    let same : with_kept kept whole.0 ≡ read = cc in
    subst (λ (s : Script). All IsItemWithin s.items) same (All-filter (is_kept kept) IsItemWithin whole.0.items (script_within _ _ whole.0 whole.1))
kept_within kept text (Err fault) is = tt

-- ---- how many items there are

items_count : (lines : List NumberedLine) (items : List Item) → items_of lines ≡ Ok items → length items ≤ length lines
unfolding items_of
items_count [] items is =
    let same : [] ≡ items = cc in
    subst (λ (found : List Item). length found ≤ 0) same (omega arith)
items_count (line ∷ lines) items is =
    let first = both_done (at_line line.number (item_of line.words)) _ items is in
    let more = both_done (items_of lines) _ items first.2 in
    let same : first.0 ∷ more.0 ≡ items = cc in
    subst (λ (found : List Item). length found ≤ length (line ∷ lines)) same (omega (arith, items_count lines more.0 more.1))

passed_or : {A E : Type 0} (test : Bool) (x value : A) (fault : E) → (if test then Ok x else Err fault) ≡ Ok value → x ≡ value
passed_or true x value fault is = cc
passed_or false x value fault is = absurd (cc)

behind_version : (missing : ℕ) (lines behind : List NumberedLine) → after_version missing lines ≡ Ok behind → length behind ≤ length lines
unfolding after_version
behind_version missing [] behind is = absurd (cc)
behind_version missing (line ∷ lines) behind is =
    let same = passed_or (is_version line.words) lines behind (line.number, Version) is in
    subst (λ (found : List NumberedLine). length found ≤ length (line ∷ lines)) same (omega arith)

behind_device : (missing : ℕ) (lines : List NumberedLine) (device : DeviceLine × List NumberedLine) → device_in missing lines ≡ Ok device → length device.1 ≤ length lines
unfolding device_in
behind_device missing [] device is = absurd (cc)
behind_device missing (line ∷ lines) device is =
    let read = both_done (at_line line.number (device_of line.words)) _ device is in
    let same : (read.0, lines) ≡ device = cc in
    subst (λ (found : DeviceLine × List NumberedLine). length found.1 ≤ length (line ∷ lines)) same (omega arith)

select_or : (test : Bool) (stop more : Result (List SelectorParts × List NumberedLine) (ℕ × Reason)) (value : List SelectorParts × List NumberedLine) → (if not test then stop else more) ≡ Ok value → (stop ≡ Ok value) ⊎ (more ≡ Ok value)
select_or true stop more value is = inr is
select_or false stop more value is = inl is

behind_selectors : (last : ℕ) (lines : List NumberedLine) (selected : List SelectorParts × List NumberedLine) → first_selectors last lines ≡ Ok selected → length selected.1 ≤ length lines
unfolding first_selectors
behind_selectors last [] selected is =
    let same : ([], []) ≡ selected = cc in
    subst (λ (found : List SelectorParts × List NumberedLine). length found.1 ≤ 0) same (omega arith)
behind_selectors last (line ∷ lines) selected is =
    ⊎_elim
    (λ stop. let same : ([], line ∷ lines) ≡ selected = cc in subst (λ (found : List SelectorParts × List NumberedLine). length found.1 ≤ length (line ∷ lines)) same (omega arith))
    (λ more. let selector = both_done (at_line line.number (selector_in_line last (drop 1 line.words))) _ selected more in
    let rest = both_done (first_selectors (kind_code selector.0.kind) lines) _ selected selector.2 in
    let same : (selector.0 ∷ rest.0.0, rest.0.1) ≡ selected = cc in
    subst (λ (found : List SelectorParts × List NumberedLine). length found.1 ≤ length (line ∷ lines)) same (omega (arith, behind_selectors (kind_code selector.0.kind) lines rest.0 rest.1)))
    (select_or (is_select line.words) (Ok ([], line ∷ lines)) _ selected is)

script_few : (missing : ℕ) (lines : List NumberedLine) (script : Script) → script_of_lines missing lines ≡ Ok script → length script.items ≤ length lines
unfolding script_of_lines
script_few missing lines script is =
    let behind = both_done (after_version missing lines) _ script is in
    let device = both_done (device_in missing behind.0) _ script behind.2 in
    let selected = both_done (first_selectors 0 device.0.1) _ script device.2 in
    let items = both_done (items_of selected.0.1) _ script selected.2 in
    let same : record { caps = caps_with_selectors device.0.0.caps selected.0.0; start = device.0.0.start; items = items.0 } ≡ script = cc in
    subst (λ (s : Script). length s.items ≤ length lines) same
    (omega (arith, items_count selected.0.1 items.0 items.1, behind_selectors 0 device.0.1 selected.0 selected.1, behind_device missing behind.0 device.0 device.1, behind_version missing lines behind.0 behind.1))

skipped_or : (skipped : Bool) (line : NumberedLine) (more : List NumberedLine) (n : ℕ) → length more ≤ n → length (if skipped then more else line ∷ more) ≤ n + 1
skipped_or true line more n few = omega (arith, few)
skipped_or false line more n few = omega (arith, few)

numbered_few : (from : ℕ) (text : List (List ℕ)) → length (numbered_from from text) ≤ length text
numbered_few from [] = omega arith
numbered_few from (line ∷ text) =
    let words = words_of line in
    omega (arith, skipped_or (is_skipped words) (record { number = from; words = words }) (numbered_from (from + 1) text) (length text) (numbered_few (from + 1) text))

-- a reader keeps no more items than there are
few_of : (kept : Kept) (items : List Item) → length (kept_of kept items) ≤ length items
few_of kept [] = omega arith
few_of Everything (item ∷ items) = omega (arith, few_of Everything items)
few_of Commands (Admin line ∷ items) = omega (arith, few_of Commands items)
few_of Commands (Frame frame ∷ items) = omega (arith, few_of Commands items)
few_of Nothing (item ∷ items) = omega (arith, few_of Nothing items)

-- and a text has no more than bytes
pub kept_few : (kept : Kept) (text : List ℕ) (result : Result Script ScriptFault) → ReadsKept kept (script_of text) result → IfOk result (λ script. length script.items ≤ length text)
kept_few kept text (Ok read) is =
    let whole = both_done (script_of text) _ read is in
    let same : with_kept kept whole.0 ≡ read = cc in
    subst (λ (s : Script). length s.items ≤ length text) same
    (omega (arith, few_of kept whole.0.items, script_few _ _ whole.0 whole.1, numbered_few 1 (lines text), length-lines-le text))
kept_few kept text (Err fault) is = tt
