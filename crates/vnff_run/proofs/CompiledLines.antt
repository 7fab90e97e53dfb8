-- The lines of a compiled table's script, as they are written piece by piece.
use Rattle.std.proofs.Common.{◌≡◌, ℕ, List, [], ◌∷◌, ◌++◌, map, codes, false, Option, Some, None, Result, refl, sym, ap, subst, ◌∙◌, append_assoc, append-nil}
use Rattle.std.specs.Cmp.Lexicographic.{pointwise}
use Rattle.std.proofs.lemmas.Bool.{cond-false}
use Rattle.std.proofs.lemmas.List.Folds.{flat_map-map}
use Rattle.std.specs.Fmt.{decimal, digits}
use Rattle.std.specs.List.{flat_map, join_with_byte}
use Rattle.std.proofs.lemmas.Grind.{flat_map-append}
use Rattle.admin_wire.specs.Layouts.{command_bytes}
use Rattle.admin_wire.specs.declared.command.Command.{Command}
use Rattle.cap_table.specs.Caps.{CapsParts, all_selectors}
use Rattle.cap_table.specs.declared.start.Start.TheVariants.{Ready}
use Rattle.ff_headers.specs.SelectorParts.{SelectorParts}
use Rattle.ntuple_text.specs.TableMaps.{TableMap}
use Rattle.ntuple_text.specs.declared.spec.Spec.{Spec}
use Rattle.ntuple_compile.specs.SpecFits.{specs_of}
use Rattle.vnff_base.specs.Hex.{hex_text}
use Rattle.vnff_base.specs.Outputs.{OutputState, Writes}
use Rattle.ntuple_text.specs.SpecTexts.{line_feed}
use Rattle.vnff_run.specs.CompileTexts.{command_line, comment_line}
use Rattle.vnff_run.specs.Programs.{device_numbers, selector_line, slot_line, spaced_number}
use Rattle.vnff_run.specs.ScriptTexts.{device_words, is_selector, item_words, line_text, select_words, selector_lines}
use Rattle.vnff_run.specs.SelectLines.{kind_word, mode_word}

-- a blank and a word
abbrev spaced : List ℕ → List ℕ
spaced word = 32 ∷ word

-- what is written is a wanted text
pub writes_as : {A E : Type 0} (old new : OutputState) (result : Result A E) {text wanted : List ℕ} → text ≡ wanted → Writes old new text result → Writes old new wanted result
writes_as old new result same wrote = subst (λ t. Writes old new t result) same wrote

-- words with blanks between them are the first, and the others each behind a blank
joined : (word : List ℕ) (words : List (List ℕ)) → join_with_byte 32 (word ∷ words) ≡ word ++ flat_map spaced words
joined word [] = sym (append-nil word)
joined word (next ∷ words) = ap (λ t. word ++ (32 ∷ t)) (joined next words)

line_is : (word : List ℕ) (words : List (List ℕ)) → line_text (word ∷ words) ≡ word ++ (flat_map spaced words ++ line_feed)
line_is word words = ap (λ t. t ++ line_feed) (joined word words) ∙ append_assoc word (flat_map spaced words) line_feed

-- the device's line: its word, its numbers and its start
pub device_line_is : (caps : CapsParts) (numbers : List ℕ) → numbers ≡ device_numbers caps → codes "device" ++ (flat_map spaced_number numbers ++ codes " ready\n") ≡ line_text (device_words caps Ready)
unfolding device_words
device_line_is caps numbers same =
    let words = map decimal (device_numbers caps) in
    let last : List (List ℕ) = codes "ready" ∷ [] in
    let both = flat_map-append spaced words last in
    ap (λ n. codes "device" ++ (flat_map spaced_number n ++ codes " ready\n")) same
    ∙ sym (line_is (codes "device") (words ++ last) ∙ ap (λ t. codes "device" ++ t) (ap (λ t. t ++ line_feed) both ∙ append_assoc (flat_map spaced words) (flat_map spaced last) line_feed))

four_words : (kind mode hex : List ℕ) → codes "select " ++ (kind ++ ((32 ∷ (mode ++ codes " ")) ++ (hex ++ line_feed))) ≡ line_text (codes "select" ∷ kind ∷ mode ∷ hex ∷ [])
four_words kind mode hex =
    let front : List ℕ → List ℕ = λ t. codes "select " ++ (kind ++ (32 ∷ t)) in
    ap front (append_assoc mode (codes " ") (hex ++ line_feed)) ∙ ap front (sym (append_assoc mode (32 ∷ hex) line_feed))
    ∙ ap (λ t. codes "select " ++ t) (sym (append_assoc kind (32 ∷ (mode ++ (32 ∷ hex))) line_feed))

-- a selector's line: the header, the mode between blanks, and the mask
pub selector_line_is : (selector : SelectorParts) (kind mode mask : List ℕ) → kind ≡ kind_word selector.kind → mode ≡ 32 ∷ (mode_word selector.flags ++ codes " ") → mask ≡ selector.mask → codes "select " ++ (kind ++ (mode ++ (hex_text mask ++ line_feed))) ≡ selector_line selector
unfolding select_words
selector_line_is selector kind mode mask is_kind is_mode is_mask =
    ap (λ k. codes "select " ++ (k ++ (mode ++ (hex_text mask ++ line_feed)))) is_kind
    ∙ ap (λ m. codes "select " ++ (kind_word selector.kind ++ (m ++ (hex_text mask ++ line_feed)))) is_mode
    ∙ ap (λ m. codes "select " ++ (kind_word selector.kind ++ ((32 ∷ (mode_word selector.flags ++ codes " ")) ++ (hex_text m ++ line_feed)))) is_mask
    ∙ four_words (kind_word selector.kind) (mode_word selector.flags) (hex_text selector.mask)

-- the lines of selectors that aren't all those that a device has without such a line
pub selector_lines_are : (selectors : List SelectorParts) → pointwise is_selector selectors all_selectors ≡ false → flat_map selector_line selectors ≡ flat_map line_text (selector_lines selectors)
unfolding selector_lines
selector_lines_are selectors some =
    sym (ap (flat_map line_text) (cond-false (pointwise is_selector selectors all_selectors) [] (map select_words selectors) some) ∙ flat_map-map line_text select_words selectors)

-- the room of a command, in decimal
eight : decimal 8 ≡ codes "8"
unfolding digits
eight = refl

-- a command's line
pub command_line_is : (command : Command) (bytes : List ℕ) → bytes ≡ command_bytes command → codes "admin " ++ (hex_text bytes ++ codes " 8\n") ≡ command_line command
unfolding command_line item_words
command_line_is command bytes same =
    let hex = hex_text (command_bytes command) in
    ap (λ b. codes "admin " ++ (hex_text b ++ codes " 8\n")) same
    ∙ ap (λ t. codes "admin " ++ (hex ++ (32 ∷ (t ++ line_feed)))) (sym eight) ∙ ap (λ t. codes "admin " ++ t) (sym (append_assoc hex (32 ∷ decimal 8) line_feed))

-- the comments of specs are those of what stands at each location
comments_are : (slots : List (Option Spec)) → flat_map comment_line (specs_of (record { pairs = 0; slots = slots })) ≡ flat_map slot_line slots
comments_are [] = refl
comments_are (None ∷ slots) = comments_are slots
comments_are (Some spec ∷ slots) = ap (λ t. comment_line spec ++ t) (comments_are slots)

pub comments_of_slots : (table : TableMap) → flat_map comment_line (specs_of table) ≡ flat_map slot_line table.slots
comments_of_slots table = comments_are table.slots
