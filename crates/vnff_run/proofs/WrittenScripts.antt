-- What is read of a script with the items that its reader keeps, and of the canonical text of a script.
use Rattle.std.proofs.Common.{◌≡◌, ℕ, List, [], ◌∷◌, Result, Ok, Err, refl, sym, ap, subst, ◌∙◌}
use Rattle.std.specs.Prelude.{◌≤◌, All, MatchResult, length}
use Rattle.vnff_base.specs.Lines.{UnreadLines, unread_from}
use Rattle.vnff_run.specs.Grammar.{items_of, script_of, script_of_lines}
use Rattle.vnff_run.specs.ItemLines.{IsItemWithin}
use Rattle.vnff_run.specs.Readings.{IsScriptFault, ReadsKept, kept_in, kept_of, with_kept}
use Rattle.vnff_run.specs.Results.{◌>>=◌}
use Rattle.vnff_run.specs.ScriptTexts.{script_text}
use Rattle.vnff_run.specs.Spellable.{IsSpellable}
use Rattle.vnff_run.specs.UnreadScripts.{OpensScript, spelled_by}
use Rattle.vnff_run.specs.declared.error.Reason.{Reason}
use Rattle.vnff_run.specs.declared.error.ScriptFault.{ScriptFault}
use Rattle.vnff_run.specs.declared.error.ScriptFault.TheVariants as faults
use Rattle.vnff_run.specs.declared.script.Item.{Item}
use Rattle.vnff_run.specs.declared.script.Kept.{Kept}
use Rattle.vnff_run.specs.declared.script.Kept.TheVariants.{All as Everything}
use Rattle.vnff_run.specs.declared.script.Script.{Script}
use Rattle.vnff_run.specs.declared.unread_script.UnreadScript.{UnreadScript}
use Rattle.vnff_run.proofs.GrammarLemmas.{fault_of_first}
use Rattle.vnff_run.proofs.ItemBounds.{both_done, kept_few, kept_within}
use Rattle.vnff_run.proofs.ScriptReadBack.{script-read}

-- ---- the head of a script, and then its items

-- what a text spells is what its lines do
spelled_alike : (text : List ℕ) (unread : UnreadLines) (spelled : Result Script (ℕ × Reason)) → unread ≡ unread_from 1 text → script_of_lines unread.missing unread.left ≡ spelled → script_of text ≡ spelled
spelled_alike text unread spelled start is =
    subst (λ (u : UnreadLines). script_of_lines u.missing u.left ≡ spelled) start is

pub head_fault : (text : List ℕ) (unread : UnreadLines) (fault : ScriptFault) → unread ≡ unread_from 1 text → IsScriptFault (script_of_lines unread.missing unread.left) fault → IsScriptFault (script_of text) fault
head_fault text unread fault start is =
    subst (λ (u : UnreadLines). IsScriptFault (script_of_lines u.missing u.left) fault) start is

pub items_fault : (text : List ℕ) (unread : UnreadLines) (script : UnreadScript) (fault : ScriptFault) → unread ≡ unread_from 1 text → script_of_lines unread.missing unread.left ≡ spelled_by script → IsScriptFault (items_of script.items) fault → IsScriptFault (script_of text) fault
items_fault text unread script fault start head is =
    subst (λ spelled. IsScriptFault spelled fault) (sym (spelled_alike text unread (spelled_by script) start head)) (fault_of_first fault (items_of script.items) _ is)

pub kept_items : (text : List ℕ) (unread : UnreadLines) (kept : Kept) (script : UnreadScript) (items : List Item) → unread ≡ unread_from 1 text → script_of_lines unread.missing unread.left ≡ spelled_by script → kept_in kept (items_of script.items) ≡ Ok items → ReadsKept kept (script_of text) (Ok (record { caps = script.caps; start = script.start; items = items }))
kept_items text unread kept script items start head is =
    let whole = both_done (items_of script.items) _ items is in
    let same : kept_of kept whole.0 ≡ items = cc in
    ap (λ spelled. spelled >>= λ (s : Script). Ok (with_kept kept s)) (spelled_alike text unread (spelled_by script) start head)
    ∙ ap (λ (read : Result (List Item) (ℕ × Reason)). (read >>= λ i. Ok (record { caps = script.caps; start = script.start; items = i })) >>= λ (s : Script). Ok (with_kept kept s)) whole.1
    ∙ ap (λ i. Ok (record { caps = script.caps; start = script.start; items = i })) same

pub kept_items_within : (text : List ℕ) (unread : UnreadLines) (kept : Kept) (script : UnreadScript) (items : List Item) → unread ≡ unread_from 1 text → script_of_lines unread.missing unread.left ≡ spelled_by script → kept_in kept (items_of script.items) ≡ Ok items → All IsItemWithin items
kept_items_within text unread kept script items start head is =
    kept_within kept text (Ok (record { caps = script.caps; start = script.start; items = items })) (kept_items text unread kept script items start head is)

pub kept_items_few : (text : List ℕ) (unread : UnreadLines) (kept : Kept) (script : UnreadScript) (items : List Item) → unread ≡ unread_from 1 text → script_of_lines unread.missing unread.left ≡ spelled_by script → kept_in kept (items_of script.items) ≡ Ok items → length items ≤ length text
kept_items_few text unread kept script items start head is =
    kept_few kept text (Ok (record { caps = script.caps; start = script.start; items = items })) (kept_items text unread kept script items start head is)

-- a text that was read once has no fault the next time
pub opened : (text : List ℕ) (unread : UnreadLines) (kept : Kept) (read : Script) (result : Result UnreadScript ScriptFault) → unread ≡ unread_from 1 text → ReadsKept kept (script_of text) (Ok read) → MatchResult result (λ script. script_of_lines unread.missing unread.left ≡ spelled_by script) (IsScriptFault (script_of_lines unread.missing unread.left)) → OpensScript (script_of text) result
opened text unread kept read (Ok script) start was head =
    let whole = both_done (script_of text) _ read was in
    (whole.0, whole.1, sym (spelled_alike text unread (spelled_by script) start head) ∙ whole.1)
opened text unread kept read (Err fault) start was head = head_fault text unread fault start head

-- ---- all items are kept

all_kept : (items : List Item) → kept_of Everything items ≡ items
all_kept [] = refl
all_kept (item ∷ items) = ap (λ more. item ∷ more) (all_kept items)

pub read_whole : (spelled : Result Script (ℕ × Reason)) (result : Result Script ScriptFault) → ReadsKept Everything spelled result → MatchResult result (λ script. spelled ≡ Ok script) (IsScriptFault spelled)
read_whole (Ok script) (Ok read) is =
    ap (λ items. Ok (record { caps = script.caps; start = script.start; items = items })) (sym (all_kept script.items)) ∙ is
read_whole (Err fault) (Ok read) is = absurd (cc)
read_whole spelled (Err fault) is = is

-- ---- canonical texts

pub written_script : (text : List ℕ) (result : Result Script ScriptFault) → MatchResult result (λ script. script_of text ≡ Ok script) (IsScriptFault (script_of text)) → (script : Script) → IsSpellable script → text ≡ script_text script → MatchResult result (λ read. read ≡ script) (λ fault. fault ≡ faults.Memory)
written_script text (Ok read) is script good same =
    let spelled : script_of text ≡ Ok script = ap script_of same ∙ script-read script good in
    cc
written_script text (Err (faults.Bad line reason)) is script good same =
    let spelled : script_of text ≡ Ok script = ap script_of same ∙ script-read script good in
    absurd (cc)
written_script text (Err faults.Memory) is script good same = refl
