-- What readers of scripts answer that find a fault, of which memory may run out, and what they know of line numbers.
use Rattle.std.specs.Prelude.{ℕ, Bool, true, false, ◌≡◌, ◌<◌, ◌^◌, All, List, [], ◌∷◌, filter, Option, Some, None, Result, Ok, Err, MatchResult, ⊤}
use Rattle.vnff_base.specs.Lines.{NumberedLine, UnreadLines, words_of}
use Rattle.vnff_base.specs.declared.text.Line.{Line}
use Rattle.vnff_run.specs.Grammar.{at_line, items_of}
use Rattle.vnff_run.specs.ItemLines.{item_of}
use Rattle.vnff_run.specs.Results.{◌>>=◌}
use Rattle.vnff_run.specs.declared.error.LineFault.{LineFault}
use Rattle.vnff_run.specs.declared.error.LineFault.TheVariants as line_faults
use Rattle.vnff_run.specs.declared.error.Reason.{Reason}
use Rattle.vnff_run.specs.declared.error.ScriptFault.{ScriptFault}
use Rattle.vnff_run.specs.declared.error.ScriptFault.TheVariants as faults
use Rattle.vnff_run.specs.declared.script.Item.{Item}
use Rattle.vnff_run.specs.declared.script.Item.TheVariants.{Admin, Frame}
use Rattle.vnff_run.specs.declared.script.Kept.{Kept}
use Rattle.vnff_run.specs.declared.script.Kept.TheVariants.{All as Everything, Commands, Nothing}
use Rattle.vnff_run.specs.declared.script.Script.{Script}

-- The fault is the first one of these lines, unless memory ran out.
abbrev pub IsScriptFault : {A : Type 0} → Result A (ℕ × Reason) → ScriptFault → Type 0
IsScriptFault spelled (faults.Bad line reason) = spelled ≡ Err (line, reason)
IsScriptFault spelled faults.Memory = ⊤

-- The fault is the first one of this line, unless memory ran out.
abbrev pub IsLineFaultOf : {A : Type 0} → Result A Reason → LineFault → Type 0
IsLineFaultOf spelled (line_faults.Bad reason) = spelled ≡ Err reason
IsLineFaultOf spelled line_faults.Memory = ⊤

-- a line's fault, with the line's number
abbrev pub script_fault_at : LineFault → ℕ → ScriptFault
script_fault_at (line_faults.Bad reason) line = faults.Bad line reason
script_fault_at line_faults.Memory line = faults.Memory

-- The numbers of unread lines have 32 bits, also that of a missing line.
pub record HasSmallNumbers (unread : UnreadLines) : Type 0 where
  pub left : All (λ line. line.number < 2 ^ 32) unread.left
  pub missing : unread.missing < 2 ^ 32

-- a line, as definitions see it
abbrev pub numbered_words : Line → NumberedLine
numbered_words line = record { number = line.number; words = words_of line.text.now }

-- the line that was taken already and those that are left behind it; where there was none, none is left
abbrev pub lines_from : Option Line → List NumberedLine → List NumberedLine
lines_from None left = []
lines_from (Some line) left = numbered_words line ∷ left

-- Of items on lines the next one was read, or the first fault of them all; or there is none.
abbrev pub ReadsItem : List NumberedLine → List NumberedLine → Option (Result Item ScriptFault) → Type 0
ReadsItem old new None = old ≡ []
ReadsItem old new (Some (Ok item)) =
    (line : NumberedLine) × (old ≡ line ∷ new) × (at_line line.number (item_of line.words) ≡ Ok item)
ReadsItem old new (Some (Err fault)) = IsScriptFault (items_of old) fault

-- whether a reader of a script keeps an item
abbrev pub is_kept : Kept → Item → Bool
is_kept Everything item = true
is_kept Commands (Admin line) = true
is_kept Commands (Frame frame) = false
is_kept Nothing item = false

abbrev pub kept_of : Kept → List Item → List Item
kept_of kept items = filter (is_kept kept) items

-- the items that it keeps of those that lines spell
abbrev pub kept_in : Kept → Result (List Item) (ℕ × Reason) → Result (List Item) (ℕ × Reason)
kept_in kept spelled = spelled >>= λ items. Ok (kept_of kept items)

-- a script with the items that its reader keeps
abbrev pub with_kept : Kept → Script → Script
with_kept kept script = record { caps = script.caps; start = script.start; items = kept_of kept script.items }

-- A script was read with the items that its reader keeps, or its first fault.
abbrev pub ReadsKept : Kept → Result Script (ℕ × Reason) → Result Script ScriptFault → Type 0
ReadsKept kept spelled result = MatchResult result
    (λ read. (spelled >>= λ script. Ok (with_kept kept script)) ≡ Ok read)
    (IsScriptFault spelled)
