-- The lines of a table: what each does to it, or its first fault from left to right. After the ntuple options of
-- ethtool(8); which words there are, and each refusal, is this project's own.
use Rattle.std.specs.Prelude.{ℕ, Bool, ◌&&◌, ◌||◌, if◌then◌else◌, List, [], ◌∷◌, codes}
use Rattle.std.specs.Prelude.{Option, Some, None, is_some, Result, Ok, Err}
use Rattle.std.specs.Str.{bytes_eq}
use Rattle.vnff_base.specs.Lines.{NumberedLine}
use Rattle.ntuple_text.specs.Drafts.{draft_of, read_options}
use Rattle.ntuple_text.specs.Keys.{flow_of}
use Rattle.ntuple_text.specs.Steps.{and_then}
use Rattle.ntuple_text.specs.TableMaps.{TableMap, empty_table, last_free, spec_at, with_spec, without_spec}
use Rattle.ntuple_text.specs.Values.{location_value}
use Rattle.ntuple_text.specs.declared.draft.Awaits.{Awaits}
use Rattle.ntuple_text.specs.declared.draft.Awaits.TheVariants.{OptionWord, Value, Mark, Mask}
use Rattle.ntuple_text.specs.declared.draft.Draft.{Draft}
use Rattle.ntuple_text.specs.declared.error.Fault.{Fault}
use Rattle.ntuple_text.specs.declared.error.Fault.TheVariants.{Word, Number, Octal, Address, Twice, NotInFlow}
use Rattle.ntuple_text.specs.declared.error.Fault.TheVariants.{NoAction, Queue, Loc, NoSuchLoc, TableFull}
use Rattle.ntuple_text.specs.declared.error.TextErr.{TextErr}
use Rattle.ntuple_text.specs.declared.error.TextErr.TheVariants as text
use Rattle.ntuple_text.specs.declared.spec.Flow.{Flow}
use Rattle.ntuple_text.specs.declared.spec.Spec.{Spec}
use Rattle.ntuple_text.specs.declared.spec.TableDo.{TableDo}

-- the words for adding and removing specs that ethtool(8) takes after its name
unfoldable pub is_flag : List ℕ → Bool
is_flag word =
    bytes_eq word (codes "-N") || bytes_eq word (codes "-U") || bytes_eq word (codes "--config-nfc")
    || bytes_eq word (codes "--config-ntuple")

-- the words after `ethtool`, such a word and the name of a device, or all words where these three don't begin the line
unfoldable pub without_command : List (List ℕ) → List (List ℕ)
without_command [] = []
without_command (first ∷ []) = first ∷ []
without_command (first ∷ flag ∷ []) = first ∷ flag ∷ []
without_command (first ∷ flag ∷ device ∷ words) =
    if bytes_eq first (codes "ethtool") && is_flag flag then words else first ∷ flag ∷ device ∷ words

-- the spec of a line's options
abbrev pub spec_of_options : Draft → TableDo → ℕ → Spec
spec_of_options draft action loc =
    record {
      flow = draft.flow;
      src = draft.src;
      dst = draft.dst;
      proto = draft.proto;
      class = draft.class;
      src_port = draft.src_port;
      dst_port = draft.dst_port;
      action = action;
      loc = loc;
    }

-- the spec at a location, where one is given or free
abbrev pub spec_for_location : Draft → TableDo → Option ℕ → Result Spec Fault
spec_for_location draft action (Some loc) = Ok (spec_of_options draft action loc)
spec_for_location draft action None = Err TableFull

-- the location that is given, or the largest free one
abbrev pub location_or_free : TableMap → Option ℕ → Option ℕ
location_or_free table (Some loc) = Some loc
location_or_free table None = last_free table.slots

-- the options with their action
abbrev pub spec_with_action : TableMap → Draft → Option TableDo → Result Spec Fault
spec_with_action table draft (Some action) = spec_for_location draft action (location_or_free table draft.loc)
spec_with_action table draft None = Err NoAction

-- at the end of a line no value and no mask is missing, an action was given, and there is a location
abbrev pub spec_if_complete : TableMap → Draft → Awaits → Result Spec Fault
spec_if_complete table draft OptionWord = spec_with_action table draft draft.action
spec_if_complete table draft (Value about) = Err Word
spec_if_complete table draft (Mark field) = spec_with_action table draft draft.action
spec_if_complete table draft (Mask field) = Err Word

-- the spec of a line's options, at the line's end
unfoldable pub spec_at_end : TableMap → Draft → Result Spec Fault
spec_at_end table draft = spec_if_complete table draft draft.awaits

-- the spec of the options of a flow
abbrev pub flow_spec : TableMap → List (List ℕ) → Option Flow → Result Spec Fault
flow_spec table options (Some flow) =
    and_then (spec_at_end table) (read_options table.pairs (draft_of flow) options)
flow_spec table options None = Err Word

-- the spec that the words after `flow-type` give
unfoldable pub spec_of : TableMap → List (List ℕ) → Result Spec Fault
spec_of table [] = Err Word
spec_of table (flow ∷ options) = flow_spec table options (flow_of flow)

-- the table, where no word is left
abbrev pub if_last_word : List (List ℕ) → TableMap → Result TableMap Fault
if_last_word [] table = Ok table
if_last_word (word ∷ words) table = Err Word

-- the removal of the spec at a location, which no word follows
abbrev pub after_removal : TableMap → List (List ℕ) → ℕ → Result TableMap Fault
after_removal table words loc =
    if is_some (spec_at table loc) then if_last_word words (without_spec table loc) else Err NoSuchLoc

-- what the words after `delete` do
unfoldable pub after_delete : TableMap → List (List ℕ) → Result TableMap Fault
after_delete table [] = Err Word
after_delete table (word ∷ words) = and_then (after_removal table words) (location_value word)

-- what a line's words do, past the command
unfoldable pub after_directive : TableMap → List (List ℕ) → Result TableMap Fault
after_directive table [] = Err Word
after_directive table (word ∷ words) =
    if bytes_eq word (codes "delete") then after_delete table words
    else (if bytes_eq word (codes "flow-type") then and_then (λ spec. Ok (with_spec table spec)) (spec_of table words)
    else Err Word)

-- the table after a line, or the line's first fault
unfoldable pub after_line : TableMap → List (List ℕ) → Result TableMap Fault
after_line table words = after_directive table (without_command words)

-- a fault with its line
abbrev pub fault_at : Fault → ℕ → TextErr
fault_at Word line = text.Word line
fault_at Number line = text.Number line
fault_at Octal line = text.Octal line
fault_at Address line = text.Address line
fault_at Twice line = text.Twice line
fault_at NotInFlow line = text.NotInFlow line
fault_at NoAction line = text.NoAction line
fault_at Queue line = text.Queue line
fault_at Loc line = text.Loc line
fault_at NoSuchLoc line = text.NoSuchLoc line
fault_at TableFull line = text.TableFull line

-- what follows a line that is good, or the line and its first fault
abbrev pub rest_or_fault : (TableMap → Result TableMap TextErr) → ℕ → Result TableMap Fault → Result TableMap TextErr
rest_or_fault next line (Ok table) = next table
rest_or_fault next line (Err fault) = Err (fault_at fault line)

-- the table after all lines, or the first bad line and its first fault
abbrev pub after_lines : TableMap → List NumberedLine → Result TableMap TextErr
after_lines table [] = Ok table
after_lines table (line ∷ lines) =
    rest_or_fault (λ next. after_lines next lines) line.number (after_line table line.words)

-- the table that numbered lines give for so many queue pairs, or the first bad line and its first fault
unfoldable pub table_of : ℕ → List NumberedLine → Result TableMap TextErr
table_of pairs lines = after_lines (empty_table pairs) lines
