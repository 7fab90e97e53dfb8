-- Tables on a device: what the code knows of a compiled one, what its faults end a form with, and the parts of its
-- text. The code's own.
use Rattle.std.specs.Prelude.{ℕ, ◌≡◌, ⊤, List, [], ◌∷◌, All, Option, Some, None, Result, Ok, Err, decimal}
use Rattle.ff_headers.specs.SelectorParts.{SelectorParts}
use Rattle.admin_wire.specs.Layouts.{command_bytes}
use Rattle.admin_wire.specs.declared.command.Command.{Command}
use Rattle.cap_table.specs.Caps.{CapsParts}
use Rattle.capture.specs.declared.error.CaptureReadErr.{CaptureReadErr}
use Rattle.capture.specs.declared.error.CaptureReadErr.TheVariants as reads
use Rattle.ntuple_text.specs.declared.error.TextErr.{TextErr}
use Rattle.ntuple_text.specs.declared.error.TextErr.TheVariants as text
use Rattle.ntuple_text.specs.declared.spec.Spec.{Spec}
use Rattle.ntuple_compile.specs.Acceptance.{ActAs, IsWritable, SentCommand}
use Rattle.ntuple_compile.specs.declared.error.CompileErr.{CompileErr}
use Rattle.ntuple_compile.specs.declared.error.CompileErr.TheVariants as errors
use Rattle.vnff_run.specs.CompileTexts.{comment_line, reply_room}
use Rattle.vnff_run.specs.Inputs.{InputFault, Missing, Refused}
use Rattle.vnff_run.specs.ScriptTexts.{line_text, select_words}
use Rattle.vnff_run.specs.TableInputs.{compile_refusal, table_fault}
use Rattle.vnff_run.specs.declared.compiled.CompiledTable.{CompiledTable}
use Rattle.vnff_run.specs.declared.error.ScriptFault.{ScriptFault}
use Rattle.vnff_run.specs.declared.error.ScriptFault.TheVariants as faults
use Rattle.vnff_run.specs.declared.stop.FileKind.TheVariants as kinds
use Rattle.vnff_run.specs.declared.stop.RefusedInput.TheVariants.{BadCapture, BadDevice, TooLong}
use Rattle.vnff_run.specs.declared.stop.Stop.{Stop}
use Rattle.vnff_run.specs.declared.stop.Stop.TheVariants as stops

-- a command as it is sent: its bytes, and the room for its reply
abbrev pub sent_command : Command → SentCommand
sent_command command = (command_bytes command, reply_room)

-- The commands of a compiled table can be written, and bring a device that starts ready to do what the table says.
pub record IsProgrammable (run : CompiledTable) : Type 0 where
  pub written : All IsWritable run.commands
  pub acts : ActAs run.caps run.commands run.table

-- nothing but want of memory stops a call
abbrev pub StopsForMemory : {A : Type 0} → Result A Stop → Type 0
StopsForMemory (Ok _) = ⊤
StopsForMemory (Err stop) = stop ≡ stops.Memory

-- a fault of an input, as it ends a form
abbrev pub fault_stop : InputFault → Stop
fault_stop Missing = stops.ReadFault
fault_stop (Refused refusal) = stops.Refused refusal

-- a fault of a device's file, or that memory ran out
abbrev pub device_stop : ScriptFault → Stop
device_stop (faults.Bad line reason) = stops.Refused (BadDevice line reason)
device_stop faults.Memory = stops.Memory

-- a fault of a table's text, or that memory ran out
abbrev pub table_stop : TextErr → Stop
table_stop text.Memory = stops.Memory
table_stop err = fault_stop (table_fault err)

-- why a table can't be compiled, or that memory ran out
abbrev pub compile_stop : CompileErr → Stop
compile_stop errors.Memory = stops.Memory
compile_stop err = fault_stop (compile_refusal err)

-- why a capture can't be read, or that memory ran out
abbrev pub capture_stop : CaptureReadErr → Stop
capture_stop reads.ReadFault = stops.ReadFault
capture_stop reads.TooLong = stops.Refused (TooLong kinds.Capture)
capture_stop (reads.Bad fault) = stops.Refused (BadCapture fault)
capture_stop reads.Memory = stops.Memory

-- ---- texts

-- a blank and a number
abbrev pub spaced_number : ℕ → List ℕ
spaced_number number = 32 ∷ decimal number

-- the numbers of a device's line, in its order
abbrev pub device_numbers : CapsParts → List ℕ
device_numbers caps =
    let limits = caps.limits in
    caps.pairs ∷ limits.groups ∷ limits.classifiers ∷ limits.rules ∷ limits.per_group ∷ limits.last_priority
    ∷ limits.selectors ∷ []

-- the line of a selector
abbrev pub selector_line : SelectorParts → List ℕ
selector_line selector = line_text (select_words selector)

-- the comment for what stands at a location
abbrev pub slot_line : Option Spec → List ℕ
slot_line None = []
slot_line (Some spec) = comment_line spec
