-- What the files give that the forms of tables name, or what is at fault with them, in the order in which the program
-- looks: the file of the device, the file of the table, whether the table can be compiled for the device, and then the
-- file of the capture. This project's own.
use Rattle.std.specs.Prelude.{ℕ, List, Result, Ok, Err}
use Rattle.vnff_base.specs.Lines.{word_lines}
use Rattle.vnff_base.specs.Shelves.{Files}
use Rattle.admin_wire.specs.declared.command.Command.{Command}
use Rattle.cap_table.specs.Caps.{CapsParts}
use Rattle.capture.specs.Captures.{capture_of}
use Rattle.capture.specs.declared.error.CaptureErr.{CaptureErr}
use Rattle.ntuple_text.specs.TableLines.{table_of}
use Rattle.ntuple_text.specs.TableMaps.{TableMap}
use Rattle.ntuple_text.specs.declared.error.TextErr.{TextErr}
use Rattle.ntuple_text.specs.declared.error.TextErr.TheVariants as text
use Rattle.ntuple_compile.specs.Compiled.{compiled}
use Rattle.ntuple_compile.specs.declared.error.CompileErr.{CompileErr}
use Rattle.ntuple_compile.specs.declared.error.CompileErr.TheVariants as errors
use Rattle.vnff_run.specs.DeviceFiles.{device_file_of}
use Rattle.vnff_run.specs.Inputs.{InputFault, Missing, Refused, file_bytes}
use Rattle.vnff_run.specs.Results.{◌>>=◌}
use Rattle.vnff_run.specs.declared.compiled.CompiledTable.{CompiledTable}
use Rattle.vnff_run.specs.declared.error.Reason.{Reason}
use Rattle.vnff_run.specs.declared.script.Script.{Script}
use Rattle.vnff_run.specs.declared.stop.FileKind.TheVariants as kinds
use Rattle.vnff_run.specs.declared.stop.RefusedInput.TheVariants.{BadDevice, BadTable, BadCapture, Unsupported, PastLimit}
use Rattle.vnff_run.specs.declared.table_refusal.TableLimit.TheVariants as limits
use Rattle.vnff_run.specs.declared.table_refusal.TableReason.TheVariants as reasons

-- ---- the device

-- what the device of a file offers, or the refusal of what isn't one
abbrev pub caps_or_refusal : Result Script (ℕ × Reason) → Result CapsParts InputFault
caps_or_refusal (Ok script) = Ok script.caps
caps_or_refusal (Err fault) = Err (Refused (BadDevice fault.0 fault.1))

-- the device in the file of that name
unfoldable pub caps_in : List ℕ → Files → Result CapsParts InputFault
caps_in name files = file_bytes kinds.Device name files >>= λ bytes. caps_or_refusal (device_file_of bytes)

-- ---- the table

-- a fault of a table's text; memory decides on none of them, and the last one stands for nothing
abbrev pub table_fault : TextErr → InputFault
table_fault (text.Word line) = Refused (BadTable line reasons.Word)
table_fault (text.NotInFlow line) = Refused (BadTable line reasons.NotInFlow)
table_fault (text.Twice line) = Refused (BadTable line reasons.Twice)
table_fault (text.Octal line) = Refused (BadTable line reasons.Octal)
table_fault (text.Number line) = Refused (BadTable line reasons.Number)
table_fault (text.Address line) = Refused (BadTable line reasons.Address)
table_fault (text.Queue line) = Refused (BadTable line reasons.Queue)
table_fault (text.Loc line) = Refused (BadTable line reasons.Loc)
table_fault (text.NoSuchLoc line) = Refused (BadTable line reasons.NoSuchLoc)
table_fault (text.NoAction line) = Refused (BadTable line reasons.NoAction)
table_fault (text.TableFull line) = Refused (BadTable line reasons.Full)
table_fault text.Memory = Missing

-- a table, or the refusal of what isn't one
abbrev pub table_or_refusal : Result TableMap TextErr → Result TableMap InputFault
table_or_refusal (Ok table) = Ok table
table_or_refusal (Err err) = Err (table_fault err)

-- the table in the file of that name, for so many queue pairs
unfoldable pub table_in : ℕ → List ℕ → Files → Result TableMap InputFault
table_in pairs name files = do
  bytes ← file_bytes kinds.Table name files
  table_or_refusal (table_of pairs (word_lines bytes))

-- ---- the commands

-- why a table can't be compiled; the last one stands for nothing, as above
abbrev pub compile_refusal : CompileErr → InputFault
compile_refusal (errors.Unsupported loc kind) = Refused (Unsupported loc kind)
compile_refusal (errors.Rules count) = Refused (PastLimit limits.Rules count)
compile_refusal (errors.Classifiers count) = Refused (PastLimit limits.Classifiers count)
compile_refusal (errors.Levels count) = Refused (PastLimit limits.Levels count)
compile_refusal (errors.PerGroup count) = Refused (PastLimit limits.PerGroup count)
compile_refusal errors.Memory = Missing

-- the commands of a table, or the refusal of one that has none
abbrev pub commands_or_refusal : Result (List Command) CompileErr → Result (List Command) InputFault
commands_or_refusal (Ok commands) = Ok commands
commands_or_refusal (Err err) = Err (compile_refusal err)

-- a table with its commands for a device
unfoldable pub compiled_for : CapsParts → TableMap → Result CompiledTable InputFault
compiled_for caps table = do
  commands ← commands_or_refusal (compiled table caps)
  Ok (record { caps = caps; table = table; commands = commands })

-- the device and the table in the files of these names, and the table's commands
unfoldable pub compiled_in : List ℕ → List ℕ → Files → Result CompiledTable InputFault
compiled_in device table files = do
  caps ← caps_in device files
  read ← table_in caps.pairs table files
  compiled_for caps read

-- ---- the capture

-- the frames of a capture, or the refusal of what isn't one
abbrev pub frames_or_refusal : Result (List (List ℕ)) CaptureErr → Result (List (List ℕ)) InputFault
frames_or_refusal (Ok frames) = Ok frames
frames_or_refusal (Err fault) = Err (Refused (BadCapture fault))

-- the frames of the capture in the file of that name
unfoldable pub frames_in : List ℕ → Files → Result (List (List ℕ)) InputFault
frames_in name files = file_bytes kinds.Capture name files >>= λ bytes. frames_or_refusal (capture_of bytes)

-- a compiled table, and the frames that it is for
unfoldable pub table_run_in : List ℕ → List ℕ → List ℕ → Files → Result (CompiledTable × List (List ℕ)) InputFault
table_run_in device table capture files = do
  run ← compiled_in device table files
  frames ← frames_in capture files
  Ok (run, frames)
