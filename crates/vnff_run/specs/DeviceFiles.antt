-- Files of a device alone, this project's own: scripts without an item that start at ready.
use Rattle.std.specs.Prelude.{ℕ, ◌+◌, List, [], ◌∷◌, Result, Ok, Err}
use Rattle.vnff_base.specs.Lines.{NumberedLine, line_count, word_lines}
use Rattle.cap_table.specs.declared.start.Start.{Start}
use Rattle.cap_table.specs.declared.start.Start.TheVariants.{Ready, Reset}
use Rattle.vnff_run.specs.Grammar.{after_version, at_line, device_in, first_selectors, caps_with_selectors}
use Rattle.vnff_run.specs.Results.{◌>>=◌}
use Rattle.vnff_run.specs.declared.script.Item.{Item}
use Rattle.vnff_run.specs.declared.error.Reason.{Reason}
use Rattle.vnff_run.specs.declared.error.Reason.TheVariants as reasons
use Rattle.vnff_run.specs.declared.script.Script.{Script}

-- the number of the first of some lines, or of a missing one
abbrev pub first_number : ℕ → List NumberedLine → ℕ
first_number missing [] = missing
first_number missing (line ∷ lines) = line.number

-- a line of an item has a wrong first word, whatever else is wrong with it
unfoldable pub no_item : List NumberedLine → Result (List Item) (ℕ × Reason)
no_item [] = Ok []
no_item (line ∷ lines) = Err (line.number, reasons.Word)

-- a start that isn't `reset`
unfoldable pub ready_start : Start → Result Start Reason
ready_start Ready = Ok Ready
ready_start Reset = Err reasons.Start

-- the device of lines; that it starts at ready is looked at when all lines are read
unfoldable pub device_file_of_lines : ℕ → List NumberedLine → Result Script (ℕ × Reason)
device_file_of_lines missing lines = do
  behind ← after_version missing lines
  device ← device_in missing behind
  selected ← first_selectors 0 device.1
  items ← no_item selected.1
  start ← at_line (first_number missing behind) (ready_start device.0.start)
  Ok (record { caps = caps_with_selectors device.0.caps selected.0; start = start; items = items })

-- the device that a text spells; a line that is missing is at the number past the last line's
abbrev pub device_file_of : List ℕ → Result Script (ℕ × Reason)
device_file_of text = device_file_of_lines (1 + line_count text) (word_lines text)
