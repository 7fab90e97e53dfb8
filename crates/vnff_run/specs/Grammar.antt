-- The grammar of scripts, this project's own. A script is lines of words: the version's, the device's, those that name
-- the device's selectors, and then commands and frames in any order. Each definition gives what lines spell, or the
-- first fault: the number of the first bad line, and its reason. In a line a wrong first word or number of words comes
-- before all else, and then what is wrong from left to right.
use Rattle.std.specs.Prelude.{ℕ, not, ◌+◌, if◌then◌else◌, List, [], ◌∷◌, drop, Result, Ok, Err}
use Rattle.ff_headers.specs.Kinds.{kind_code}
use Rattle.ff_headers.specs.SelectorParts.{SelectorParts}
use Rattle.vnff_base.specs.Lines.{NumberedLine, line_count, word_lines}
use Rattle.cap_table.specs.Caps.{CapsParts}
use Rattle.vnff_run.specs.DeviceLines.{is_version, device_of}
use Rattle.vnff_run.specs.ItemLines.{item_of}
use Rattle.vnff_run.specs.Results.{◌>>=◌}
use Rattle.vnff_run.specs.SelectLines.{is_select, selector_in_line}
use Rattle.vnff_run.specs.declared.script.DeviceLine.{DeviceLine}
use Rattle.vnff_run.specs.declared.script.Item.{Item}
use Rattle.vnff_run.specs.declared.error.Reason.{Reason}
use Rattle.vnff_run.specs.declared.error.Reason.TheVariants.{Version, Device}
use Rattle.vnff_run.specs.declared.script.Script.{Script}

-- what a line gives, or its fault with its number
abbrev pub at_line : {A : Type 0} → ℕ → Result A Reason → Result A (ℕ × Reason)
at_line number (Ok value) = Ok value
at_line number (Err reason) = Err (number, reason)

-- the lines behind the version's; a line that is missing has the number `missing`
unfoldable pub after_version : ℕ → List NumberedLine → Result (List NumberedLine) (ℕ × Reason)
after_version missing [] = Err (missing, Version)
after_version missing (line ∷ lines) = if is_version line.words then Ok lines else Err (line.number, Version)

-- the device, and the lines behind its line
unfoldable pub device_in : ℕ → List NumberedLine → Result (DeviceLine × List NumberedLine) (ℕ × Reason)
device_in missing [] = Err (missing, Device)
device_in missing (line ∷ lines) = do
  device ← at_line line.number (device_of line.words)
  Ok (device, lines)

-- the selectors that the first lines name, with types above `last` that rise, and the lines behind those
unfoldable pub first_selectors : ℕ → List NumberedLine → Result (List SelectorParts × List NumberedLine) (ℕ × Reason)
first_selectors last [] = Ok ([], [])
first_selectors last (line ∷ lines) =
    if not (is_select line.words) then Ok ([], line ∷ lines)
    else do
      selector ← at_line line.number (selector_in_line last (drop 1 line.words))
      more ← first_selectors (kind_code selector.kind) lines
      Ok (selector ∷ more.0, more.1)

-- the items, a line each
unfoldable pub items_of : List NumberedLine → Result (List Item) (ℕ × Reason)
items_of [] = Ok []
items_of (line ∷ lines) = do
  item ← at_line line.number (item_of line.words)
  items ← items_of lines
  Ok (item ∷ items)

-- the device with the selectors that lines name; where no line names one it has all five
abbrev pub caps_with_selectors : CapsParts → List SelectorParts → CapsParts
caps_with_selectors caps [] = caps
caps_with_selectors caps selectors = record { pairs = caps.pairs; limits = caps.limits; selectors = selectors }

-- the script of lines
unfoldable pub script_of_lines : ℕ → List NumberedLine → Result Script (ℕ × Reason)
script_of_lines missing lines = do
  behind ← after_version missing lines
  device ← device_in missing behind
  selected ← first_selectors 0 device.1
  items ← items_of selected.1
  Ok (record { caps = caps_with_selectors device.0.caps selected.0; start = device.0.start; items = items })

-- the script that a text spells; a line that is missing is at the number past the last line's
abbrev pub script_of : List ℕ → Result Script (ℕ × Reason)
script_of text = script_of_lines (1 + line_count text) (word_lines text)
