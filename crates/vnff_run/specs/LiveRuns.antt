-- What a live run is over, this project's own: a device, commands, the frames of a capture, and how many workers and
-- first commands the words ask for.
use Rattle.std.specs.Prelude.{ℕ, List, Option, Some, None, Result, Ok}
use Rattle.std.specs.List.{filter_map}
use Rattle.vnff_base.specs.Shelves.{Files}
use Rattle.vnff_run.specs.Inputs.{InputFault, script_in}
use Rattle.vnff_run.specs.LiveWords.{LiveWords}
use Rattle.vnff_run.specs.Results.{◌>>=◌}
use Rattle.vnff_run.specs.TableInputs.{frames_in}
use Rattle.vnff_run.specs.declared.live_run.LiveRun.{LiveRun}
use Rattle.steer.specs.declared.admin_line.AdminLine.{AdminLine}
use Rattle.vnff_run.specs.declared.script.Item.{Item}
use Rattle.vnff_run.specs.declared.script.Item.TheVariants.{Admin, Frame}
use Rattle.vnff_run.specs.declared.script.Script.{Script}

-- an item that is a command
abbrev pub admin_line_in : Item → Option AdminLine
admin_line_in (Admin line) = Some line
admin_line_in (Frame _) = None

-- the commands among items, in order; the frames of a script are not looked at
abbrev pub commands_in : List Item → List AdminLine
commands_in items = filter_map admin_line_in items

-- the run of a script's commands and the frames of a capture
abbrev pub live_run : LiveWords → Script → List (List ℕ) → LiveRun
live_run words script frames = record {
  caps = script.caps;
  start = script.start;
  commands = commands_in script.items;
  frames = frames;
  workers = words.workers;
  first = words.first;
}

-- the run over the files that the words name
unfoldable pub live_in : LiveWords → Files → Result LiveRun InputFault
live_in words files = do
  script ← script_in words.script files
  frames ← frames_in words.capture files
  Ok (live_run words script frames)
