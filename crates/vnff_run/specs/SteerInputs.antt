-- What the files give that the words `steer SCRIPT CAPTURE` name, or what is at fault with them. This project's own.
use Rattle.std.specs.Prelude.{ℕ, Bool, true, false, List, Option, Some, None, option_map, Result, Ok}
use Rattle.std.specs.Result.{result_ok}
use Rattle.vnff_base.specs.Shelves.{Files}
use Rattle.vnff_run.specs.Forms.{WordForm, Steer, word_form}
use Rattle.vnff_run.specs.Inputs.{InputFault, script_in}
use Rattle.vnff_run.specs.Results.{◌>>=◌}
use Rattle.vnff_run.specs.Steering.{Steering, steering_for}
use Rattle.vnff_run.specs.TableInputs.{frames_in}
use Rattle.vnff_run.specs.declared.script.Script.{Script}

-- the script and the frames in the files of these names
unfoldable pub steer_input_in : List ℕ → List ℕ → Files → Result (Script × List (List ℕ)) InputFault
steer_input_in script capture files = do
  read ← script_in script files
  frames ← frames_in capture files
  Ok (read, frames)

-- the steering that they ask for
abbrev pub steering_in : List ℕ → List ℕ → Files → Option Steering
steering_in script capture files = option_map steering_for (result_ok (steer_input_in script capture files))

-- whether what may be a form steers
abbrev pub is_steer : Option WordForm → Bool
is_steer (Some (Steer script capture)) = true
is_steer _ = false

-- the steering that a form asks for, and that words do, where the files are at no fault
abbrev pub steering_by : Option WordForm → Files → Option Steering
steering_by (Some (Steer script capture)) files = steering_in script capture files
steering_by _ files = None

abbrev pub steering_of : List (List ℕ) → Files → Option Steering
steering_of words files = steering_by (word_form words) files
