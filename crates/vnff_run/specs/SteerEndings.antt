-- What the forms did with the sinks of a rack, beside what they read and wrote. Nothing but a failed call of a sink
-- raises its count of failures.
use Rattle.std.specs.Prelude.{◌≡◌, ℕ, true, false, List, length, Option, Some, None, IfSome, IsSomeAnd, MatchOption, Result, Ok, Err}
use Rattle.rx_sinks.specs.Racks.{OneRose}
use Rattle.rx_sinks.specs.Sinks.{SinkState}
use Rattle.vnff_base.specs.Outputs.{OutputState}
use Rattle.vnff_base.specs.Shelves.{Files, ShelfState}
use Rattle.vnff_run.specs.Endings.{AppendedNothing, FormEnds, FormStops, IsUntouched, NoReadFailed, kept_script_in}
use Rattle.vnff_run.specs.Forms.{WordForm, word_form}
use Rattle.vnff_run.specs.Inputs.{InputFault}
use Rattle.vnff_run.specs.Outcomes.{outcome_in}
use Rattle.vnff_run.specs.Results.{◌>>=◌}
use Rattle.vnff_run.specs.SteerInputs.{is_steer, steering_by, steering_of}
use Rattle.vnff_run.specs.Steering.{AllSteered, FrontSteered, Steered, Steering}
use Rattle.vnff_run.specs.TableInputs.{frames_in}
use Rattle.vnff_run.specs.declared.script.Kept.TheVariants.{Commands}
use Rattle.vnff_run.specs.declared.script.Script.{Script}
use Rattle.vnff_run.specs.declared.stop.Stop.{Stop}
use Rattle.vnff_run.specs.declared.stop.Stop.TheVariants as stops

-- P holds of what is steered, where the shelf tells its files: there is something.
abbrev pub OfSteering : ShelfState → (Files → Option Steering) → (Steering → Type 0) → Type 0
OfSteering shelf steering P = IfSome shelf.files (λ files. IsSomeAnd (steering files) P)

-- A sink failed of those that a steering calls: of those of the queue pairs, where the shelf tells its files.
abbrev pub SinkFailed : ShelfState → (Files → Option Steering) → List SinkState → List SinkState → Type 0
SinkFailed shelf steering old new =
    OneRose (length old) old new × OfSteering shelf steering (λ run. OneRose run.pairs old new)

-- Where the shelf tells its files, P holds of what is steered, and the sinks are as before where nothing is.
abbrev pub SinksAre : ShelfState → (Files → Option Steering) → List SinkState → List SinkState → (Steering → Type 0)
    → Type 0
SinksAre shelf steering old new P = IfSome shelf.files (λ files. MatchOption (steering files) (new ≡ old) P)

-- The sinks are as a run with this status leaves them: where there is something to steer, 0 and 4 say what they got.
abbrev pub SinksSteered : ShelfState → (Files → Option Steering) → ℕ → List SinkState → List SinkState → Type 0
SinksSteered shelf steering status old new = SinksAre shelf steering old new (λ run. Steered run status old new)

-- The words are those of `steer`, a sink failed that they call, and nothing was written.
abbrev pub SteerFailed : List (List ℕ) → ShelfState → OutputState → OutputState → List SinkState → List SinkState
    → Type 0
SteerFailed words shelf out out_new old new =
    (is_steer (word_form words) ≡ true) × SinkFailed shelf (steering_of words) old new × AppendedNothing out out_new

-- Why a form stopped, and what it had done with the sinks: nothing, but where a write or a sink failed.
abbrev pub StopsWith : WordForm → ShelfState → ShelfState → OutputState → OutputState → List SinkState → List SinkState
    → Stop → Type 0
StopsWith form shelf shelf_new out out_new old new stops.SinkFault =
    NoReadFailed shelf shelf_new × IsUntouched out out_new × (is_steer (Some form) ≡ true)
    × SinkFailed shelf (steering_by (Some form)) old new
    × OfSteering shelf (steering_by (Some form)) (λ run. FrontSteered run old new)
StopsWith form shelf shelf_new out out_new old new stops.WriteFault =
    FormStops shelf shelf_new out out_new (outcome_in form) stops.WriteFault
    × (is_steer (Some form) ≡ false → new ≡ old)
    × SinksAre shelf (steering_by (Some form)) old new (λ run. FrontSteered run old new)
StopsWith form shelf shelf_new out out_new old new (stops.Refused refusal) =
    FormStops shelf shelf_new out out_new (outcome_in form) (stops.Refused refusal)
    × (new ≡ old) × IfSome shelf.files (λ files. steering_by (Some form) files ≡ None)
StopsWith form shelf shelf_new out out_new old new stop =
    FormStops shelf shelf_new out out_new (outcome_in form) stop × (new ≡ old)

-- A form is carried out with status 0, or stops.
abbrev pub FormDoes : {A : Type 0} → WordForm → ShelfState → ShelfState → OutputState → OutputState → List SinkState
    → List SinkState → Result A Stop → Type 0
FormDoes form shelf shelf_new out out_new old new (Ok x) =
    FormEnds shelf shelf_new out out_new (outcome_in form) (Ok x)
    × (is_steer (Some form) ≡ false → new ≡ old)
    × SinksAre shelf (steering_by (Some form)) old new (λ run. AllSteered run old new)
FormDoes form shelf shelf_new out out_new old new (Err stop) = StopsWith form shelf shelf_new out out_new old new stop

-- the commands of the script and the frames in the files of these names, read for a steering
abbrev pub kept_input_in : List ℕ → List ℕ → Files → Result (Script × List (List ℕ)) InputFault
kept_input_in script capture files = do
  read ← kept_script_in Commands script files
  frames ← frames_in capture files
  Ok (read, frames)
