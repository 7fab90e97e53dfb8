-- What words and files ask the program for, this project's own: to end with one outcome, or to carry a live run out,
-- whose text has a choice. No shelf and no output fails, but by a file that isn't there.
use Rattle.std.specs.Prelude.{ℕ, ◌≡◌, List, length, nat_le, if◌then◌else◌, Option, Some, None, Result, Ok, Err}
use Rattle.vnff_base.specs.Outputs.{OutputState}
use Rattle.vnff_base.specs.Shelves.{Files}
use Rattle.vnff_run.specs.Endings.{Appended, AppendedFront}
use Rattle.vnff_run.specs.Inputs.{InputFault}
use Rattle.vnff_run.specs.LiveRuns.{live_in}
use Rattle.vnff_run.specs.LiveTexts.{IsLiveText}
use Rattle.vnff_run.specs.LiveWords.{LiveWords, live_of}
use Rattle.vnff_run.specs.Outcomes.{Outcome, done_status, words_status, fault_outcome, outcome_of, silent_outcome}
use Rattle.vnff_run.specs.declared.live_run.LiveRun.{LiveRun}

pub data Plan : Type 0 where
  Ends : (outcome : Outcome) → Plan
  Lives : (run : LiveRun) → Plan

-- a live run over what was read, or the input's fault; no more commands can come first than there are
abbrev pub live_plan : Result LiveRun InputFault → Plan
live_plan (Err fault) = Ends (fault_outcome fault)
live_plan (Ok run) = if nat_le run.first (length run.commands) then Lives run else Ends (silent_outcome words_status)

-- the plan of the words of a live run
unfoldable pub plan_in : LiveWords → Files → Plan
plan_in words files = live_plan (live_in words files)

-- the plan of what may be the words of a live run; that of all others is the one outcome that they have
abbrev pub plan_by : Option LiveWords → List (List ℕ) → Files → Plan
plan_by None words files = Ends (outcome_of words files)
plan_by (Some live) words files = plan_in live files

-- the plan of the words, over the files
abbrev pub plan_of : List (List ℕ) → Files → Plan
plan_of words files = plan_by (live_of words) words files

-- the status that a plan ends with
abbrev pub plan_status : Plan → ℕ
plan_status (Ends outcome) = outcome.status
plan_status (Lives run) = done_status

-- the plan's text, or one of its texts
abbrev pub IsText : Plan → List ℕ → Type 0
IsText (Ends outcome) text = text ≡ outcome.text
IsText (Lives run) text = IsLiveText run text

-- A text of the plan was appended, where the output tells its bytes.
pub record WroteText (plan : Plan) (old new : OutputState) : Type 0 where
  pub text : List ℕ
  pub planned : IsText plan text
  pub appended : Appended old new text

-- A front of a text of the plan was appended.
pub record WroteFront (plan : Plan) (old new : OutputState) : Type 0 where
  pub text : List ℕ
  pub planned : IsText plan text
  pub appended : AppendedFront old new text
