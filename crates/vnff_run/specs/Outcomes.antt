-- What a run of the program ends with, this project's own: a status, and the text that it writes.
use Rattle.std.specs.Prelude.{ℕ, List, [], ◌++◌, codes, decimal, Option, Some, None, Result, Ok, Err}
use Rattle.vnff_base.specs.Shelves.{Files}
use Rattle.split_queue.specs.declared.queue_place.Place.{Place}
use Rattle.ntuple_text.specs.SpecTexts.{line_feed}
use Rattle.vnff_run.specs.Drain.{drain_last, drain_text, setup_word}
use Rattle.vnff_run.specs.Inputs.{InputFault, Missing, Refused, queue_in, script_in}
use Rattle.vnff_run.specs.Replay.{replay_text}
use Rattle.vnff_run.specs.SteerInputs.{steer_input_in}
use Rattle.vnff_run.specs.Steering.{steer_text, steering_for}
use Rattle.vnff_run.specs.declared.drain.Last.{Last}
use Rattle.vnff_run.specs.declared.drain.Last.TheVariants.{Empty, Faulty}
use Rattle.vnff_run.specs.CompileTexts.{compile_text}
use Rattle.vnff_run.specs.Forms.{WordForm, Replay, Compile, Table, Drain, Steer, Gen, word_form}
use Rattle.vnff_run.specs.Loads.{gen_text}
use Rattle.vnff_run.specs.TableInputs.{compiled_in, table_run_in}
use Rattle.vnff_run.specs.TableRefusals.{capture_words, limit_words, table_reason_word, unsupported_words}
use Rattle.vnff_run.specs.Tables.{table_text}
use Rattle.vnff_run.specs.declared.error.Reason.{Reason}
use Rattle.vnff_run.specs.declared.error.Reason.TheVariants as reasons
use Rattle.vnff_run.specs.declared.stop.FileKind.{FileKind}
use Rattle.vnff_run.specs.declared.stop.FileKind.TheVariants as kinds
use Rattle.vnff_run.specs.declared.stop.RefusedInput.{RefusedInput}
use Rattle.vnff_run.specs.declared.stop.RefusedInput.TheVariants.{TooLong, BadScript, BadImage, BadDevice, BadTable, BadCapture, Unsupported, PastLimit}

-- The exit statuses.
-- everything was done
abbrev pub done_status : ℕ
done_status = 0

-- an input was refused
abbrev pub refused_status : ℕ
refused_status = 1

-- the words are no form
abbrev pub words_status : ℕ
words_status = 2

-- a read failed
abbrev pub read_status : ℕ
read_status = 3

-- a write or a sink failed
abbrev pub write_status : ℕ
write_status = 4

-- memory ran out
abbrev pub memory_status : ℕ
memory_status = 5

-- a status and the text that was written
pub record Outcome : Type 0 where
  pub status : ℕ
  pub text : List ℕ

-- what a file was to be, in a refusal's line
abbrev pub kind_word : FileKind → List ℕ
kind_word kinds.Script = codes "script"
kind_word kinds.Image = codes "image"
kind_word kinds.Device = codes "device"
kind_word kinds.Table = codes "table"
kind_word kinds.Capture = codes "capture"

-- why a script is refused, in a refusal's line
abbrev pub reason_word : Reason → List ℕ
reason_word reasons.Version = codes "version"
reason_word reasons.Device = codes "device"
reason_word reasons.Number = codes "number"
reason_word reasons.Select = codes "select"
reason_word reasons.Hex = codes "hex"
reason_word reasons.Room = codes "room"
reason_word reasons.Word = codes "word"
reason_word reasons.Start = codes "start"

-- which line of a file is bad, and why
unfoldable pub fault_words : FileKind → ℕ → List ℕ → List ℕ
fault_words kind line reason = kind_word kind ++ (codes ":" ++ (decimal line ++ (codes " " ++ reason)))

-- what is refused, and why: the rest of a refusal's line
unfoldable pub refusal_words : RefusedInput → List ℕ
refusal_words (TooLong kind) = kind_word kind ++ codes " too-long"
refusal_words (BadImage fault) = codes "image " ++ setup_word fault
refusal_words (BadScript line reason) = fault_words kinds.Script line (reason_word reason)
refusal_words (BadDevice line reason) = fault_words kinds.Device line (reason_word reason)
refusal_words (BadTable line reason) = fault_words kinds.Table line (table_reason_word reason)
refusal_words (BadCapture fault) = capture_words fault
refusal_words (Unsupported loc kind) = unsupported_words loc kind
refusal_words (PastLimit limit count) = limit_words limit count

-- the line of a refusal
unfoldable pub refusal_line : RefusedInput → List ℕ
refusal_line refusal = codes "refused " ++ (refusal_words refusal ++ line_feed)

abbrev pub silent_outcome : ℕ → Outcome
silent_outcome status = record { status = status; text = [] }

-- everything is done, and the text written
abbrev pub done_outcome : List ℕ → Outcome
done_outcome text = record { status = done_status; text = text }

-- an input is at fault
abbrev pub fault_outcome : InputFault → Outcome
fault_outcome Missing = silent_outcome read_status
fault_outcome (Refused refusal) = record { status = refused_status; text = refusal_line refusal }

-- what stands behind the chains of a ring decides on the status of their drain
abbrev pub last_status : Last → ℕ
last_status (Empty _) = done_status
last_status (Faulty _) = refused_status

-- the queue at a place in an image is drained; the line of a fault stands behind those of the chains before it
abbrev pub drain_outcome : List ℕ → Place → Outcome
drain_outcome image place =
    record { status = last_status (drain_last image place); text = drain_text image place }

-- what is done with an input, or the input's fault
abbrev pub outcome_with : {A : Type 0} → (A → Outcome) → Result A InputFault → Outcome
outcome_with run (Ok input) = run input
outcome_with run (Err fault) = fault_outcome fault

-- the outcome of a form over files
unfoldable pub outcome_in : WordForm → Files → Outcome
outcome_in (Replay script) files = outcome_with (λ s. done_outcome (replay_text s)) (script_in script files)
outcome_in (Drain image place) files = outcome_with (λ queue. drain_outcome queue.0 place) (queue_in image place files)
outcome_in (Compile device table) files =
    outcome_with (λ run. done_outcome (compile_text run)) (compiled_in device table files)
outcome_in (Table device table capture) files =
    outcome_with (λ run. done_outcome (table_text run.0.table run.1)) (table_run_in device table capture files)
outcome_in (Steer script capture) files =
    outcome_with (λ input. done_outcome (steer_text (steering_for input))) (steer_input_in script capture files)
outcome_in (Gen seed frames) files = done_outcome (gen_text seed frames)

-- the outcome of what may be a form
abbrev pub outcome_by : Option WordForm → Files → Outcome
outcome_by None files = silent_outcome words_status
outcome_by (Some form) files = outcome_in form files

-- the outcome for words and files, where no shelf and no output fails but by a file that isn't there
abbrev pub outcome_of : List (List ℕ) → Files → Outcome
outcome_of words files = outcome_by (word_form words) files
