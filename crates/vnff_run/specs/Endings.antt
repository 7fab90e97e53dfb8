-- What calls did that were to bring about an outcome, or a part of it, where a read or a write may fail and memory may
-- run out. Nothing but a failed read raises a shelf's count of failures, and nothing but a failed write an output's.
use Rattle.std.specs.Prelude.{ℕ, ◌≡◌, List, ◌++◌, take, IfSome, IsSomeAnd, Result, Ok, Err, ◌⊎◌, ⊤}
use Rattle.vnff_base.specs.Counts.{Rose}
use Rattle.vnff_base.specs.Gatherings.{Lost, Took}
use Rattle.vnff_base.specs.Outputs.{OutputState, told_after, Wrote, Stopped}
use Rattle.vnff_base.specs.Shelves.{Files, ShelfState}
use Rattle.vnff_run.specs.Inputs.{InputFault, Missing, Refused, script_in}
use Rattle.vnff_run.specs.Outcomes.{Outcome, done_status, refused_status, read_status, write_status, memory_status, fault_outcome, refusal_line}
use Rattle.vnff_run.specs.Readings.{with_kept}
use Rattle.vnff_run.specs.Results.{◌>>=◌}
use Rattle.vnff_run.specs.declared.error.ScriptFault.{ScriptFault}
use Rattle.vnff_run.specs.declared.error.ScriptFault.TheVariants as faults
use Rattle.vnff_run.specs.declared.script.Kept.{Kept}
use Rattle.vnff_run.specs.declared.script.Script.{Script}
use Rattle.vnff_run.specs.declared.stop.RefusedInput.{RefusedInput}
use Rattle.vnff_run.specs.declared.stop.RefusedInput.TheVariants.{BadScript}
use Rattle.vnff_run.specs.declared.stop.Stop.{Stop}
use Rattle.vnff_run.specs.declared.stop.Stop.TheVariants as stops

-- a script's fault, as it ends a form
abbrev pub script_stop : ScriptFault → Stop
script_stop (faults.Bad line reason) = stops.Refused (BadScript line reason)
script_stop faults.Memory = stops.Memory

-- A call left the shelf's count of failures.
abbrev pub NoReadFailed : ShelfState → ShelfState → Type 0
NoReadFailed old new = new.faults ≡ old.faults

-- A call left the output's count of failures.
abbrev pub NoWriteFailed : OutputState → OutputState → Type 0
NoWriteFailed old new = new.faults ≡ old.faults

-- A read failed in a call.
abbrev pub ReadFailed : ShelfState → ShelfState → Type 0
ReadFailed old new = Rose old.faults new.faults

-- A write failed in a call.
abbrev pub WriteFailed : OutputState → OutputState → Type 0
WriteFailed old new = Rose old.faults new.faults

-- The text was appended, where the output tells its bytes.
abbrev pub Appended : OutputState → OutputState → List ℕ → Type 0
Appended old new text = new.told ≡ told_after old.told text

-- A front of the text was appended.
abbrev pub AppendedFront : OutputState → OutputState → List ℕ → Type 0
AppendedFront old new text = (n : ℕ) × Appended old new (take n text)

-- Nothing was appended.
abbrev pub AppendedNothing : OutputState → OutputState → Type 0
AppendedNothing old new = new.told ≡ old.told

-- A call left the output.
abbrev pub IsUntouched : OutputState → OutputState → Type 0
IsUntouched old new = AppendedNothing old new × NoWriteFailed old new

-- P holds of the outcome, where the shelf tells its files.
abbrev pub WhereTold : ShelfState → (Files → Outcome) → (Outcome → Type 0) → Type 0
WhereTold shelf outcome P = IfSome shelf.files (λ files. P (outcome files))

-- Why reading an input stopped: what is at fault with it, or a failed read, or want of memory.
abbrev pub ReadStops : {A : Type 0} → ShelfState → ShelfState → (Files → Result A InputFault) → Stop → Type 0
ReadStops old new input stops.ReadFault = ReadFailed old new ⊎ IsSomeAnd old.files (λ files. input files ≡ Err Missing)
ReadStops old new input (stops.Refused refusal) =
    NoReadFailed old new × IfSome old.files (λ files. input files ≡ Err (Refused refusal))
ReadStops old new input stops.AlreadyRefused = ⊥
ReadStops old new input stops.WriteFault = ⊥
ReadStops old new input stops.SinkFault = ⊥
ReadStops old new input stops.Memory = NoReadFailed old new

-- A call that reads an input gives what the files have, where the shelf tells them, or stops.
abbrev pub ReadsInput : {A : Type 0} → ShelfState → ShelfState → (Files → Result A InputFault) → Result A Stop → Type 0
ReadsInput old new input (Ok value) = NoReadFailed old new × IfSome old.files (λ files. input files ≡ Ok value)
ReadsInput old new input (Err stop) = ReadStops old new input stop

-- the script in the file of that name, with the items that its reader keeps
abbrev pub kept_script_in : Kept → List ℕ → Files → Result Script InputFault
kept_script_in kept name files = script_in name files >>= λ script. Ok (with_kept kept script)

-- The outcome is that an input is refused behind a text, and all of it was written.
abbrev pub IsRefusedBehind : OutputState → OutputState → Outcome → Type 0
IsRefusedBehind old new outcome = (outcome.status ≡ refused_status) × Wrote old new outcome.text

-- Why judging what was read stopped: it is refused, or memory ran out.
abbrev pub JudgeStops : {A : Type 0} → Result A InputFault → Stop → Type 0
JudgeStops judged (stops.Refused refusal) = judged ≡ Err (Refused refusal)
JudgeStops judged stops.Memory = ⊤
JudgeStops judged _ = ⊥

-- A call that judges what was read gives what it is, or stops.
abbrev pub Judges : {A : Type 0} → Result A InputFault → Result A Stop → Type 0
Judges judged (Ok value) = judged ≡ Ok value
Judges judged (Err stop) = JudgeStops judged stop

-- Why doing what has an outcome stopped, over an input that was read: a refusal behind what was written, a failed
-- write, or want of memory.
abbrev pub RunStops : OutputState → OutputState → Outcome → Stop → Type 0
RunStops old new outcome stops.AlreadyRefused = IsRefusedBehind old new outcome
RunStops old new outcome stops.WriteFault = Stopped old new outcome.text
RunStops old new outcome stops.Memory = NoWriteFailed old new × AppendedFront old new outcome.text
RunStops old new outcome _ = ⊥

-- The outcome is that everything is done, and its text was written.
abbrev pub IsDone : OutputState → OutputState → Outcome → Type 0
IsDone old new outcome = (outcome.status ≡ done_status) × Wrote old new outcome.text

-- A call over an input that was read does what has the outcome, with status 0, or stops within it.
abbrev pub RunsAs : {A : Type 0} → OutputState → OutputState → Outcome → Result A Stop → Type 0
RunsAs old new outcome (Ok _) = IsDone old new outcome
RunsAs old new outcome (Err stop) = RunStops old new outcome stop

-- Why taking a text behind the bytes that waited stopped: a failed write, or want of memory. A front of both was put.
abbrev pub TakingStops : OutputState → OutputState → List ℕ → List ℕ → Stop → Type 0
TakingStops old new waited text stops.WriteFault = Lost old new waited text
TakingStops old new waited text stops.Memory = NoWriteFailed old new × AppendedFront old new (waited ++ text)
TakingStops old new waited text _ = ⊥

-- A call takes a text behind the bytes that waited, or stops within it.
abbrev pub TakesText : {A : Type 0} → OutputState → OutputState → List ℕ → List ℕ → List ℕ → Result A Stop → Type 0
TakesText old new waited waits text (Ok _) = Took old new waited waits text
TakesText old new waited waits text (Err stop) = TakingStops old new waited text stop

-- Why a form stopped that calls no sink. Of what is refused the line is not yet written, but for a refusal behind what
-- was written.
abbrev pub FormStops : ShelfState → ShelfState → OutputState → OutputState → (Files → Outcome) → Stop → Type 0
FormStops shelf shelf_new out out_new outcome stops.ReadFault =
    IsUntouched out out_new
    × (ReadFailed shelf shelf_new ⊎ IsSomeAnd shelf.files (λ files. outcome files ≡ fault_outcome Missing))
FormStops shelf shelf_new out out_new outcome (stops.Refused refusal) =
    NoReadFailed shelf shelf_new × IsUntouched out out_new
    × WhereTold shelf outcome (λ end. end ≡ fault_outcome (Refused refusal))
FormStops shelf shelf_new out out_new outcome stops.AlreadyRefused =
    NoReadFailed shelf shelf_new × NoWriteFailed out out_new
    × WhereTold shelf outcome (λ end. IsRefusedBehind out out_new end)
FormStops shelf shelf_new out out_new outcome stops.WriteFault =
    NoReadFailed shelf shelf_new × WriteFailed out out_new
    × WhereTold shelf outcome (λ end. AppendedFront out out_new end.text)
FormStops shelf shelf_new out out_new outcome stops.SinkFault = ⊥
FormStops shelf shelf_new out out_new outcome stops.Memory =
    NoReadFailed shelf shelf_new × NoWriteFailed out out_new
    × WhereTold shelf outcome (λ end. AppendedFront out out_new end.text)

-- A form that calls no sink is carried out with status 0, or stops.
abbrev pub FormEnds : {A : Type 0} → ShelfState → ShelfState → OutputState → OutputState
    → (Files → Outcome) → Result A Stop → Type 0
FormEnds shelf shelf_new out out_new outcome (Ok _) =
    NoReadFailed shelf shelf_new × NoWriteFailed out out_new × WhereTold shelf outcome (λ end. IsDone out out_new end)
FormEnds shelf shelf_new out out_new outcome (Err stop) = FormStops shelf shelf_new out out_new outcome stop

-- The line of a refusal was written, with its status; or a write failed within it.
abbrev pub WritesRefusal : OutputState → OutputState → RefusedInput → ℕ → Type 0
WritesRefusal old new input status =
    ((status ≡ refused_status) × Wrote old new (refusal_line input))
    ⊎ ((status ≡ write_status) × Stopped old new (refusal_line input))

-- The status of a stop. What is refused is written.
abbrev pub IsStatusOfStop : OutputState → OutputState → Stop → ℕ → Type 0
IsStatusOfStop old new stops.ReadFault status = (status ≡ read_status) × IsUntouched old new
IsStatusOfStop old new (stops.Refused input) status = WritesRefusal old new input status
IsStatusOfStop old new stops.AlreadyRefused status = (status ≡ refused_status) × IsUntouched old new
IsStatusOfStop old new stops.WriteFault status = (status ≡ write_status) × IsUntouched old new
IsStatusOfStop old new stops.SinkFault status = (status ≡ write_status) × IsUntouched old new
IsStatusOfStop old new stops.Memory status = (status ≡ memory_status) × IsUntouched old new

-- The status of a form that was carried out, or stopped.
abbrev pub IsStatusOf : {A : Type 0} → OutputState → OutputState → Result A Stop → ℕ → Type 0
IsStatusOf old new (Ok _) status = (status ≡ done_status) × IsUntouched old new
IsStatusOf old new (Err stop) status = IsStatusOfStop old new stop status
