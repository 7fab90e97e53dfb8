-- How a form ends by what it reads and what it then does, and what its status says.
use Rattle.std.proofs.Common.{◌≡◌, ℕ, List, Option, Some, None, Result, Ok, Err, sym, ap, ◌∙◌, subst, inl, inr, ⊎_elim}
use Rattle.std.specs.Prelude.{IfSome}
use Rattle.std.proofs.lemmas.Option.{IfSome_then}
use Rattle.vnff_base.specs.Shelves.{Files, ShelfState}
use Rattle.vnff_base.specs.Outputs.{OutputState}
use Rattle.vnff_base.proofs.Writing.{told_after-nil}
use Rattle.vnff_run.specs.Endings.{ReadStops, ReadsInput, RunsAs, FormStops, FormEnds, AppendedFront, IsUntouched, IsDone, IsRefusedBehind, NoReadFailed, WhereTold}
use Rattle.vnff_run.specs.Inputs.{InputFault}
use Rattle.vnff_run.specs.Outcomes.{Outcome, outcome_with}
use Rattle.vnff_run.specs.declared.stop.Stop.{Stop}
use Rattle.vnff_run.specs.declared.stop.Stop.TheVariants as stops
use Rattle.vnff_run.proofs.InputLemmas.{some_then}

-- nothing is a front of any text
pub wrote_none : (old new : OutputState) (text : List ℕ) → new.told ≡ old.told → AppendedFront old new text
wrote_none old new text same = (0, same ∙ sym (told_after-nil old.told))

-- what holds of all files holds of those that are told
pub where_told : {P : Files → Type 0} (told : Option Files) → ((files : Files) → P files) → IfSome told P
where_told None all = tt
where_told (Some files) all = all files

-- where the input can't be read, nothing else was done
pub form_stops : {A : Type 0} (shelf shelf_new : ShelfState) (out out_new : OutputState) (input : Files → Result A InputFault) (run : A → Outcome) (stop : Stop) → ReadStops shelf shelf_new input stop → IsUntouched out out_new → FormStops shelf shelf_new out out_new (λ files. outcome_with run (input files)) stop
form_stops shelf shelf_new out out_new input run stops.ReadFault why left =
    (left, ⊎_elim inl (λ missing. inr (some_then shelf.files missing (λ files is. ap (outcome_with run) is))) why)
form_stops shelf shelf_new out out_new input run (stops.Refused refused) why left =
    (why.0, left, IfSome_then shelf.files why.1 (λ files is. ap (outcome_with run) is))
form_stops shelf shelf_new out out_new input run stops.AlreadyRefused why left = absurd why
form_stops shelf shelf_new out out_new input run stops.WriteFault why left = absurd why
form_stops shelf shelf_new out out_new input run stops.SinkFault why left = absurd why
form_stops shelf shelf_new out out_new input run stops.Memory why left =
    (why, left.1, where_told shelf.files (λ files. wrote_none out out_new (outcome_with run (input files)).text left.0))

-- what has an outcome was done, where the files have it
pub outcome_runs : {B : Type 0} (shelf shelf_new : ShelfState) (out out_new : OutputState) (outcome : Files → Outcome) (end : Outcome) (result : Result B Stop) → NoReadFailed shelf shelf_new → WhereTold shelf outcome (λ o. o ≡ end) → RunsAs out out_new end result → FormEnds shelf shelf_new out out_new outcome result
outcome_runs shelf shelf_new out out_new outcome end (Ok x) none told ran =
    (none, ran.1.faults, IfSome_then shelf.files told (λ files is. subst (IsDone out out_new) (sym is) ran))
outcome_runs shelf shelf_new out out_new outcome end (Err stops.ReadFault) none told ran = absurd ran
outcome_runs shelf shelf_new out out_new outcome end (Err (stops.Refused refused)) none told ran = absurd ran
outcome_runs shelf shelf_new out out_new outcome end (Err stops.AlreadyRefused) none told ran =
    (none, ran.1.faults, IfSome_then shelf.files told (λ files is. subst (IsRefusedBehind out out_new) (sym is) ran))
outcome_runs shelf shelf_new out out_new outcome end (Err stops.WriteFault) none told ran =
    (none, ran.rose, IfSome_then shelf.files told (λ files is. subst (λ (o : Outcome). AppendedFront out out_new o.text) (sym is) ran.told))
outcome_runs shelf shelf_new out out_new outcome end (Err stops.SinkFault) none told ran = absurd ran
outcome_runs shelf shelf_new out out_new outcome end (Err stops.Memory) none told ran =
    (none, ran.0, IfSome_then shelf.files told (λ files is. subst (λ (o : Outcome). AppendedFront out out_new o.text) (sym is) ran.1))

-- an input that was read is done with
pub form_runs : {A B : Type 0} (shelf shelf_new : ShelfState) (out out_new : OutputState) (input : Files → Result A InputFault) (run : A → Outcome) (value : A) (result : Result B Stop) → ReadsInput shelf shelf_new input (Ok value) → RunsAs out out_new (run value) result → FormEnds shelf shelf_new out out_new (λ files. outcome_with run (input files)) result
form_runs shelf shelf_new out out_new input run value result read ran =
    outcome_runs shelf shelf_new out out_new (λ files. outcome_with run (input files)) (run value) result read.0 (IfSome_then shelf.files read.1 (λ files is. ap (outcome_with run) is)) ran
