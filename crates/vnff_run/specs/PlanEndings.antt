-- What calls did that were to carry a plan out, where a read or a write may fail and memory may run out.
use Rattle.std.specs.Prelude.{ℕ, ◌≡◌, ◌≢◌, ◌≤◌, ◌⊎◌, List, IfSome, IsSomeAnd, Result, Ok, Err}
use Rattle.vnff_base.specs.Outputs.{OutputState, Wrote, Stopped}
use Rattle.vnff_base.specs.Shelves.{Files, ShelfState}
use Rattle.vnff_run.specs.Endings.{AppendedNothing, NoReadFailed, NoWriteFailed, ReadFailed, WriteFailed}
use Rattle.vnff_run.specs.LiveTexts.{IsLiveText}
use Rattle.vnff_run.specs.Outcomes.{memory_status, read_status, words_status, write_status}
use Rattle.vnff_run.specs.Plans.{Lives, Plan, WroteFront, WroteText, plan_status}
use Rattle.vnff_run.specs.declared.live_run.LiveRun.{LiveRun}
use Rattle.vnff_run.specs.declared.stop.Stop.{Stop}
use Rattle.vnff_run.specs.declared.stop.Stop.TheVariants as stops

-- P holds of the plan, where the shelf tells its files.
abbrev pub WherePlanned : ShelfState → (Files → Plan) → (Plan → Type 0) → Type 0
WherePlanned shelf plan P = IfSome shelf.files (λ files. P (plan files))

-- A call ended with a status that was to carry a plan out. A sink may have failed of the rack that was
-- lent to it, and then it may have ended so.
pub record EndsAs (sink steers : Type 0) (shelf shelf_new : ShelfState) (out out_new : OutputState)
    (plan : Files → Plan) (status : ℕ) : Type 0 where
  pub known : status ≤ memory_status
  pub done : status ≤ words_status
      → WherePlanned shelf plan (λ p. (status ≡ plan_status p) × WroteText p out out_new)
  pub complete : WherePlanned shelf plan (λ p. (status ≡ plan_status p) ⊎ (status ≡ memory_status)
      ⊎ ReadFailed shelf shelf_new ⊎ WriteFailed out out_new ⊎ sink)
  pub read : status ≡ read_status
      → ReadFailed shelf shelf_new ⊎ IsSomeAnd shelf.files (λ files. plan_status (plan files) ≡ read_status)
  pub nothing : (status ≡ words_status) ⊎ (status ≡ read_status) → AppendedNothing out out_new
  pub write : status ≡ write_status → WriteFailed out out_new ⊎ steers
  pub no_read : status ≢ read_status → NoReadFailed shelf shelf_new
  pub no_write : status ≢ write_status → NoWriteFailed out out_new
  pub front : write_status ≤ status → WherePlanned shelf plan (λ p. WroteFront p out out_new)

-- How a live run ended over an input that was read: a text of it was written, or a front of one.
abbrev pub LiveEnds : {A : Type 0} → OutputState → OutputState → LiveRun → Result A Stop → Type 0
LiveEnds old new run (Ok _) = (text : List ℕ) × IsLiveText run text × Wrote old new text
LiveEnds old new run (Err stops.WriteFault) = (text : List ℕ) × IsLiveText run text × Stopped old new text
LiveEnds old new run (Err stops.Memory) = NoWriteFailed old new × WroteFront (Lives run) old new
LiveEnds old new run (Err _) = ⊥

-- How a plan over an input that was read ended with a status: it was carried out, or a write failed, or memory ran out.
pub record IsCarriedOut (old new : OutputState) (plan : Plan) (status : ℕ) : Type 0 where
  pub planned : status ≡ plan_status plan
  pub low : status ≤ words_status
  pub wrote : WroteText plan old new
  pub nothing : status ≡ words_status → AppendedNothing old new
  pub faults : NoWriteFailed old new

pub record IsCutShort (old new : OutputState) (plan : Plan) (status : ℕ) : Type 0 where
  pub cause : ((status ≡ write_status) × WriteFailed old new) ⊎ ((status ≡ memory_status) × NoWriteFailed old new)
  pub front : WroteFront plan old new

abbrev pub PlanEnds : OutputState → OutputState → Plan → ℕ → Type 0
PlanEnds old new plan status = IsCarriedOut old new plan status ⊎ IsCutShort old new plan status
