-- A live run in its three phases: what is opened, what the commands and the reads leave, and what is closed. This
-- project's own.
use Rattle.std.specs.Prelude.{ℕ, ◌≡◌, ◌<◌, ◌≤◌, ◌+◌, List, [], ◌∷◌, ◌++◌, length, get_or, vec_capacity}
use Rattle.cap_table.specs.Caps.{CapsParts}
use Rattle.cap_table.specs.States.{start_state}
use Rattle.cap_table.specs.declared.start.Start.{Start}
use Rattle.ff_headers.specs.declared.change.Change.TheVariants.{Close}
use Rattle.snapshots.specs.Ends.{EndState, with_list}
use Rattle.snapshots.specs.Workers.{WorkerState}
use Rattle.steer.specs.AdminSides.{HasCarriedOut}
use Rattle.steer.specs.LiveSteps.{HaveTurned, HasLearned, HasReadLast, HaveRead}
use Rattle.steer.specs.Shares.{share_len}
use Rattle.steer.specs.declared.admin_line.AdminLine.{AdminLine}
use Rattle.steer.specs.declared.admin_side.AdminSide.{AdminSide}
use Rattle.steer.specs.declared.live_result.LiveResult.{LiveResult}

-- a worker of the end's tables that has read nothing, with room for its share of n frames and one read more
pub record IsReady (end : EndState) (n workers place : ℕ) (worker : WorkerState) : Type 0 where
  pub identity : worker.identity ≡ end.identity
  pub limits : worker.limits ≡ end.limits
  pub floors : worker.floors ≡ [] ∷ []
  pub log : worker.log ≡ []
  pub spare : worker.spare ≡ share_len n workers place + 1

-- a device at its start, with room for so many replies, whose published tables are empty, and its workers
pub record IsLiveStart (caps : CapsParts) (start : Start) (commands n workers : ℕ) (side : AdminSide)
    (readers : List WorkerState) : Type 0 where
  pub device : side.device ≡ start_state caps start
  pub replies : side.replies.items ≡ []
  pub room : commands ≤ vec_capacity side.replies
  pub list : side.end.list ≡ []
  pub limits : side.end.limits ≡ caps.limits
  pub as_many : length readers ≡ workers
  pub ready : (place : ℕ) (d : WorkerState) → place < workers
      → IsReady side.end n workers place (get_or readers place d)

-- the first commands were carried out and every worker was told of them; then the others were, while the workers read
-- their shares of the frames
pub record HasBeenLive (lines : List AdminLine) (frames : List (List ℕ)) (workers first : ℕ) (before now : AdminSide)
    (fresh done : List WorkerState) : Type 0 where
  pub middle : AdminSide
  pub firsts : HasCarriedOut lines 0 first before middle
  pub told : List WorkerState
  pub telling : HaveTurned (λ _. HasLearned middle.end.list) (length fresh) fresh told
  pub others : HasCarriedOut lines first (length lines) middle now
  pub reads : HaveRead frames workers 0 told done

-- the list of changes is closed; every worker was told, and read the empty frame
pub record HasClosed (side : AdminSide) (readers : List WorkerState) (run : LiveResult) : Type 0 where
  pub replies : run.replies ≡ side.replies.items
  pub closed : run.closed ≡ with_list side.end (side.end.list ++ Close ∷ [])
  pub reads : HaveTurned (λ _. HasReadLast run.closed.list) (length readers) readers run.workers
