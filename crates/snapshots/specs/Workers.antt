-- Doors and workers as contracts see them, and what a worker's log stands for. This project's own.
use Rattle.std.specs.Prelude.{◌≡◌, ℕ, ◌≤◌, ◌<◌, List, [], ◌∷◌, ◌++◌, length, get_or, slice_get, Some, nat_lt, if◌then◌else◌}
use Rattle.ff_headers.specs.Frames.{headers_of}
use Rattle.ff_headers.specs.Places.{action_of}
use Rattle.ff_headers.specs.Changes.{after, change_count}
use Rattle.ff_headers.specs.declared.limits.Limits.{Limits}
use Rattle.ff_headers.specs.declared.change.Change.{Change}
use Rattle.snapshots.specs.Lists.{Identity}
use Rattle.snapshots.specs.declared.seen.Seen.{Seen}

-- which tables a door leads to, for which limits, the lists that each later read must begin with, and how often it
-- refused to let a reader in
pub record DoorState : Type 0 where
  pub identity : Identity
  pub limits : Limits
  pub floors : List (List Change)
  pub refused : ℕ

-- a worker: its door, what it read, and the reads that its log has room for
pub record WorkerState : Type 0 where
  pub identity : Identity
  pub limits : Limits
  pub floors : List (List Change)
  pub refused : ℕ
  pub log : List Seen
  pub spare : ℕ

-- the log after one more read: it stands there where there was room
abbrev pub log_after : List Seen → ℕ → Seen → List Seen
log_after log spare seen = if nat_lt 0 spare then log ++ seen ∷ [] else log

-- the first list that each later read must begin with
abbrev pub first_floor : List (List Change) → List Change
first_floor floors = get_or floors 0 []

-- a read of a frame that stands in the log: its number is of changes in the list, and its action is that after so many
pub record IsLogged (limits : Limits) (list : List Change) (frame : List ℕ) (seen : Seen) : Type 0 where
  pub counted : seen.after ≤ change_count list
  pub acted : seen.action ≡ action_of (after limits list seen.after) (headers_of frame)

-- the log stands for reads of these frames, in their order: the numbers of changes don't fall
pub record Logged (worker : WorkerState) (frames : List (List ℕ)) : Type 0 where
  pub long : length worker.log ≡ length frames
  pub each : (at : ℕ) (seen : Seen) (frame : List ℕ) → slice_get worker.log at ≡ Some seen
      → slice_get frames at ≡ Some frame → IsLogged worker.limits (first_floor worker.floors) frame seen
  pub rises : (i j : ℕ) (a b : Seen) → i < j → slice_get worker.log i ≡ Some a → slice_get worker.log j ≡ Some b
      → a.after ≤ b.after

-- a door that is held, and how many looks it will refuse
pub record HeldState : Type 0 where
  pub door : DoorState
  pub left : ℕ
