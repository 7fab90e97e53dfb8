-- What the parts of a live run leave: commands behind others, and the reads of one worker. This project's own.
use Rattle.std.specs.Prelude.{ℕ, ◌≡◌, ◌<◌, ◌≤◌, ◌+◌, ◌-◌, ◌^◌, List, [], ◌∷◌, ◌++◌, length, get_or, All}
use Rattle.std.specs.List.{Contains}
use Rattle.ff_headers.specs.Changes.{change_count}
use Rattle.ff_headers.specs.declared.change.Change.{Change}
use Rattle.cap_table.specs.States.{DeviceState}
use Rattle.snapshots.specs.Lists.{Covers}
use Rattle.snapshots.specs.Workers.{WorkerState, Logged, first_floor}
use Rattle.steer.specs.LiveCommands.{AreAnswered, state_behind, changes_made}
use Rattle.steer.specs.Shares.{share, share_len}
use Rattle.steer.specs.declared.admin_line.AdminLine.{AdminLine}

-- ---- commands

-- commands with these replies led from a state to a device, and their changes were published, in order
pub record HasRun (from : DeviceState) (lines : List AdminLine) (replies : List (List ℕ)) (device : DeviceState)
    (list : List Change) : Type 0 where
  pub answered : AreAnswered from lines replies
  pub left : device ≡ state_behind from lines replies
  pub published : list ≡ changes_made from lines replies

-- ---- reads

-- one read was made: the floors are the one list that was entered, which covers each from before
pub record HasEntered (before now : List (List Change)) : Type 0 where
  pub list : List Change
  pub floors : now ≡ list ∷ []
  pub covers : All (Covers list) before

-- some floor has so many changes
abbrev pub HasFloor : ℕ → List (List Change) → Type 0
HasFloor low floors = (floor : List Change) × Contains floors floor × (low ≤ change_count floor)

-- each read sees so many changes, and each that was logged did
pub record SeesAtLeast (low : ℕ) (worker : WorkerState) : Type 0 where
  pub floor : HasFloor low worker.floors
  pub log : All (λ seen. low ≤ seen.after) worker.log

-- nothing was read: only the door may have refused
pub record HasNotRead (before now : WorkerState) : Type 0 where
  pub identity : now.identity ≡ before.identity
  pub limits : now.limits ≡ before.limits
  pub floors : now.floors ≡ before.floors
  pub log : now.log ≡ before.log
  pub spare : now.spare ≡ before.spare

-- a worker read these frames, and logged what it read. Its lists only grew, so that what was logged before stands for
-- as many changes as it did. A list of 2^64 - 1 changes is longer than any that is published
pub record HasReadOn (before now : WorkerState) (frames : List (List ℕ)) : Type 0 where
  pub identity : now.identity ≡ before.identity
  pub limits : now.limits ≡ before.limits
  pub spare : now.spare + length frames ≡ before.spare
  pub longer : length (first_floor before.floors) ≤ length (first_floor now.floors)
  pub logged : length (first_floor now.floors) < 2 ^ 64 - 1
      → (earlier : List (List ℕ)) → Logged before earlier → Logged now (earlier ++ frames)
  pub sees : (low : ℕ) → low ≤ 2 ^ 64 - 1 → SeesAtLeast low before → SeesAtLeast low now

-- workers at the places from this one on, of so many, read their shares of the frames
pub record HaveRead (frames : List (List ℕ)) (workers place : ℕ) (before now : List WorkerState) : Type 0 where
  pub as_many : length now ≡ length before
  pub each : (k : ℕ) (d : WorkerState) → k < length before
      → HasReadOn (get_or before k d) (get_or now k d) (share frames workers (place + k))

-- each of these workers, at the places from this one on, has room for its share of n frames and one read more
pub record HaveRoom (n workers place : ℕ) (readers : List WorkerState) : Type 0 where
  pub each : (k : ℕ) (d : WorkerState) → k < length readers
      → share_len n workers (place + k) < (get_or readers k d).spare

-- ---- workers in a row

-- the workers before a place changed in this way, each at its place, and the others didn't
pub record HaveTurned (R : ℕ → WorkerState → WorkerState → Type 0) (upto : ℕ) (before now : List WorkerState)
    : Type 0 where
  pub as_many : length now ≡ length before
  pub done : (k : ℕ) (d : WorkerState) → k < upto → R k (get_or before k d) (get_or now k d)
  pub rest : (k : ℕ) (d : WorkerState) → upto ≤ k → get_or now k d ≡ get_or before k d

-- a worker's empty log has room for its share of n frames, and one read more
abbrev pub HasKept : ℕ → ℕ → ℕ → WorkerState → WorkerState → Type 0
HasKept n workers place before now = now ≡ record before { spare = share_len n workers place + 1 }

-- a worker was told of a list
pub record HasLearned (list : List Change) (before now : WorkerState) : Type 0 where
  pub identity : now.identity ≡ before.identity
  pub limits : now.limits ≡ before.limits
  pub floors : now.floors ≡ before.floors ++ list ∷ []
  pub log : now.log ≡ before.log
  pub spare : now.spare ≡ before.spare
  pub logged : (frames : List (List ℕ)) → Logged before frames → Logged now frames

-- a worker was told of a list, and then read the empty frame
pub record HasReadLast (list : List Change) (before now : WorkerState) : Type 0 where
  pub told : WorkerState
  pub learned : HasLearned list before told
  pub read : HasReadOn told now ([] ∷ [])
  pub entered : HasEntered told.floors now.floors
