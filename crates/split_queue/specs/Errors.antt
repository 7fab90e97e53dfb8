-- What each fault of the next chain says, in the queue's own words: the first one of the available ring, or of the
-- chain in its next slot (which faults there are, and their order, are this project's own).
use Rattle.std.specs.Prelude.{◌≡◌, ◌≢◌, ℕ, ◌+◌, ◌-◌, ◌<◌, ◌≤◌, List, length, Some, None}
use Rattle.split_queue.specs.Rings.{index_gap, available_idx, available_head}
use Rattle.split_queue.specs.Walks.{IsWalk, fault_in_walk}
use Rattle.split_queue.specs.declared.queue_place.Place.{Place}
use Rattle.split_queue.specs.declared.error.RingErr.{RingErr}
use Rattle.split_queue.specs.declared.error.RingErr.TheVariants as fault

-- a walk from the head whose last descriptor has the fault, and no one before it has any
pub record IsWalkFault (mem : List ℕ) (place : Place) (head : ℕ) (f : RingErr) (walk : List ℕ) : Type 0 where
  pub is_walk : IsWalk mem place head walk
  pub last : fault_in_walk mem place walk (length walk - 1) ≡ Some f
  pub before : (k : ℕ) → k + 1 < length walk → fault_in_walk mem place walk k ≡ None

-- the walk from the head comes to the fault
abbrev pub HasWalkFault : List ℕ → Place → ℕ → RingErr → Type 0
HasWalkFault mem place head f = (walk : List ℕ) × IsWalkFault mem place head f walk

-- the available index is ahead of this one, by no more than the size
pub record IsAhead (mem : List ℕ) (place : Place) (index : ℕ) : Type 0 where
  pub some : available_idx mem place ≢ index
  pub few : index_gap index (available_idx mem place) ≤ place.size

-- the available index is this one, which is more than the size ahead
pub record IsJump (mem : List ℕ) (place : Place) (index idx : ℕ) : Type 0 where
  pub read : available_idx mem place ≡ idx
  pub far : place.size < index_gap index idx

-- the head in the slot of the index is this one, which is none of the queue's descriptors
pub record IsBadHead (mem : List ℕ) (place : Place) (index head : ℕ) : Type 0 where
  pub ahead : IsAhead mem place index
  pub read : available_head mem place index ≡ head
  pub outside : place.size ≤ head

-- the walk from the head in the slot of the index comes to the fault
pub record IsChainFault (mem : List ℕ) (place : Place) (index : ℕ) (f : RingErr) : Type 0 where
  pub ahead : IsAhead mem place index
  pub walk_fault : HasWalkFault mem place (available_head mem place index) f

-- the fault is the first one of the available ring at the index, or of the chain in its slot
abbrev pub IsRingFault : List ℕ → Place → ℕ → RingErr → Type 0
IsRingFault mem place index (fault.IdxJump idx) = IsJump mem place index idx
IsRingFault mem place index (fault.BadHead head) = IsBadHead mem place index head
IsRingFault mem place index f = IsChainFault mem place index f
