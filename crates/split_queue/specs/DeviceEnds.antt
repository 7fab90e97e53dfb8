-- The device's end of a queue: what it takes, and what it gives back (Virtio 1.4 draft, "Split Virtqueues").
use Rattle.std.specs.Prelude.{ℕ, Bool, true, false, ◌==◌, nat_lt, nat_le, if◌then◌else◌, List, Option, Some, None, Result, Ok, Err}
use Rattle.split_queue.specs.Rings.{index_after, index_gap, available_idx, available_head}
use Rattle.split_queue.specs.Walks.{chain_of}
use Rattle.split_queue.specs.declared.chain.Chain.{Chain}
use Rattle.split_queue.specs.declared.queue_place.Place.{Place}
use Rattle.split_queue.specs.declared.error.RingErr.{RingErr}
use Rattle.split_queue.specs.declared.error.RingErr.TheVariants as fault

-- a device's end: its place in a memory of so many bytes, the available index of its next chain, and the used index at
-- which it goes on
pub record DeviceEndState : Type 0 where
  pub place : Place
  pub mem_len : ℕ
  pub next : ℕ
  pub used : ℕ

-- a device's end at its start, where both indexes are `next`
abbrev pub device_start : Place → ℕ → ℕ → DeviceEndState
device_start place mem_len next = record { place = place; mem_len = mem_len; next = next; used = next }

-- the head in a slot, where it is one of the queue's descriptors, and its chain
abbrev pub chain_in_slot : List ℕ → Place → ℕ → Result Chain RingErr
chain_in_slot mem place index =
    let head = available_head mem place index in
    if nat_le place.size head then Err (fault.BadHead head) else chain_of mem place head

-- what was found, as the answer of a pop
abbrev pub as_pop_answer : Result Chain RingErr → Result (Option Chain) RingErr
as_pop_answer (Ok chain) = Ok (Some chain)
as_pop_answer (Err f) = Err f

-- what a pop gives of the available ring at an index: nothing where the indexes are equal, else the next chain
unfoldable pub pop_answer : List ℕ → Place → ℕ → Result (Option Chain) RingErr
pop_answer mem place index =
    let idx = available_idx mem place in
    if idx == index then Ok None
    else (if nat_lt place.size (index_gap index idx) then Err (fault.IdxJump idx)
    else as_pop_answer (chain_in_slot mem place index))

-- a pop's answer by its two parts: whether there was a chain, or the fault, and the chain's place as it was left
abbrev pub answer_with : Chain → Result Bool RingErr → Result (Option Chain) RingErr
answer_with chain (Ok true) = Ok (Some chain)
answer_with chain (Ok false) = Ok None
answer_with chain (Err f) = Err f

-- the device's end after it took a chain, and after it gave one back
abbrev pub after_pop : DeviceEndState → DeviceEndState
after_pop end = record end { next = index_after end.next }

abbrev pub after_push : DeviceEndState → DeviceEndState
after_push end = record end { used = index_after end.used }
