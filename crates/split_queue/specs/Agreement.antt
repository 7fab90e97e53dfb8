-- When the two ends of a queue agree, and what a driver's chain is at the device's end: however its bytes are cut into
-- pieces, the device gets the same. This project's own.
use Rattle.std.specs.Prelude.{◌≡◌, ℕ, ◌^◌, ◌<◌, ◌≤◌, ◌⊎◌, true, false, List, length, map, take, drop, All, Ok}
use Rattle.std.specs.List.{AllPairs}
use Rattle.guest_mem.specs.Memory.{ChangesOnly}
use Rattle.split_queue.specs.Chains.{most_descriptors, most_readable, room_of, bytes_in, PieceLiesIn, with_bytes_in, IsInPiece, AreApart}
use Rattle.split_queue.specs.DeviceEnds.{DeviceEndState}
use Rattle.split_queue.specs.Descriptors.{descriptor_at, is_writable}
use Rattle.split_queue.specs.DriverEnds.{DriverEndState, post_answer, after_post, with_post, after_take}
use Rattle.split_queue.specs.Rings.{available_idx, used_idx, with_used_entry, last_available_head, last_used_element, IsInRings}
use Rattle.split_queue.specs.Setup.{table_area, IsInArea}
use Rattle.split_queue.specs.Walks.{buffer_of, HoldsWalk, chain_of}
use Rattle.split_queue.specs.declared.chain.Chain.{Chain}
use Rattle.split_queue.specs.declared.chain.Piece.{Piece}
use Rattle.split_queue.specs.declared.queue_place.Place.{Place}

-- the ends of one queue agree: they lie at one place, and each ring stands at one index in both ends and in the memory
pub record Agree (driver : DriverEndState) (device : DeviceEndState) (mem : List ℕ) : Type 0 where
  pub place : device.place ≡ driver.place
  pub driver_memory : driver.mem_len ≡ length mem
  pub device_memory : device.mem_len ≡ length mem
  pub available_idx : available_idx mem driver.place ≡ driver.next
  pub available_next : device.next ≡ driver.next
  pub used_idx : used_idx mem driver.place ≡ driver.used
  pub used_next : device.used ≡ driver.used
  pub available_small : driver.next < 2 ^ 16
  pub used_small : driver.used < 2 ^ 16

-- the address lies in one of the queue's three areas
abbrev pub IsInQueue : Place → ℕ → Type 0
IsInQueue place addr = IsInArea (table_area place) addr ⊎ IsInRings place addr

-- no byte of the piece lies in the queue's areas
abbrev pub IsClearOf : Place → Piece → Type 0
IsClearOf place piece = (addr : ℕ) → IsInPiece addr piece → ¬ IsInQueue place addr

-- pieces that a device takes as they were posted, the first `readable` of them for it to read
pub record ArePostable (mem_len : ℕ) (place : Place) (pieces : List Piece) (readable : ℕ) : Type 0 where
  pub few : length pieces ≤ most_descriptors
  pub short : room_of (take readable pieces) ≤ most_readable
  pub inside : All (PieceLiesIn mem_len) pieces
  pub clear : All (IsClearOf place) pieces

-- the chain of these pieces: the readable ones' bytes, joined, and the writable ones
abbrev pub chain_of_pieces : List ℕ → ℕ → List Piece → ℕ → Chain
chain_of_pieces mem head pieces readable = record {
  head = head;
  readable = record { items = bytes_in mem (take readable pieces) };
  writable = record { items = drop readable pieces };
}

-- only bytes outside of the queue's three areas are changed
abbrev pub KeepsQueue : List ℕ → List ℕ → Place → Type 0
KeepsQueue before after place = ChangesOnly before after (λ addr. ¬ IsInQueue place addr)

-- what happens in a round of a queue: the driver posts a chain of pieces, of which so many are readable, and gets its
-- head; the device writes outside of the queue, and gives the chain back with a length. The memories are those before
-- the post, before the push and after it.
pub record Round : Type 0 where
  pub pieces : List Piece
  pub readable : ℕ
  pub head : ℕ
  pub len : ℕ
  pub at_post : List ℕ
  pub at_push : List ℕ
  pub at_take : List ℕ

-- a round of two ends that agree before it
pub record IsRound (driver : DriverEndState) (device : DeviceEndState) (round : Round) : Type 0 where
  pub agree : Agree driver device round.at_post
  pub some : 0 < length round.pieces
  pub posts : post_answer driver (length round.pieces) ≡ Ok round.head
  pub keeps : KeepsQueue (with_post round.at_post driver round.pieces round.readable) round.at_push driver.place
  pub short : round.len < 2 ^ 32
  pub gives_back : round.at_take ≡ with_used_entry round.at_push device.place device.used round.head round.len

-- the driver's end after a round
abbrev pub after_round : DriverEndState → Round → DriverEndState
after_round driver round = after_take (after_post driver (length round.pieces)) round.head

-- places for a command and its reply: no writable piece shares a byte with a readable one, nor with another writable
-- one
pub record LieApartForReply (pieces : List Piece) (readable : ℕ) : Type 0 where
  pub command : All (λ p. All (AreApart p) (drop readable pieces)) (take readable pieces)
  pub reply : AllPairs AreApart (drop readable pieces)

-- a round in which the device writes a reply into the writable pieces, which have room for it, and nothing else
pub record IsReplyRound (driver : DriverEndState) (device : DeviceEndState) (round : Round) (reply : List ℕ)
    : Type 0 where
  pub is_round : IsRound driver device round
  pub postable : ArePostable (length round.at_post) driver.place round.pieces round.readable
  pub lengths : All (λ p. p.len < 2 ^ 32) round.pieces
  pub places : LieApartForReply round.pieces round.readable
  pub fits : length reply ≤ room_of (drop round.readable round.pieces)
  pub written : round.at_push
      ≡ with_bytes_in (with_post round.at_post driver round.pieces round.readable)
      (drop round.readable round.pieces) reply

-- the descriptors with these numbers hold just these pieces, in order: the first `readable` are for the device to read,
-- and the others for it to write
pub record HoldPieces (mem : List ℕ) (place : Place) (numbers : List ℕ) (pieces : List Piece)
    (readable : ℕ) : Type 0 where
  pub buffers : map (λ n. buffer_of (descriptor_at mem place n)) numbers ≡ pieces
  pub readable_first : All (λ n. is_writable (descriptor_at mem place n) ≡ false) (take readable numbers)
  pub writable_then : All (λ n. is_writable (descriptor_at mem place n) ≡ true) (drop readable numbers)

-- the queue holds a command and its reply: the slot that was filled last has the head of this chain, the longest walk
-- from it holds just these pieces, of which so many are readable, the chain's writable buffers begin with the reply,
-- and the used element that was written last names its head and a length
pub record HoldsAnswer (mem : List ℕ) (place : Place) (chain : Chain) (pieces : List Piece) (readable : ℕ)
    (reply : List ℕ) (len : ℕ) : Type 0 where
  pub in_last_slot : last_available_head mem place ≡ chain.head
  pub is_chain : chain_of mem place chain.head ≡ Ok chain
  pub walk : List ℕ
  pub holds_walk : HoldsWalk mem place chain walk
  pub hold_pieces : HoldPieces mem place walk pieces readable
  pub begins : take (length reply) (bytes_in mem chain.writable.items) ≡ reply
  pub last_used : last_used_element mem place ≡ (chain.head, len)
