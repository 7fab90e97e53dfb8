-- The driver's end of a queue: what it posts, and what it takes back (Virtio 1.4 draft, "Split Virtqueues"; which free
-- descriptors a chain gets is this project's own).
use Rattle.std.specs.Prelude.{◌≡◌, ℕ, ◌+◌, ◌-◌, ◌^◌, ◌<◌, ◌==◌, ◌⊎◌, nat_lt, if◌then◌else◌, List, [], ◌∷◌, length, take, reverse, slice_index, slice_set, Option, Some, None, Result, Ok, Err}
use Rattle.guest_mem.specs.Memory.{IsInRange}
use Rattle.byte_numbers.specs.Numbers.{le32_at}
use Rattle.split_queue.specs.Descriptors.{with_descriptor, next_flag, write_flag}
use Rattle.split_queue.specs.QueuePlaces.{descriptor_bytes, descriptor_addr, used_element_addr}
use Rattle.split_queue.specs.Pools.{PoolState, first_free, owner_of, is_chain_head, after_release, AreFree, HeadsAreOut}
use Rattle.split_queue.specs.Rings.{index_after, index_gap, with_available_entry, IsInAvailableEntry, used_idx}
use Rattle.split_queue.specs.Setup.{IsPlaced}
use Rattle.split_queue.specs.declared.chain.Piece.{Piece}
use Rattle.split_queue.specs.declared.descriptor.Descriptor.{Descriptor}
use Rattle.split_queue.specs.declared.error.PostErr.{PostErr}
use Rattle.split_queue.specs.declared.error.PostErr.TheVariants.{Full}
use Rattle.split_queue.specs.declared.error.TakeErr.{TakeErr}
use Rattle.split_queue.specs.declared.error.TakeErr.TheVariants.{IdxJump, BadId}
use Rattle.split_queue.specs.declared.queue_place.Place.{Place}

-- a driver's end: its place in a memory of so many bytes, the available index of its next chain, the used index at
-- which it goes on, and its descriptors
pub record DriverEndState : Type 0 where
  pub place : Place
  pub mem_len : ℕ
  pub next : ℕ
  pub used : ℕ
  pub pool : PoolState

-- the invariant of an end: its place lies in the memory, and its pool has the place's descriptors
pub record IsDriver (place : Place) (mem_len : ℕ) (pool : PoolState) : Type 0 where
  pub placed : IsPlaced place mem_len
  pub same_size : length pool.owners ≡ place.size

-- what every end knows of itself: the invariant of an end, and of its pool that the free ones are distinct descriptors,
-- and that the head of each chain that is out is out in it
pub record IsValidDriver (end : DriverEndState) : Type 0 where
  pub valid : IsDriver end.place end.mem_len end.pool
  pub free_list : AreFree end.pool.owners end.pool.free
  pub few : length end.pool.owners < 2 ^ 16
  pub heads : HeadsAreOut end.pool.owners

-- ---- a chain is posted

-- the free descriptors that the next chain of so many pieces gets, in the chain's order
abbrev pub chain_numbers : ℕ → List ℕ → List ℕ
chain_numbers count free = take count (reverse free)

-- the descriptor of a piece: so many of the pieces from it on are readable, these follow it, and so do these
-- descriptors
abbrev pub piece_descriptor : Piece → ℕ → List Piece → List ℕ → Descriptor
piece_descriptor piece readable later numbers = record {
  addr = piece.addr;
  len = piece.len;
  flags = (if length later == 0 then 0 else next_flag) + (if readable == 0 then write_flag else 0);
  next = slice_index numbers 0;
}

-- the memory with the descriptors of a chain
abbrev pub with_descriptors : List ℕ → Place → List ℕ → List Piece → ℕ → List ℕ
with_descriptors mem place (number ∷ numbers) (piece ∷ pieces) readable =
    let with_first = with_descriptor mem place number (piece_descriptor piece readable pieces numbers) in
    with_descriptors with_first place numbers pieces (readable - 1)
with_descriptors mem place _ _ readable = mem

-- the owners after these descriptors went out in the chain of a head
abbrev pub owners_with : List (Option ℕ) → List ℕ → ℕ → List (Option ℕ)
owners_with owners [] head = owners
owners_with owners (number ∷ numbers) head = owners_with (slice_set owners number (Some head)) numbers head

-- the head of a chain of so many pieces, or how many descriptors are free where they are fewer
abbrev pub post_answer : DriverEndState → ℕ → Result ℕ PostErr
post_answer end count =
    if nat_lt (length end.pool.free) count then Err (Full (length end.pool.free)) else Ok (first_free end.pool.free)

-- the pool after a chain of so many pieces went out
abbrev pub pool_after_post : PoolState → ℕ → PoolState
pool_after_post pool count = record {
  owners = owners_with pool.owners (chain_numbers count pool.free) (first_free pool.free);
  free = take (length pool.free - count) pool.free;
}

-- the end after a chain of so many pieces was posted
abbrev pub after_post : DriverEndState → ℕ → DriverEndState
after_post end count = record end { next = index_after end.next; pool = pool_after_post end.pool count }

-- the memory after a chain of these pieces was posted
abbrev pub with_post : List ℕ → DriverEndState → List Piece → ℕ → List ℕ
with_post mem end pieces readable =
    let numbers = chain_numbers (length pieces) end.pool.free in
    let with_table = with_descriptors mem end.place numbers pieces readable in
    with_available_entry with_table end.place end.next (first_free end.pool.free)

-- the address lies in a descriptor that is free
abbrev pub IsInFreeDescriptor : Place → List (Option ℕ) → ℕ → Type 0
IsInFreeDescriptor place owners addr =
    (number : ℕ) × (number < place.size) × (owner_of owners number ≡ None)
    × IsInRange (descriptor_addr place number) descriptor_bytes addr

-- the address is one that a post may change
abbrev pub IsInPost : DriverEndState → ℕ → Type 0
IsInPost end addr = IsInFreeDescriptor end.place end.pool.owners addr ⊎ IsInAvailableEntry end.place end.next addr

-- ---- a chain comes back

-- the used element in a slot, where it names the head of a chain that is out
abbrev pub element_in_slot : List ℕ → Place → PoolState → ℕ → Result (Option (ℕ × ℕ)) TakeErr
element_in_slot mem place pool index =
    let element = used_element_addr place index in
    let id = le32_at mem element in
    if is_chain_head pool.owners id then Ok (Some (id, le32_at mem (element + 4))) else Err (BadId id)

-- what a take gives of the used ring at an index: nothing where the indexes are equal, else the next element
unfoldable pub take_answer : List ℕ → Place → PoolState → ℕ → Result (Option (ℕ × ℕ)) TakeErr
take_answer mem place pool index =
    let idx = used_idx mem place in
    if idx == index then Ok None
    else (if nat_lt place.size (index_gap index idx) then Err (IdxJump idx)
    else element_in_slot mem place pool index)

-- the end after it took the chain of a head
abbrev pub after_take : DriverEndState → ℕ → DriverEndState
after_take end head = record end { used = index_after end.used; pool = after_release end.pool head }
