-- The walk from a head along the descriptors of its chain, in its own words: distinct descriptors from the head on,
-- each one named by the one before it. A chain holds the buffers of the longest walk. Beside it stands the chain of a
-- head, or its first fault, as a function (Virtio 1.4 draft, "The Virtqueue Descriptor Table"; which faults there are,
-- and their order, are this project's own).
use Rattle.std.specs.Prelude.{◌≡◌, ◌≢◌, ℕ, zero, suc, ◌+◌, ◌-◌, ◌<◌, ◌≤◌, ◌==◌, ◌&&◌, true, false, not, nat_lt, nat_le, if◌then◌else◌, List, [], ◌∷◌, ◌++◌, length, take, slice_index, Option, Some, None, Result, Ok, Err}
use Rattle.std.specs.List.{list_any, flat_map}
use Rattle.std.specs.Option.{option_or}
use Rattle.guest_mem.specs.Memory.{bytes_at}
use Rattle.split_queue.specs.Chains.{most_descriptors, most_readable}
use Rattle.split_queue.specs.Descriptors.{descriptor_at, has_next, is_writable, is_indirect}
use Rattle.split_queue.specs.declared.chain.Chain.{Chain}
use Rattle.split_queue.specs.declared.chain.Piece.{Piece}
use Rattle.split_queue.specs.declared.descriptor.Descriptor.{Descriptor}
use Rattle.split_queue.specs.declared.queue_place.Place.{Place}
use Rattle.split_queue.specs.declared.error.RingErr.{RingErr}
use Rattle.split_queue.specs.declared.error.RingErr.TheVariants as fault

-- ---- the walk

-- the chain goes on after a descriptor, at the one that its next field names
pub record NamesNext (mem : List ℕ) (place : Place) (number next : ℕ) : Type 0 where
  pub goes_on : has_next (descriptor_at mem place number) ≡ true
  pub next_is : (descriptor_at mem place number).next ≡ next

-- distinct descriptors of the table from the head on, each named by the one before
pub record IsWalk (mem : List ℕ) (place : Place) (head : ℕ) (walk : List ℕ) : Type 0 where
  pub some : 0 < length walk
  pub begins : slice_index walk 0 ≡ head
  pub below : (k : ℕ) → k < length walk → slice_index walk k < place.size
  pub distinct : (j k : ℕ) → j < k → k < length walk → slice_index walk j ≢ slice_index walk k
  pub names_next : (k : ℕ) → suc k < length walk → NamesNext mem place (slice_index walk k) (slice_index walk (suc k))

-- the buffer of a descriptor
abbrev pub buffer_of : Descriptor → Piece
buffer_of d = record { addr = d.addr; len = d.len }

-- the bytes of the readable buffers, joined
abbrev pub readable_bytes : List ℕ → Place → List ℕ → List ℕ
readable_bytes mem place walk =
    flat_map (λ n. let d = descriptor_at mem place n in if is_writable d then [] else bytes_at mem d.addr d.len) walk

-- the writable buffers, in order
abbrev pub writable_pieces : List ℕ → Place → List ℕ → List Piece
writable_pieces mem place walk =
    flat_map (λ n. let d = descriptor_at mem place n in if is_writable d then buffer_of d ∷ [] else []) walk

-- the chain of a head with the buffers of these descriptors
abbrev pub chain_along : List ℕ → Place → ℕ → List ℕ → Chain
chain_along mem place head walk = record {
  head = head;
  readable = record { items = readable_bytes mem place walk };
  writable = record { items = writable_pieces mem place walk };
}

-- ---- the faults of a descriptor

-- the fault of a descriptor's buffer, where this chain was gathered before it
unfoldable pub buffer_fault : List ℕ → Chain → ℕ → Descriptor → Option RingErr
buffer_fault mem chain number d =
    if is_indirect d then Some (fault.Indirect number)
    else (if not (is_writable d) && not (length chain.writable.items == 0) then Some (fault.Order number)
    else (if not (nat_le (d.addr + d.len) (length mem)) then Some (fault.Outside number)
    else (if not (is_writable d) && nat_lt most_readable (length chain.readable.items + d.len)
    then Some (fault.TooLong number)
    else None)))

-- the fault of a descriptor's next field, where these stand in the chain up to it
unfoldable pub next_fault : Place → List ℕ → ℕ → Descriptor → Option RingErr
next_fault place visited number d =
    if not (has_next d) then None
    else (if nat_le place.size d.next then Some (fault.BadNext number)
    else (if list_any (λ n. n == d.next) visited then Some (fault.Loop number)
    else None))

-- the fault of a descriptor's place in its walk, where so many stand before it: one follows the last that a chain may
-- have
abbrev pub count_fault : ℕ → ℕ → Descriptor → Option RingErr
count_fault before number d =
    if has_next d && (before + 1 == most_descriptors) then Some (fault.TooMany number) else None

-- the first fault of the descriptor at a position of a walk: its buffer's, after what was gathered before it; its next
-- field's, after the walk up to it; or that of its place
unfoldable pub fault_in_walk : List ℕ → Place → List ℕ → ℕ → Option RingErr
fault_in_walk mem place walk k =
    let number = slice_index walk k in
    let d = descriptor_at mem place number in
    let before = chain_along mem place (slice_index walk 0) (take k walk) in
    option_or (buffer_fault mem before number d)
    (option_or (next_fault place (take (k + 1) walk) number d) (count_fault k number d))

-- the chain holds the buffers of a walk from its head, which is the longest one, and in which no descriptor has a fault
pub record HoldsWalk (mem : List ℕ) (place : Place) (chain : Chain) (walk : List ℕ) : Type 0 where
  pub is_walk : IsWalk mem place chain.head walk
  pub longest : (other : List ℕ) → IsWalk mem place chain.head other → length other ≤ length walk
  pub readable : chain.readable.items ≡ readable_bytes mem place walk
  pub writable : chain.writable.items ≡ writable_pieces mem place walk
  pub few : length walk ≤ most_descriptors
  pub sound : (k : ℕ) → k < length walk → fault_in_walk mem place walk k ≡ None

-- the chain holds the buffers of the longest walk from its head
abbrev pub HasWalk : List ℕ → Place → Chain → Type 0
HasWalk mem place chain = (walk : List ℕ) × HoldsWalk mem place chain walk

-- ---- the chain of a head, descriptor by descriptor

-- a chain of which nothing was gathered yet
abbrev pub bare_chain : ℕ → Chain
bare_chain head = record { head = head; readable = record { items = [] }; writable = record { items = [] } }

-- the chain with a descriptor's buffer: the bytes that the device reads, or the piece that it writes
abbrev pub with_buffer : List ℕ → Chain → Descriptor → Chain
with_buffer mem chain d =
    if is_writable d then record chain { writable = record { items = chain.writable.items ++ buffer_of d ∷ [] } }
    else record chain { readable = record { items = chain.readable.items ++ bytes_at mem d.addr d.len } }

-- what a buffer without a fault has room for
pub record BufferFits (mem : List ℕ) (chain : Chain) (d : Descriptor) : Type 0 where
  pub inside : d.addr + d.len ≤ length mem
  pub short : is_writable d ≡ false → length chain.readable.items + d.len ≤ most_readable

-- what a descriptor says of its chain: its first fault, or the number of the one that follows, if one does
unfoldable pub next_in_chain : List ℕ → Place → List ℕ → Chain → ℕ → Result (Option ℕ) RingErr
next_in_chain mem place visited chain number =
    let d = descriptor_at mem place number in
    elim (buffer_fault mem chain number d) [
      | Some f ↦ Err f
      | None ↦ elim (next_fault place visited number d) [
        | Some f ↦ Err f
        | None ↦ if has_next d then Ok (Some d.next) else Ok None
      ]
    ]

-- the chain from a descriptor on, where these stand in it up to this one, this much was gathered before it, and so many
-- more may follow
unfoldable pub chain_from : List ℕ → Place → List ℕ → Chain → ℕ → ℕ → Result Chain RingErr
chain_from mem place visited chain zero number =
    elim (next_in_chain mem place visited chain number) [
      | Err f ↦ Err f
      | Ok next ↦ elim next [
        | Some _ ↦ Err (fault.TooMany number)
        | None ↦ Ok (with_buffer mem chain (descriptor_at mem place number))
      ]
    ]
chain_from mem place visited chain (suc more) number =
    elim (next_in_chain mem place visited chain number) [
      | Err f ↦ Err f
      | Ok next ↦
          let longer = with_buffer mem chain (descriptor_at mem place number) in
          elim next [ Some n ↦ chain_from mem place (visited ++ n ∷ []) longer more n | None ↦ Ok longer ]
    ]

-- the chain of a head, or its first fault
unfoldable pub chain_of : List ℕ → Place → ℕ → Result Chain RingErr
chain_of mem place head = chain_from mem place (head ∷ []) (bare_chain head) (most_descriptors - 1) head
