-- What keeps the two ends of a queue in agreement.
use Rattle.std.proofs.Common.{◌≡◌, ℕ, ◌+◌, ◌-◌, ◌^◌, ◌<◌, ◌≤◌, ◌⊎◌, inl, inr, List, length, reverse, get_or, Some, None, Ok, refl, sym, ap, ◌∙◌, subst, arith}
use Rattle.std.specs.Int.{from_le_bytes, w16}
use Rattle.std.specs.List.{All}
use Rattle.std.proofs.lemmas.List.{length-reverse, get_or-reverse}
use Rattle.byte_numbers.proofs.NumberLaws.{le16_at-same}
use Rattle.guest_mem.specs.Memory.{bytes_at, ChangesOnly}
use Rattle.guest_mem.proofs.Bytes.{get_or-bytes_at}
use Rattle.guest_mem.proofs.Changes.{changes-wider, changes-then}
use Rattle.split_queue.specs.Agreement.{Agree, IsInQueue, IsClearOf, KeepsQueue, Round, IsRound, after_round}
use Rattle.split_queue.specs.Chains.{IsInPieces}
use Rattle.byte_numbers.specs.Numbers.{le16_at}
use Rattle.split_queue.specs.DeviceEnds.{DeviceEndState, device_start, after_pop, after_push}
use Rattle.split_queue.specs.DriverEnds.{DriverEndState, IsValidDriver, chain_numbers, with_descriptors, with_post, pool_after_post, after_post, take_answer, after_take}
use Rattle.split_queue.specs.QueuePlaces.{available_idx_addr, available_bytes, used_bytes, used_idx_addr}
use Rattle.split_queue.specs.Pools.{owner_of, first_free}
use Rattle.split_queue.specs.Rings.{index_after, with_used_entry, ClearsRings}
use Rattle.split_queue.specs.Setup.{IsInArea, table_area, available_area, used_area, LieApart, IsPlaced}
use Rattle.split_queue.specs.declared.queue_place.Place.{Place}
use Rattle.split_queue.specs.declared.chain.Piece.{Piece}
use Rattle.split_queue.specs.declared.setup.Area.{Area}
use Rattle.split_queue.proofs.ReleaseLaws.{after_release-free}
use Rattle.split_queue.proofs.PoolLaws.{free_at}
use Rattle.split_queue.proofs.ReadLaws.{le16_at-outside}
use Rattle.split_queue.proofs.RingLaws.{index_after-small, with_descriptors-changes, with_available_entry-changes, with_available_entry-idx, HasElement, with_used_entry-changes, with_used_entry-element, free-below, first-is-owned, post-accepted, take_answer-element}

-- ---- a fresh queue

zero-from_bytes : (bytes : List ℕ) → get_or bytes 0 0 ≡ 0 → get_or bytes 1 0 ≡ 0 → from_le_bytes w16 bytes ≡ 0
zero-from_bytes bytes low high = omega (arith, low, high)

le16_at-zero : (mem : List ℕ) (addr : ℕ) → ((k : ℕ) → addr ≤ k → k < addr + 2 → get_or mem k 0 ≡ 0) → le16_at mem addr ≡ 0
unfolding le16_at
le16_at-zero mem addr zero = zero-from_bytes (bytes_at mem addr 2) (get_or-bytes_at mem addr 2 0 (omega arith) ∙ zero (addr + 0) (omega arith) (omega arith)) (get_or-bytes_at mem addr 2 1 (omega arith) ∙ zero (addr + 1) (omega arith) (omega arith))

-- a driver's fresh end, and the device's whose indexes start at 0
pub fresh-agree : (end : DriverEndState) (before mem : List ℕ) → ClearsRings before mem end.place → end.mem_len ≡ length mem → end.next ≡ 0 → end.used ≡ 0 → Agree end (device_start end.place (length mem) 0) mem
fresh-agree end before mem clears size next used = record {
  place = refl;
  driver_memory = size;
  device_memory = refl;
  available_idx = le16_at-zero mem (available_idx_addr end.place) (λ k low high. clears.zeros k (inl (omega arith, omega arith))) ∙ sym next;
  available_next = sym next;
  used_idx = le16_at-zero mem (used_idx_addr end.place) (λ k low high. clears.zeros k (inr (omega arith, omega arith))) ∙ sym used;
  used_next = sym used;
  available_small = omega (arith, next);
  used_small = omega (arith, used);
}

-- ---- bytes outside of the queue

-- what keeps the bytes of the queue keeps the agreement
pub agree-kept : (driver : DriverEndState) (device : DeviceEndState) (before after : List ℕ) → Agree driver device before → KeepsQueue before after driver.place → Agree driver device after
agree-kept driver device before after agree kept = record {
  place = agree.place;
  driver_memory = agree.driver_memory ∙ sym kept.size;
  device_memory = agree.device_memory ∙ sym kept.size;
  available_idx = le16_at-same before after (available_idx_addr driver.place) (record { same = λ k low high. kept.others k (λ outside. outside (inr (inl (omega arith, omega arith)))) }) ∙ agree.available_idx;
  available_next = agree.available_next;
  used_idx = le16_at-same before after (used_idx_addr driver.place) (record { same = λ k low high. kept.others k (λ outside. outside (inr (inr (omega arith, omega arith)))) }) ∙ agree.used_idx;
  used_next = agree.used_next;
  available_small = agree.available_small;
  used_small = agree.used_small;
}

-- a byte of pieces that are clear of the queue is none of the queue's
clear-outside : (place : Place) (pieces : List Piece) → All (IsClearOf place) pieces → (addr : ℕ) → IsInPieces pieces addr → ¬ IsInQueue place addr
clear-outside place pieces clear addr (k, piece, below, is, inside) =
    let clear_here : IsClearOf place piece = rw is at (clear k piece below) in
    clear_here addr inside

pub pieces-keep : (before after : List ℕ) (place : Place) (pieces : List Piece) → ChangesOnly before after (IsInPieces pieces) → All (IsClearOf place) pieces → KeepsQueue before after place
pieces-keep before after place pieces changes clear = changes-wider before after (IsInPieces pieces) (λ addr. ¬ IsInQueue place addr) (clear-outside place pieces clear) changes

-- ---- a round

-- a number in one area is as it was where only another area was changed
le16_at-apart : (before after : List ℕ) (one other : Area) (addr : ℕ) → ChangesOnly before after (IsInArea one) → LieApart one other → other.start ≤ addr → addr + 2 ≤ other.start + other.len → le16_at after addr ≡ le16_at before addr
le16_at-apart before after one other addr changes apart low high = le16_at-outside before after one.start one.len addr changes (elim apart [ inl l ↦ inr (omega arith) | inr r ↦ inl (omega arith) ])

apart-sym : {A B : Type 0} → A ⊎ B → B ⊎ A
apart-sym either = elim either [ inl a ↦ inr a | inr b ↦ inl b ]

-- after a post and the pop of its chain
module _ (driver : DriverEndState) (device : DeviceEndState) (end : IsValidDriver driver) (before : List ℕ) (pieces : List Piece) (readable : ℕ) (agree : Agree driver device before) where
  abbrev place : Place
  place = driver.place

  abbrev numbers : List ℕ
  numbers = chain_numbers (length pieces) driver.pool.free

  abbrev table_memory : List ℕ
  table_memory = with_descriptors before place numbers pieces readable

  abbrev post_memory : List ℕ
  post_memory = with_post before driver pieces readable

  pub table-changes : ChangesOnly before table_memory (IsInArea (table_area place))
  table-changes =
      let below = subst (λ size. All (λ n. n < size) numbers) end.valid.same_size (free-below driver.pool.owners driver.pool.free (length pieces) end.free_list) in
      with_descriptors-changes place numbers pieces readable before (omega (arith, end.valid.placed.table, agree.driver_memory)) below

  available-inside : place.avail + available_bytes place.size ≤ length table_memory
  available-inside = omega (arith, end.valid.placed.available, agree.driver_memory, table-changes.size)

  pub slot-changes : ChangesOnly table_memory post_memory (IsInArea (available_area place))
  slot-changes = with_available_entry-changes table_memory place driver.next (first_free driver.pool.free) end.valid.placed.some available-inside

  pub post-changes : ChangesOnly before post_memory (IsInQueue place)
  post-changes = changes-then before table_memory post_memory (IsInArea (table_area place)) (IsInArea (available_area place)) (IsInQueue place) (λ addr inside. inl inside) (λ addr inside. inr (inl inside)) table-changes slot-changes

  pub with_post-agree : Agree (after_post driver (length pieces)) (after_pop device) post_memory
  with_post-agree = record {
    place = agree.place;
    driver_memory = agree.driver_memory ∙ sym (slot-changes.size ∙ table-changes.size);
    device_memory = agree.device_memory ∙ sym (slot-changes.size ∙ table-changes.size);
    available_idx = with_available_entry-idx table_memory place driver.next (first_free driver.pool.free) end.valid.placed.some available-inside;
    available_next = ap index_after agree.available_next;
    used_idx =
        le16_at-apart table_memory post_memory (available_area place) (used_area place) (used_idx_addr place) slot-changes end.valid.placed.available_used (omega arith) (omega arith)
        ∙ le16_at-apart before table_memory (table_area place) (used_area place) (used_idx_addr place) table-changes end.valid.placed.table_used (omega arith) (omega arith)
        ∙ agree.used_idx;
    used_next = agree.used_next;
    available_small = index_after-small driver.next;
    used_small = agree.used_small;
  }

-- after a push and the take of its element
module _ (driver : DriverEndState) (device : DeviceEndState) (placed : IsPlaced driver.place driver.mem_len) (mem : List ℕ) (agree : Agree driver device mem) (head len : ℕ) where
  abbrev push_memory : List ℕ
  push_memory = with_used_entry mem driver.place driver.used head len

  used-inside : driver.place.used + used_bytes driver.place.size ≤ length mem
  used-inside = omega (arith, placed.used, agree.driver_memory)

  element-changes : ChangesOnly mem push_memory (IsInArea (used_area driver.place))
  element-changes = with_used_entry-changes mem driver.place driver.used head len placed.some used-inside

  pub push-element : head < 2 ^ 32 → len < 2 ^ 32 → HasElement push_memory driver.place driver.used head len
  push-element small short = with_used_entry-element mem driver.place driver.used head len placed.some used-inside small short

  pub push-agree : HasElement push_memory driver.place driver.used head len → Agree (after_take driver head) (after_push device) push_memory
  push-agree has = record {
    place = agree.place;
    driver_memory = agree.driver_memory ∙ sym element-changes.size;
    device_memory = agree.device_memory ∙ sym element-changes.size;
    available_idx = le16_at-apart mem push_memory (used_area driver.place) (available_area driver.place) (available_idx_addr driver.place) element-changes (apart-sym placed.available_used) (omega arith) (omega arith) ∙ agree.available_idx;
    available_next = agree.available_next;
    used_idx = has.idx;
    used_next = ap index_after agree.used_next;
    available_small = agree.available_small;
    used_small = index_after-small driver.used;
  }

-- the whole round
module _ (driver : DriverEndState) (device : DeviceEndState) (round : Round) (end : IsValidDriver driver) (is_round : IsRound driver device round) where
  abbrev head : ℕ
  head = round.head

  abbrev driver_after_post : DriverEndState
  driver_after_post = after_post driver (length round.pieces)

  abbrev push_memory_of : List ℕ
  push_memory_of = with_used_entry round.at_push driver.place driver.used head round.len

  pub at_push-agree : Agree driver_after_post (after_pop device) round.at_push
  at_push-agree = agree-kept driver_after_post (after_pop device) (with_post round.at_post driver round.pieces round.readable) round.at_push (with_post-agree driver device end round.at_post round.pieces round.readable is_round.agree) is_round.keeps

  pub enough_free : (length round.pieces ≤ length driver.pool.free) × (head ≡ first_free driver.pool.free)
  enough_free = post-accepted driver (length round.pieces) head is_round.posts

  some_free : 0 < length driver.pool.free
  some_free = omega (arith, is_round.some, enough_free.0)

  -- the head is one of the queue's descriptors, and was free
  pub head-was_free : (head < length driver.pool.owners) × (owner_of driver.pool.owners head ≡ None)
  head-was_free =
      let backwards = get_or-reverse driver.pool.free 0 0 some_free in
      rw (enough_free.1, backwards) (free_at driver.pool.owners driver.pool.free (length driver.pool.free - 1 - 0) 0 (omega (arith, some_free)) end.free_list)

  head-below : head < length driver.pool.owners
  head-below = head-was_free.0

  -- it is out, in the chain that it heads
  head-is-owned : owner_of driver_after_post.pool.owners head ≡ Some head
  head-is-owned =
      let below = rw enough_free.1 at head-below in
      rw enough_free.1 (first-is-owned driver.pool.owners (reverse driver.pool.free) (length round.pieces) is_round.some (rw length-reverse some_free) below)

  pub at_take-is : round.at_take ≡ push_memory_of
  at_take-is = is_round.gives_back ∙ rw (is_round.agree.place, is_round.agree.used_next) refl

  pub element : HasElement push_memory_of driver.place driver.used head round.len
  element = push-element driver_after_post (after_pop device) end.valid.placed round.at_push at_push-agree head round.len (omega (arith, head-below, end.few)) is_round.short

  pub round-takes : take_answer round.at_take driver.place (pool_after_post driver.pool (length round.pieces)) driver.used ≡ Ok (Some (head, round.len))
  round-takes = rw at_take-is (take_answer-element push_memory_of driver.place (pool_after_post driver.pool (length round.pieces)) driver.used head round.len end.valid.placed.some is_round.agree.used_small head-is-owned element)

  pub round-agrees : Agree (after_round driver round) (after_push (after_pop device)) round.at_take
  round-agrees = rw at_take-is (push-agree driver_after_post (after_pop device) end.valid.placed round.at_push at_push-agree head round.len element)

  pub round-frees : length (after_round driver round).pool.free ≡ length driver.pool.free
  round-frees =
      after_release-free driver.pool (length round.pieces) head end.heads head-was_free.1 end.free_list enough_free.0 enough_free.1
