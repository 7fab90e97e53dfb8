-- What the rings say after a chain was posted and after one was given back, and which bytes that leaves alone.
use Rattle.std.proofs.Common.{◌≡◌, ◌≢◌, ℕ, zero, suc, ◌+◌, ◌-◌, ◌^◌, ◌<◌, ◌≤◌, ◌==◌, inl, inr, Bool, true, false, cond, nat_lt, List, [], ◌∷◌, length, take, reverse, get_or, Option, Some, None, Ok, Err, refl, ◌∙◌, arith}
use Rattle.std.specs.List.{All}
use Rattle.std.proofs.Math.ListN.{set}
use Rattle.std.proofs.lemmas.Bool.{cases_eq, eq-eqb, ne_eqb, le-ltb, ltb-false}
use Rattle.std.proofs.lemmas.List.{get_or-set_same, get_or-set_other}
use Rattle.std.proofs.lemmas.List.Elements.{All-head, All-tail}
use Rattle.guest_mem.specs.Memory.{ChangesOnly, IsInRange}
use Rattle.guest_mem.proofs.Changes.{changes-none, changes-then}
use Rattle.byte_numbers.specs.Numbers.{le16_at, le32_at}
use Rattle.split_queue.specs.Descriptors.{with_le16, with_le32, with_descriptor}
use Rattle.split_queue.specs.DriverEnds.{DriverEndState, chain_numbers, piece_descriptor, with_descriptors, owners_with, post_answer, take_answer}
use Rattle.split_queue.specs.QueuePlaces.{available_slot_addr, available_idx_addr, descriptor_addr, descriptor_bytes, table_bytes, available_bytes, used_bytes, used_idx_addr, used_element_addr}
use Rattle.split_queue.specs.Pools.{PoolState, owner_of, AreFree}
use Rattle.split_queue.specs.Rings.{available_idx, index_after, index_gap, with_used_entry, with_available_entry}
use Rattle.split_queue.specs.Setup.{IsInArea, table_area, available_area, used_area}
use Rattle.split_queue.specs.declared.queue_place.Place.{Place}
use Rattle.split_queue.specs.declared.chain.Piece.{Piece}
use Rattle.split_queue.specs.declared.error.PostErr.TheVariants.{Full}
use Rattle.split_queue.proofs.ChainNumbers.{AreFree-chain_numbers, AreFree-below}
use Rattle.split_queue.proofs.PoolLaws.{in_range}
use Rattle.split_queue.proofs.ReadLaws.{le32_at-outside, le16_at-with_le16, le32_at-with_le32, with_le16-changes, with_le32-changes, with_descriptor-changes}

-- ---- indexes

pub index_after-differs : (index : ℕ) → index < 2 ^ 16 → index_after index ≢ index
index_after-differs index small same = omega (arith, same)

pub index_after-small : (index : ℕ) → index_after index < 2 ^ 16
index_after-small index = omega arith

pub index_gap-one : (index : ℕ) → index < 2 ^ 16 → index_gap index (index_after index) ≡ 1
index_gap-one index small = omega arith

-- ---- which bytes are changed

-- a range within another
in-wider : (at many start count : ℕ) → start ≤ at → at + many ≤ start + count → (addr : ℕ) → IsInRange at many addr → IsInRange start count addr
in-wider at many start count low high addr inside = (omega arith, omega arith)

-- one change after another, both in one range
changes-within : (before mem after : List ℕ) (start count first many second few : ℕ) → ChangesOnly before mem (IsInRange first many) → ChangesOnly mem after (IsInRange second few) → start ≤ first → first + many ≤ start + count → start ≤ second → second + few ≤ start + count → ChangesOnly before after (IsInRange start count)
changes-within before mem after start count first many second few one two low high below above =
    changes-then before mem after (IsInRange first many) (IsInRange second few) (IsInRange start count) (in-wider first many start count low high) (in-wider second few start count below above) one two

pub with_descriptors-changes : (place : Place) (numbers : List ℕ) (pieces : List Piece) (readable : ℕ) (mem : List ℕ) → place.desc + table_bytes place.size ≤ length mem → All (λ n. n < place.size) numbers → ChangesOnly mem (with_descriptors mem place numbers pieces readable) (IsInArea (table_area place))
with_descriptors-changes place [] pieces readable mem inside below = changes-none mem (IsInArea (table_area place))
with_descriptors-changes place (number ∷ numbers) [] readable mem inside below = changes-none mem (IsInArea (table_area place))
with_descriptors-changes place (number ∷ numbers) (piece ∷ pieces) readable mem inside below =
    let d = piece_descriptor piece readable pieces numbers in
    let here : number < place.size = All-head (λ n. n < place.size) number numbers below in
    let one : ChangesOnly mem (with_descriptor mem place number d) (IsInRange (descriptor_addr place number) descriptor_bytes) = with_descriptor-changes mem place number d (omega arith) in
    let size = one.size in
    let later = with_descriptors-changes place numbers pieces (readable - 1) (with_descriptor mem place number d) (omega (arith, size)) (All-tail (λ n. n < place.size) number numbers below) in
    changes-within _ _ _ _ _ _ _ _ _ one later (omega arith) (omega arith) (omega arith) (omega arith)

-- ---- the available ring

module _ (mem : List ℕ) (place : Place) (index head : ℕ) (some : 0 < place.size) (inside : place.avail + available_bytes place.size ≤ length mem) where
  pub with_available_entry-changes : ChangesOnly mem (with_available_entry mem place index head) (IsInArea (available_area place))
  unfolding with_available_entry
  with_available_entry-changes =
      let slot = available_slot_addr place index in
      let one = with_le16-changes mem slot head (omega arith) in
      let size = one.size in
      changes-within _ _ _ _ _ _ _ _ _ one (with_le16-changes _ (available_idx_addr place) (index_after index) (omega (arith, size))) (omega arith) (omega arith) (omega arith) (omega arith)

  pub with_available_entry-idx : available_idx (with_available_entry mem place index head) place ≡ index_after index
  unfolding with_available_entry
  with_available_entry-idx =
      let size = (with_le16-changes mem (available_slot_addr place index) head (omega arith)).size in
      le16_at-with_le16 _ (available_idx_addr place) (index_after index) (omega (arith, size)) (index_after-small index)

-- ---- the used ring

-- the element of an index, and the ring's index after it
pub record HasElement (mem : List ℕ) (place : Place) (index head len : ℕ) : Type 0 where
  pub is_head : le32_at mem (used_element_addr place index) ≡ head
  pub is_len : le32_at mem (used_element_addr place index + 4) ≡ len
  pub idx : le16_at mem (used_idx_addr place) ≡ index_after index

-- the memories between the three writes
module _ (mem : List ℕ) (place : Place) (index head len : ℕ) (some : 0 < place.size) (inside : place.used + used_bytes place.size ≤ length mem) where
  abbrev element : ℕ
  element = used_element_addr place index

  abbrev with_head : List ℕ
  with_head = with_le32 mem element head

  abbrev with_len : List ℕ
  with_len = with_le32 with_head (element + 4) len

  abbrev with_idx : List ℕ
  with_idx = with_le16 with_len (used_idx_addr place) (index_after index)

  slot-inside : element + 8 ≤ place.used + used_bytes place.size
  slot-inside = omega arith

  head-changes : ChangesOnly mem with_head (IsInRange element 4)
  head-changes = with_le32-changes mem element head (omega (arith, slot-inside))

  len-changes : ChangesOnly with_head with_len (IsInRange (element + 4) 4)
  len-changes = with_le32-changes with_head (element + 4) len (omega (arith, slot-inside, head-changes.size))

  idx-changes : ChangesOnly with_len with_idx (IsInRange (used_idx_addr place) 2)
  idx-changes = with_le16-changes with_len (used_idx_addr place) (index_after index) (omega (arith, head-changes.size, len-changes.size))

  pub with_used_entry-changes : ChangesOnly mem (with_used_entry mem place index head len) (IsInArea (used_area place))
  unfolding with_used_entry
  with_used_entry-changes =
      let both : ChangesOnly mem with_len (IsInArea (used_area place)) = changes-within _ _ _ _ _ _ _ _ _ head-changes len-changes (omega arith) (omega (arith, slot-inside)) (omega arith) (omega (arith, slot-inside)) in
      changes-within _ _ _ _ _ _ _ _ _ both idx-changes (omega arith) (omega arith) (omega arith) (omega arith)

  pub with_used_entry-element : head < 2 ^ 32 → len < 2 ^ 32 → HasElement (with_used_entry mem place index head len) place index head len
  unfolding with_used_entry
  with_used_entry-element small short = record {
    is_head = le32_at-outside with_len with_idx (used_idx_addr place) 2 element idx-changes (inr (omega arith)) ∙ le32_at-outside with_head with_len (element + 4) 4 element len-changes (inl (omega arith)) ∙ le32_at-with_le32 mem element head (omega (arith, slot-inside)) small;
    is_len = le32_at-outside with_len with_idx (used_idx_addr place) 2 (element + 4) idx-changes (inr (omega arith)) ∙ le32_at-with_le32 with_head (element + 4) len (omega (arith, slot-inside, head-changes.size)) short;
    idx = le16_at-with_le16 with_len (used_idx_addr place) (index_after index) (omega (arith, head-changes.size, len-changes.size)) (index_after-small index);
  }

-- ---- a chain is posted, and one is taken

pub free-below : (owners : List (Option ℕ)) (free : List ℕ) (count : ℕ) → AreFree owners free → All (λ n. n < length owners) (chain_numbers count free)
free-below owners free count free_list = AreFree-below owners (chain_numbers count free) (AreFree-chain_numbers owners count free free_list)

owned-stays : (owners : List (Option ℕ)) (numbers : List ℕ) (head number : ℕ) → owner_of owners number ≡ Some head → owner_of (owners_with owners numbers head) number ≡ Some head
owned-stays owners [] head number owned = owned
owned-stays owners (n ∷ numbers) head number owned =
    let within : number < length owners = in_range owners number (rw owned refl) in
    owned-stays (set owners n (Some head)) numbers head number (elim (cases_eq number n) [
      | inl same ↦ rw (← same) (get_or-set_same owners number (Some head) None within)
      | inr apart ↦ get_or-set_other owners n number (Some head) None apart ∙ owned
    ])

pub first-is-owned : (owners : List (Option ℕ)) (numbers : List ℕ) (count : ℕ) → 0 < count → 0 < length numbers → get_or numbers 0 0 < length owners → owner_of (owners_with owners (take count numbers) (get_or numbers 0 0)) (get_or numbers 0 0) ≡ Some (get_or numbers 0 0)
first-is-owned owners [] count some there within = absurd (omega arith)
first-is-owned owners (n ∷ numbers) zero some there within = absurd (omega arith)
first-is-owned owners (n ∷ numbers) (suc count) some there within = owned-stays (set owners n (Some n)) (take count numbers) n n (get_or-set_same owners n (Some n) None within)

not_refused : {A E : Type 0} (b : Bool) (e : E) (x y : A) → cond b (Err e) (Ok x) ≡ Ok y → (b ≡ false) × (y ≡ x)
not_refused true e x y same = absurd (cc)
not_refused false e x y same = (refl, cc)

-- a post that isn't refused has descriptors for its pieces, and its head is the first of them
pub post-accepted : (driver : DriverEndState) (count first : ℕ) → post_answer driver count ≡ Ok first → (count ≤ length driver.pool.free) × (first ≡ get_or (reverse driver.pool.free) 0 0)
post-accepted driver count first posts =
    let facts = not_refused (nat_lt (length driver.pool.free) count) (Full (length driver.pool.free)) (get_or (reverse driver.pool.free) 0 0) first posts in
    (ltb-false (length driver.pool.free) count facts.0, facts.1)

-- the element of the chain that is out is taken
pub take_answer-element : (mem : List ℕ) (place : Place) (pool : PoolState) (index head len : ℕ) → 0 < place.size → index < 2 ^ 16 → owner_of pool.owners head ≡ Some head → HasElement mem place index head len → take_answer mem place pool index ≡ Ok (Some (head, len))
unfolding take_answer
take_answer-element mem place pool index head len some small owned has =
    let moved : (index_after index == index) ≡ false = ne_eqb (index_after index) index (index_after-differs index small) in
    let near = le-ltb place.size (index_gap index (index_after index)) (rw (index_gap-one index small) some) in
    rw (has.idx, moved, near, has.is_head, owned, eq-eqb head head refl, has.is_len) refl
