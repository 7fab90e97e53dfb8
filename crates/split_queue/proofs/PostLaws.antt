-- One byte of a cleared area, and one descriptor of a posted chain.
use Rattle.std.proofs.Common.{◌≡◌, ℕ, suc, ◌+◌, ◌-◌, ◌^◌, ◌<◌, ◌⊎◌, inl, inr, List, [], ◌∷◌, ◌++◌, length, length-append, length-drop, length-set, take, drop, reverse, get_or, Option, Some, None, add-one, refl, sym, ap, ◌∙◌, arith}
use Rattle.std.proofs.Math.ListN.{set}
use Rattle.std.proofs.Math.Seq.{drop-cons}
use Rattle.std.proofs.lemmas.Bool.{cases_lt, cases_eq}
use Rattle.std.proofs.lemmas.List.{reverse-append, take_all, take_at, take-take, get_or-set_other}
use Rattle.std.specs.List.{All}
use Rattle.std.proofs.lemmas.List.Elements.{All-nil, All-more}
use Rattle.guest_mem.specs.Memory.{ChangesOnly, IsInRange, WritesAt}
use Rattle.guest_mem.proofs.Changes.{changes-none, changes-then}
use Rattle.split_queue.specs.Descriptors.{with_descriptor}
use Rattle.split_queue.specs.DriverEnds.{DriverEndState, IsInFreeDescriptor, IsInPost, chain_numbers, piece_descriptor, with_descriptors, owners_with}
use Rattle.split_queue.specs.QueuePlaces.{descriptor_addr, descriptor_bytes, used_bytes}
use Rattle.split_queue.specs.Pools.{PoolState, owner_of, first_free}
use Rattle.split_queue.proofs.LinkLaws.{claim-known, head-out}
use Rattle.split_queue.specs.Rings.{ClearsArea, ClearsRings, IsInRings, IsInAvailableEntry}
use Rattle.split_queue.specs.Setup.{IsInArea, available_area, used_area}
use Rattle.split_queue.specs.declared.queue_place.Place.{Place}
use Rattle.split_queue.specs.declared.chain.Piece.{Piece}

-- ---- clearing

pub clears-none : (mem : List ℕ) (start : ℕ) → ClearsArea mem mem (record { start = start; len = 0 })
clears-none mem start = record { zeros = λ addr inside. absurd (omega arith); only = changes-none mem (IsInRange start 0) }

pub clears-more : (before mem after : List ℕ) (start k : ℕ) → WritesAt mem after (start + k) (0 ∷ []) → ClearsArea before mem (record { start = start; len = k }) → ClearsArea before after (record { start = start; len = k + 1 })
clears-more before mem after start k writes so_far = record {
  zeros = λ addr inside. elim (cases_lt addr (start + k)) [
    | inl l ↦ writes.only.others addr (λ here. omega arith) ∙ so_far.zeros addr (omega arith, l)
    | inr g ↦
        let e : addr ≡ start + k + 0 = omega arith in
        ap (λ a. get_or after a 0) e ∙ writes.here 0 (omega arith)
  ];
  only = changes-then before mem after (IsInRange start k) (IsInRange (start + k) 1) (IsInRange start (k + 1)) (λ addr inside. (omega arith, omega arith)) (λ addr inside. (omega arith, omega arith)) so_far.only writes.only;
}

-- both rings, one after the other
pub clears-both : (before mem after : List ℕ) (place : Place) → ClearsArea before mem (available_area place) → ClearsArea mem after (used_area place) → ClearsRings before after place
clears-both before mem after place first second = record {
  zeros = λ addr inside. elim inside [
    | inl available ↦ elim (cases_lt addr place.used) [
      | inl l ↦ second.only.others addr (λ used. omega arith) ∙ first.zeros addr available
      | inr g ↦ elim (cases_lt addr (place.used + used_bytes place.size)) [
        | inl l ↦ second.zeros addr (g, l)
        | inr past ↦ second.only.others addr (λ used. omega arith) ∙ first.zeros addr available
      ]
    ]
    | inr used ↦ second.zeros addr used
  ];
  only = changes-then before mem after (IsInArea (available_area place)) (IsInArea (used_area place)) (IsInRings place) (λ addr inside. inl inside) (λ addr inside. inr inside) first.only second.only;
}

-- ---- posting

-- the descriptors, and the entry of the available ring
pub changes-with_post : (before mem after : List ℕ) (end : DriverEndState) → ChangesOnly before mem (IsInFreeDescriptor end.place end.pool.owners) → ChangesOnly mem after (IsInAvailableEntry end.place end.next) → ChangesOnly before after (IsInPost end)
changes-with_post before mem after end = changes-then before mem after (IsInFreeDescriptor end.place end.pool.owners) (IsInAvailableEntry end.place end.next) (IsInPost end) (λ addr free. inl free) (λ addr entry. inr entry)

-- after some pieces: what is left still gives the whole, and nothing but free descriptors was changed
pub record IsPosting (place : Place) (head : ℕ) (before : List ℕ) (pieces : List Piece) (readable : ℕ) (pool : PoolState) (i : ℕ) (mem : List ℕ) (now : PoolState) : Type 0 where
  pub memory : with_descriptors mem place (chain_numbers (length pieces - i) now.free) (drop i pieces) (readable - i) ≡ with_descriptors before place (chain_numbers (length pieces) pool.free) pieces readable
  pub owners : owners_with now.owners (chain_numbers (length pieces - i) now.free) head ≡ owners_with pool.owners (chain_numbers (length pieces) pool.free) head
  pub free : now.free ≡ take (length pool.free - i) pool.free
  pub left : length now.free + i ≡ length pool.free
  pub same_size : length now.owners ≡ length pool.owners
  pub known : (first_free now.free ≡ head) ⊎ (owner_of now.owners head ≡ Some head)
  pub was_free : (number : ℕ) → owner_of now.owners number ≡ None → owner_of pool.owners number ≡ None
  pub only : ChangesOnly before mem (IsInFreeDescriptor place pool.owners)
  pub lens : All (λ p. p.len < 2 ^ 32) (take i pieces)

module _ (place : Place) (head : ℕ) (before : List ℕ) (pieces : List Piece) (readable : ℕ) (pool : PoolState) where
  pub posting-none : head ≡ first_free pool.free → IsPosting place head before pieces readable pool 0 before pool
  posting-none first =
      let turns : length pieces - 0 ≡ length pieces = omega arith in
      let ahead : readable - 0 ≡ readable = omega arith in
      let all : length pool.free - 0 ≡ length pool.free = omega arith in
      record {
        memory = rw (turns, ahead) refl;
        owners = rw turns refl;
        free = rw all (sym (take_all (length pool.free) pool.free (omega arith)));
        left = omega arith;
        same_size = refl;
        known = inl (sym first);
        was_free = λ number none. none;
        only = changes-none before (IsInFreeDescriptor place pool.owners);
        lens = All-nil (λ (p : Piece). p.len < 2 ^ 32);
      }

  module _ (mem after : List ℕ) (now later : PoolState) (i number : ℕ) (d : Piece) (below : i < length pieces) (so_far : IsPosting place head before pieces readable pool i mem now) where
    pub posting-more : now.free ≡ later.free ++ number ∷ [] → later.owners ≡ set now.owners number (Some head) → owner_of now.owners number ≡ None → number < length now.owners → number < place.size → after ≡ with_descriptor mem place number (piece_descriptor (get_or pieces i d) (readable - i) (drop (i + 1) pieces) (chain_numbers (length (drop (i + 1) pieces)) later.free)) → ChangesOnly mem after (IsInRange (descriptor_addr place number) descriptor_bytes) → (get_or pieces i d).len < 2 ^ 32 → IsPosting place head before pieces readable pool (i + 1) after later
    posting-more claimed owned none inside within is_after changes small =
        let len_later : length (drop (i + 1) pieces) ≡ length pieces - (i + 1) = length-drop (i + 1) pieces in
        let turns : length pieces - i ≡ suc (length (drop (i + 1) pieces)) = omega (arith, len_later) in
        let backwards : reverse now.free ≡ number ∷ reverse later.free = ap reverse claimed ∙ reverse-append later.free (number ∷ []) in
        let given_now : chain_numbers (length pieces - i) now.free ≡ number ∷ chain_numbers (length (drop (i + 1) pieces)) later.free = rw (turns, backwards) refl in
        let pieces_now : drop i pieces ≡ get_or pieces i d ∷ drop (i + 1) pieces = rw add-one (drop-cons pieces i d below) in
        let readable_later : readable - i - 1 ≡ readable - (i + 1) = omega arith in
        let len_now : length now.free ≡ length later.free + 1 = ap length claimed ∙ length-append later.free (number ∷ []) in
        let short : length later.free ≡ length pool.free - (i + 1) = omega (arith, so_far.left) in
        let memory_now : with_descriptors mem place (chain_numbers (length pieces - i) now.free) (drop i pieces) (readable - i) ≡ with_descriptors after place (chain_numbers (length pieces - (i + 1)) later.free) (drop (i + 1) pieces) (readable - (i + 1)) = rw (given_now, pieces_now, is_after, ← len_later, ← readable_later) refl in
        let owners_now : owners_with now.owners (chain_numbers (length pieces - i) now.free) head ≡ owners_with later.owners (chain_numbers (length pieces - (i + 1)) later.free) head = rw (given_now, owned, ← len_later) refl in
        record {
          memory = sym memory_now ∙ so_far.memory;
          owners = sym owners_now ∙ so_far.owners;
          free = sym (ap (take (length later.free)) claimed ∙ take_at later.free (number ∷ []) (length later.free) refl)
              ∙ ap (take (length later.free)) so_far.free ∙ take-take (length later.free) (length pool.free - i) pool.free (omega (arith, short)) ∙ ap (λ k. take k pool.free) short;
          left = omega (arith, so_far.left);
          same_size = ap length owned ∙ length-set now.owners number (Some head) ∙ so_far.same_size;
          known = inr (ap (λ (os : List (Option ℕ)). owner_of os head) owned ∙ head-out now.owners number head inside (claim-known now.owners now.free later.free number head claimed so_far.known));
          was_free = λ n free. elim (cases_eq n number) [
            | inl same ↦ rw same (so_far.was_free number none)
            | inr apart ↦ so_far.was_free n (sym (get_or-set_other now.owners number n (Some head) None apart) ∙ sym (ap (λ (os : List (Option ℕ)). owner_of os n) owned) ∙ free)
          ];
          only = changes-then before mem after (IsInFreeDescriptor place pool.owners) (IsInRange (descriptor_addr place number) descriptor_bytes) (IsInFreeDescriptor place pool.owners) (λ addr free. free) (λ addr inside. (number, within, so_far.was_free number none, inside)) so_far.only changes;
          lens = All-more (λ (p : Piece). p.len < 2 ^ 32) pieces i d below so_far.lens small;
        }
