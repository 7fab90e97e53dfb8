-- How the chain from a descriptor unfolds by what the descriptor says.
use Rattle.std.proofs.Common.{◌≡◌, ℕ, zero, suc, ◌+◌, ◌-◌, ◌<◌, ◌≤◌, true, false, List, [], ◌∷◌, ◌++◌, length, length-append, cond, Some, None, Result, Ok, Err, refl, sym, ◌∙◌, arith}
use Rattle.guest_mem.specs.Memory.{bytes_at}
use Rattle.split_queue.specs.Chains.{most_descriptors}
use Rattle.split_queue.specs.Descriptors.{descriptor_at, is_writable}
use Rattle.split_queue.specs.Walks.{bare_chain, with_buffer, next_in_chain, chain_from, chain_of}
use Rattle.split_queue.specs.declared.queue_place.Place.{Place}
use Rattle.split_queue.specs.declared.descriptor.Descriptor.{Descriptor}
use Rattle.split_queue.specs.declared.chain.Chain.{Chain}
use Rattle.split_queue.specs.declared.error.RingErr.{RingErr}
use Rattle.split_queue.specs.declared.error.RingErr.TheVariants as fault

module _ (mem : List ℕ) (place : Place) (visited : List ℕ) (chain : Chain) where
  pub chain_from-fault : (more number : ℕ) (f : RingErr) → next_in_chain mem place visited chain number ≡ Err f → chain_from mem place visited chain more number ≡ Err f
  unfolding chain_from
  chain_from-fault zero number f e = rw (e, chain_from) refl
  chain_from-fault (suc more) number f e = rw (e, chain_from) refl

  pub chain_from-last : (more number : ℕ) → next_in_chain mem place visited chain number ≡ Ok None → chain_from mem place visited chain more number ≡ Ok (with_buffer mem chain (descriptor_at mem place number))
  unfolding chain_from
  chain_from-last zero number e = rw (e, chain_from) refl
  chain_from-last (suc more) number e = rw (e, chain_from) refl

  pub chain_from-many : (number n : ℕ) → next_in_chain mem place visited chain number ≡ Ok (Some n) → chain_from mem place visited chain zero number ≡ Err (fault.TooMany number)
  unfolding chain_from
  chain_from-many number n e = rw (e, chain_from) refl

  pub chain_from-next : (more number n : ℕ) → next_in_chain mem place visited chain number ≡ Ok (Some n) → chain_from mem place visited chain (suc more) number ≡ chain_from mem place (visited ++ n ∷ []) (with_buffer mem chain (descriptor_at mem place number)) more n
  unfolding chain_from
  chain_from-next more number n e = rw (e, chain_from) refl

  -- one turn of the walk
  pub follow : (counter number n : ℕ) (longer : List ℕ) (more_chain : Chain) (answer : Result Chain RingErr) → counter + 1 < most_descriptors → chain_from mem place visited chain (most_descriptors - 1 - counter) number ≡ answer → next_in_chain mem place visited chain number ≡ Ok (Some n) → longer ≡ visited ++ n ∷ [] → more_chain ≡ with_buffer mem chain (descriptor_at mem place number) → chain_from mem place longer more_chain (most_descriptors - 1 - (counter + 1)) n ≡ answer
  follow counter number n longer more_chain answer below left next is_longer is_more =
      let turns : most_descriptors - 1 - counter ≡ suc (most_descriptors - 1 - (counter + 1)) = omega arith in
      let left_now = rw turns at left in
      rw (is_longer, is_more) (sym (chain_from-next (most_descriptors - 1 - (counter + 1)) number n next) ∙ left_now)

-- a buffer adds at most one piece
pub pieces-with_buffer : (mem : List ℕ) (chain : Chain) (d : Descriptor) → length (with_buffer mem chain d).writable.items ≤ length chain.writable.items + 1
pieces-with_buffer mem chain d =
    elim (is_writable d) as (λ b. length (cond b (record chain { writable = record { items = chain.writable.items ++ record { addr = d.addr; len = d.len } ∷ [] } }) (record chain { readable = record { items = chain.readable.items ++ bytes_at mem d.addr d.len } })).writable.items ≤ length chain.writable.items + 1) [
      | true ↦ omega (arith, length-append chain.writable.items (record { addr = d.addr; len = d.len } ∷ []))
      | false ↦ omega arith
    ]

-- after some descriptors: the walk from here on still gives the head's chain, and there is room for what may follow
pub record IsWalking (mem : List ℕ) (place : Place) (head : ℕ) (visited : List ℕ) (chain : Chain) (counter number : ℕ) : Type 0 where
  pub rest : chain_from mem place visited chain (most_descriptors - 1 - counter) number ≡ chain_of mem place head
  pub visited_count : length visited ≡ counter + 1
  pub pieces : length chain.writable.items ≤ counter
  pub inside : number < place.size

starts : (mem : List ℕ) (place : Place) (head : ℕ) → head < place.size → IsWalking mem place head (head ∷ []) (bare_chain head) 0 head
unfolding chain_of
starts mem place head inside = record { rest = refl; visited_count = refl; pieces = omega arith; inside = inside }

-- the same, where the head alone was visited and the chain is bare
pub starts_bare : (mem : List ℕ) (place : Place) (head : ℕ) (visited : List ℕ) (chain : Chain) → head < place.size → visited ≡ head ∷ [] → chain ≡ bare_chain head → IsWalking mem place head visited chain 0 head
starts_bare mem place head visited chain inside is_head is_bare = rw (is_head, is_bare) (starts mem place head inside)

-- one turn of the walk
pub follows : (mem : List ℕ) (place : Place) (head : ℕ) (visited longer : List ℕ) (chain more : Chain) (counter number n : ℕ) → counter + 1 < most_descriptors → Ok (Some n) ≡ next_in_chain mem place visited chain number → longer ≡ visited ++ n ∷ [] → more ≡ with_buffer mem chain (descriptor_at mem place number) → n < place.size → IsWalking mem place head visited chain counter number → IsWalking mem place head longer more (counter + 1) n
follows mem place head visited longer chain more counter number n below next is_longer is_more inside so_far = record {
  rest = follow mem place visited chain counter number n longer more (chain_of mem place head) below so_far.rest (sym next) is_longer is_more;
  visited_count = rw is_longer (omega (arith, length-append visited (n ∷ []), so_far.visited_count));
  pieces = rw is_more (omega (arith, pieces-with_buffer mem chain (descriptor_at mem place number), so_far.pieces));
  inside = inside;
}

-- the walk's ends: at a fault, at a descriptor that none follows, and at the 64th where one follows
module _ (mem : List ℕ) (place : Place) (head : ℕ) (visited : List ℕ) (chain : Chain) (counter number : ℕ) (so_far : IsWalking mem place head visited chain counter number) where
  pub ends_at_fault : (f : RingErr) → Err f ≡ next_in_chain mem place visited chain number → Err f ≡ chain_of mem place head
  ends_at_fault f next = sym (chain_from-fault mem place visited chain (most_descriptors - 1 - counter) number f (sym next)) ∙ so_far.rest

  pub ends_at_last : (more : Chain) → Ok None ≡ next_in_chain mem place visited chain number → more ≡ with_buffer mem chain (descriptor_at mem place number) → Ok more ≡ chain_of mem place head
  ends_at_last more next is_more = rw is_more (sym (chain_from-last mem place visited chain (most_descriptors - 1 - counter) number (sym next)) ∙ so_far.rest)

  pub ends_at_64th : (n : ℕ) → most_descriptors ≤ counter + 1 → Ok (Some n) ≡ next_in_chain mem place visited chain number → Err (fault.TooMany number) ≡ chain_of mem place head
  ends_at_64th n last next =
      let none_left : most_descriptors - 1 - counter ≡ 0 = omega arith in
      sym (chain_from-many mem place visited chain number n (sym next)) ∙ (rw none_left at so_far.rest)
