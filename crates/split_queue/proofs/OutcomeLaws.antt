-- What the walk from a head comes to: a chain that holds the buffers of the longest walk, or the first fault of a walk.
use Rattle.std.proofs.Common.{◌≡◌, ℕ, zero, suc, ◌+◌, ◌-◌, ◌<◌, inl, inr, List, [], ◌∷◌, ◌++◌, length, length-append, Option, Some, None, Result, Ok, Err, refl, sym, ap, ◌∙◌, subst, arith}
use Rattle.std.proofs.lemmas.Bool.{cases_lt, leb-false}
use Rattle.split_queue.specs.Chains.{most_descriptors}
use Rattle.split_queue.specs.Descriptors.{descriptor_at}
use Rattle.split_queue.specs.Errors.{HasWalkFault, IsChainFault, IsRingFault}
use Rattle.split_queue.specs.Walks.{bare_chain, next_in_chain, chain_from, chain_of, IsWalk, chain_along, fault_in_walk, HasWalk}
use Rattle.split_queue.proofs.ChainSteps.{chain_from-fault, chain_from-last, chain_from-many, chain_from-next}
use Rattle.split_queue.proofs.NextLaws.{next_in_chain-some, next_in_chain-none}
use Rattle.split_queue.proofs.BufferLaws.{chain_along-push}
use Rattle.split_queue.proofs.FaultLaws.{count_fault-last, count_fault-few, count_fault-many, fault_in_walk-front, fault_in_walk-err, fault_in_walk-ok, fault_in_walk-kind}
use Rattle.split_queue.proofs.WalkLaws.{head_walk, push_walk, longest_walk}
use Rattle.split_queue.specs.declared.queue_place.Place.{Place}
use Rattle.split_queue.specs.declared.chain.Chain.{Chain}
use Rattle.split_queue.specs.declared.error.RingErr.{RingErr}
use Rattle.split_queue.specs.declared.error.RingErr.TheVariants as fault

-- what is known where the walk comes to a descriptor: no one before it has a fault
record IsSoFar (mem : List ℕ) (place : Place) (head : ℕ) (front : List ℕ) (number : ℕ) : Type 0 where
  walk : IsWalk mem place head (front ++ number ∷ [])
  sound : (k : ℕ) → k < length front → fault_in_walk mem place (front ++ number ∷ []) k ≡ None

-- what the walk from a head comes to: a chain of that head, or a fault
abbrev Outcome : List ℕ → Place → ℕ → Result Chain RingErr → Type 0
Outcome mem place head (Ok chain) = (chain.head ≡ head) × HasWalk mem place chain
Outcome mem place head (Err f) = HasWalkFault mem place head f

module _ (mem : List ℕ) (place : Place) (head : ℕ) (front : List ℕ) (number : ℕ) (so_far : IsSoFar mem place head front number) where
  -- no fault up to the descriptor, where it has none either
  sound_here : fault_in_walk mem place (front ++ number ∷ []) (length front) ≡ None → (k : ℕ) → k < length (front ++ number ∷ []) → fault_in_walk mem place (front ++ number ∷ []) k ≡ None
  sound_here none k h = elim (cases_lt k (length front)) [
    | inl l ↦ so_far.sound k l
    | inr g ↦ let e : k ≡ length front = omega (arith, length-append front (number ∷ [])) in rw e none
  ]

  -- the walk stops at a fault
  stops : (f : RingErr) → fault_in_walk mem place (front ++ number ∷ []) (length front) ≡ Some f → HasWalkFault mem place head f
  stops f here =
      let len : length (front ++ number ∷ []) ≡ length front + 1 = length-append front (number ∷ []) in
      let last : length (front ++ number ∷ []) - 1 ≡ length front = omega arith in (
        front ++ number ∷ [],
        record { is_walk = so_far.walk; last = rw last here; before = λ k h. so_far.sound k (omega arith) },
      )

  -- it ends at a descriptor that none follows
  ends : length front < most_descriptors → next_in_chain mem place (front ++ number ∷ []) (chain_along mem place head front) number ≡ Ok None → HasWalk mem place (chain_along mem place head (front ++ number ∷ []))
  ends few e =
      let last = next_in_chain-none mem place (front ++ number ∷ []) (chain_along mem place head front) number e in
      let none = fault_in_walk-ok mem place head front number so_far.walk.begins None e ∙ count_fault-last (length front) number (descriptor_at mem place number) last in (
        front ++ number ∷ [],
        record {
          is_walk = so_far.walk;
          longest = longest_walk mem place head front number so_far.walk last;
          readable = refl;
          writable = refl;
          few = omega (arith, length-append front (number ∷ []));
          sound = sound_here none;
        },
      )

  module _ (n : ℕ) (e : next_in_chain mem place (front ++ number ∷ []) (chain_along mem place head front) number ≡ Ok (Some n)) where
    -- the 64th names one more
    stops_at_64th : length front + 1 ≡ most_descriptors → HasWalkFault mem place head (fault.TooMany number)
    stops_at_64th full =
        let names = (next_in_chain-some mem place (front ++ number ∷ []) (chain_along mem place head front) number n e).0 in
        stops (fault.TooMany number) (fault_in_walk-ok mem place head front number so_far.walk.begins (Some n) e ∙ count_fault-many (length front) number (descriptor_at mem place number) full names.goes_on)

    -- it goes on at the one that is named
    goes_on : length front + 1 < most_descriptors → IsSoFar mem place head (front ++ number ∷ []) n
    goes_on few =
        let facts = next_in_chain-some mem place (front ++ number ∷ []) (chain_along mem place head front) number n e in
        let none = fault_in_walk-ok mem place head front number so_far.walk.begins (Some n) e ∙ count_fault-few (length front) number (descriptor_at mem place number) few in
        record {
          walk = push_walk mem place head front number n so_far.walk facts.0 (leb-false place.size n facts.1) facts.2;
          sound = λ k h. fault_in_walk-front mem place (front ++ number ∷ []) (n ∷ []) k h ∙ sound_here none k h;
        }

outcome_from : (mem : List ℕ) (place : Place) (head more : ℕ) (front : List ℕ) (number : ℕ) (r : Result (Option ℕ) RingErr) → next_in_chain mem place (front ++ number ∷ []) (chain_along mem place head front) number ≡ r → length front + more + 1 ≡ most_descriptors → IsSoFar mem place head front number → Outcome mem place head (chain_from mem place (front ++ number ∷ []) (chain_along mem place head front) more number)
outcome_from mem place head more front number (Err f) e left so_far =
    let here = fault_in_walk-err mem place head front number so_far.walk.begins f e in
    subst (Outcome mem place head) (sym (chain_from-fault mem place (front ++ number ∷ []) (chain_along mem place head front) more number f e)) (stops mem place head front number so_far f here)
outcome_from mem place head more front number (Ok None) e left so_far =
    let is = chain_from-last mem place (front ++ number ∷ []) (chain_along mem place head front) more number e ∙ ap Ok (chain_along-push mem place head front number) in
    subst (Outcome mem place head) (sym is) (refl, ends mem place head front number so_far (omega arith) e)
outcome_from mem place head zero front number (Ok (Some n)) e left so_far =
    subst (Outcome mem place head) (sym (chain_from-many mem place (front ++ number ∷ []) (chain_along mem place head front) number n e)) (stops_at_64th mem place head front number so_far n e (omega arith))
outcome_from mem place head (suc more) front number (Ok (Some n)) e left so_far =
    let walk = front ++ number ∷ [] in
    let is = chain_from-next mem place walk (chain_along mem place head front) more number n e ∙ ap (λ c. chain_from mem place (walk ++ n ∷ []) c more n) (chain_along-push mem place head front number) in
    subst (Outcome mem place head) (sym is) (outcome_from mem place head more walk n (next_in_chain mem place (walk ++ n ∷ []) (chain_along mem place head walk) n) refl (omega (arith, length-append front (number ∷ []))) (goes_on mem place head front number so_far n e (omega arith)))

-- ---- what a head's chain, or its fault, is

module _ (mem : List ℕ) (place : Place) (head : ℕ) (inside : head < place.size) where
  outcome : Outcome mem place head (chain_of mem place head)
  unfolding chain_of
  outcome =
      let start : IsSoFar mem place head [] head = record { walk = head_walk mem place head inside; sound = λ k h. absurd (omega arith) } in
      outcome_from mem place head (most_descriptors - 1) [] head (next_in_chain mem place (head ∷ []) (bare_chain head) head) refl (omega arith) start

  pub chain-walk : (chain : Chain) → Ok chain ≡ chain_of mem place head → HasWalk mem place chain
  chain-walk chain e = (subst (Outcome mem place head) (sym e) outcome).1

  pub chain-head : (chain : Chain) → Ok chain ≡ chain_of mem place head → chain.head ≡ head
  chain-head chain e = (subst (Outcome mem place head) (sym e) outcome).0

  pub fault-walk : (f : RingErr) → Err f ≡ chain_of mem place head → HasWalkFault mem place head f
  fault-walk f e = subst (Outcome mem place head) (sym e) outcome

-- a fault of the chain is one of the ring, and none of the two that the ring itself has
pub chain-ring_fault : (mem : List ℕ) (place : Place) (index : ℕ) (f : RingErr) → IsChainFault mem place index f → IsRingFault mem place index f
chain-ring_fault mem place index (fault.IdxJump idx) h = absurd (fault_in_walk-kind mem place h.walk_fault.0 (length h.walk_fault.0 - 1) (fault.IdxJump idx) h.walk_fault.1.last)
chain-ring_fault mem place index (fault.BadHead head) h = absurd (fault_in_walk-kind mem place h.walk_fault.0 (length h.walk_fault.0 - 1) (fault.BadHead head) h.walk_fault.1.last)
chain-ring_fault mem place index f h = h
