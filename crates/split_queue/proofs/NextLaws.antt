-- What a descriptor says of its chain: where it names the next one, where it is the last one, and where it has a fault.
use Rattle.std.proofs.Common.{◌≡◌, ℕ, ◌==◌, Bool, true, false, not, cond, nat_le, List, Option, Some, None, Result, Ok, Err, refl}
use Rattle.std.specs.List.{list_any}
use Rattle.std.specs.Option.{option_or}
use Rattle.split_queue.specs.Descriptors.{descriptor_at, has_next}
use Rattle.split_queue.specs.Walks.{buffer_fault, next_fault, next_in_chain, NamesNext}
use Rattle.split_queue.specs.declared.queue_place.Place.{Place}
use Rattle.split_queue.specs.declared.chain.Chain.{Chain}
use Rattle.split_queue.specs.declared.error.RingErr.{RingErr}
use Rattle.split_queue.specs.declared.error.RingErr.TheVariants as fault

-- the answer by the fault of its buffer, that of its next field, and whether one follows
abbrev pub answer_of : Option RingErr → Option RingErr → Bool → ℕ → Result (Option ℕ) RingErr
answer_of b n more next = elim b [ Some f ↦ Err f | None ↦ elim n [ Some f ↦ Err f | None ↦ cond more (Ok (Some next)) (Ok None) ] ]

answer_of-some : (b f : Option RingErr) (more : Bool) (next n : ℕ) → answer_of b f more next ≡ Ok (Some n) → (f ≡ None) × (more ≡ true) × (next ≡ n)
answer_of-some (Some _) f more next n e = absurd (cc)
answer_of-some None (Some _) more next n e = absurd (cc)
answer_of-some None None true next n e = (refl, refl, cc)
answer_of-some None None false next n e = absurd (cc)

answer_of-none : (b f : Option RingErr) (more : Bool) (next : ℕ) → answer_of b f more next ≡ Ok None → more ≡ false
answer_of-none (Some _) f more next e = absurd (cc)
answer_of-none None (Some _) more next e = absurd (cc)
answer_of-none None None true next e = absurd (cc)
answer_of-none None None false next e = refl

-- the answer's fault is the first one, whatever a third might be
answer_of-fault : (b n third : Option RingErr) (more : Bool) (next : ℕ) (f : RingErr) → answer_of b n more next ≡ Err f → option_or b (option_or n third) ≡ Some f
answer_of-fault (Some g) n third more next f e = cc
answer_of-fault None (Some g) third more next f e = cc
answer_of-fault None None third true next f e = absurd (cc)
answer_of-fault None None third false next f e = absurd (cc)

answer_of-ok : (b n third : Option RingErr) (more : Bool) (next : ℕ) (r : Option ℕ) → answer_of b n more next ≡ Ok r → option_or b (option_or n third) ≡ third
answer_of-ok (Some g) n third more next r e = absurd (cc)
answer_of-ok None (Some g) third more next r e = absurd (cc)
answer_of-ok None None third more next r e = refl

no_fault : (more big seen : Bool) (x y : RingErr) → cond (not more) None (cond big (Some x) (cond seen (Some y) None)) ≡ None → more ≡ true → (big ≡ false) × (seen ≡ false)
no_fault false big seen x y e t = absurd (cc)
no_fault true true seen x y e t = absurd (cc)
no_fault true false true x y e t = absurd (cc)
no_fault true false false x y e t = (refl, refl)

module _ (mem : List ℕ) (place : Place) (visited : List ℕ) (chain : Chain) (number : ℕ) where
  pub next_in_chain-some : (n : ℕ) → next_in_chain mem place visited chain number ≡ Ok (Some n) → NamesNext mem place number n × (nat_le place.size n ≡ false) × (list_any (λ m. m == n) visited ≡ false)
  unfolding next_in_chain next_fault
  next_in_chain-some n e =
      let d = descriptor_at mem place number in
      let facts = answer_of-some (buffer_fault mem chain number d) (next_fault place visited number d) (has_next d) d.next n e in
      let rest = no_fault (has_next d) (nat_le place.size d.next) (list_any (λ m. m == d.next) visited) (fault.BadNext number) (fault.Loop number) facts.0 facts.1 in
      let big : nat_le place.size n ≡ false = rw (← facts.2) rest.0 in
      let seen : list_any (λ m. m == n) visited ≡ false = rw (← facts.2) rest.1 in
      (record { goes_on = facts.1; next_is = facts.2 }, big, seen)

  pub next_in_chain-none : next_in_chain mem place visited chain number ≡ Ok None → has_next (descriptor_at mem place number) ≡ false
  unfolding next_in_chain
  next_in_chain-none e =
      let d = descriptor_at mem place number in
      answer_of-none (buffer_fault mem chain number d) (next_fault place visited number d) (has_next d) d.next e

  -- the first fault of the descriptor, where a third one might be
  pub next_in_chain-err : (third : Option RingErr) (f : RingErr) → next_in_chain mem place visited chain number ≡ Err f → option_or (buffer_fault mem chain number (descriptor_at mem place number)) (option_or (next_fault place visited number (descriptor_at mem place number)) third) ≡ Some f
  unfolding next_in_chain
  next_in_chain-err third f e =
      let d = descriptor_at mem place number in
      answer_of-fault (buffer_fault mem chain number d) (next_fault place visited number d) third (has_next d) d.next f e

  pub next_in_chain-ok : (third : Option RingErr) (r : Option ℕ) → next_in_chain mem place visited chain number ≡ Ok r → option_or (buffer_fault mem chain number (descriptor_at mem place number)) (option_or (next_fault place visited number (descriptor_at mem place number)) third) ≡ third
  unfolding next_in_chain
  next_in_chain-ok third r e =
      let d = descriptor_at mem place number in
      answer_of-ok (buffer_fault mem chain number d) (next_fault place visited number d) third (has_next d) d.next r e
