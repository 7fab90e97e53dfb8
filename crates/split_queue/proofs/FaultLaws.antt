-- The fault of a descriptor at a position of a walk.
use Rattle.std.proofs.Common.{◌≡◌, ℕ, ◌+◌, ◌<◌, ◌==◌, ◌&&◌, Bool, true, false, cond, List, [], ◌∷◌, ◌++◌, length, length-append, take, get_or, Option, Some, None, Ok, Err, IfSome, refl, ap, ◌∙◌, subst, arith}
use Rattle.std.specs.Option.{option_or}
use Rattle.std.proofs.Math.Seq.{take-append_seam}
use Rattle.std.proofs.lemmas.Bool.{cond-true, cond-false, ne_eqb, eq-eqb, and_right}
use Rattle.std.proofs.lemmas.List.{get_or_append_left, get_or_at, take-append-le, take_all}
use Rattle.split_queue.specs.Chains.{most_descriptors}
use Rattle.split_queue.specs.Descriptors.{descriptor_at, has_next}
use Rattle.split_queue.specs.Walks.{buffer_fault, next_fault, next_in_chain, chain_along, count_fault, fault_in_walk}
use Rattle.split_queue.proofs.NextLaws.{next_in_chain-err, next_in_chain-ok}
use Rattle.split_queue.specs.declared.queue_place.Place.{Place}
use Rattle.split_queue.specs.declared.descriptor.Descriptor.{Descriptor}
use Rattle.split_queue.specs.declared.chain.Chain.{Chain}
use Rattle.split_queue.specs.declared.error.RingErr.{RingErr}
use Rattle.split_queue.specs.declared.error.RingErr.TheVariants as fault

-- ---- the count

pub count_fault-last : (before number : ℕ) (d : Descriptor) → has_next d ≡ false → count_fault before number d ≡ None
count_fault-last before number d last = cond-false _ _ _ (ap (λ b. b && (before + 1 == most_descriptors)) last)

pub count_fault-few : (before number : ℕ) (d : Descriptor) → before + 1 < most_descriptors → count_fault before number d ≡ None
count_fault-few before number d few = cond-false _ _ _ (and_right _ _ (ne_eqb (before + 1) most_descriptors (λ e. omega arith)))

pub count_fault-many : (before number : ℕ) (d : Descriptor) → before + 1 ≡ most_descriptors → has_next d ≡ true → count_fault before number d ≡ Some (fault.TooMany number)
count_fault-many before number d full goes_on = cond-true _ _ _ (ap (λ b. b && (before + 1 == most_descriptors)) goes_on ∙ eq-eqb (before + 1) most_descriptors full)

-- ---- the position

-- what stands after a position doesn't change its fault
pub fault_in_walk-front : (mem : List ℕ) (place : Place) (front more : List ℕ) (k : ℕ) → k < length front → fault_in_walk mem place (front ++ more) k ≡ fault_in_walk mem place front k
unfolding fault_in_walk
fault_in_walk-front mem place front more k h =
    let here : get_or (front ++ more) k 0 ≡ get_or front k 0 = get_or_append_left front more 0 k h in
    let first : get_or (front ++ more) 0 0 ≡ get_or front 0 0 = get_or_append_left front more 0 0 (omega arith) in
    let before : take k (front ++ more) ≡ take k front = take-append-le k front more (omega arith) in
    let up_to : take (k + 1) (front ++ more) ≡ take (k + 1) front = take-append-le (k + 1) front more (omega arith) in
    rw (here, first, before, up_to) refl

module _ (mem : List ℕ) (place : Place) (head : ℕ) (front : List ℕ) (number : ℕ) (begins : get_or (front ++ number ∷ []) 0 0 ≡ head) where
  -- the last one's is that of its buffer, of its next field, or of the count
  fault_in_walk-last : fault_in_walk mem place (front ++ number ∷ []) (length front) ≡ option_or (buffer_fault mem (chain_along mem place head front) number (descriptor_at mem place number)) (option_or (next_fault place (front ++ number ∷ []) number (descriptor_at mem place number)) (count_fault (length front) number (descriptor_at mem place number)))
  unfolding fault_in_walk
  fault_in_walk-last =
      let here : get_or (front ++ number ∷ []) (length front) 0 ≡ number = get_or_at front number [] 0 (length front) refl in
      let before : take (length front) (front ++ number ∷ []) ≡ front = take-append_seam front (number ∷ []) in
      let up_to : take (length front + 1) (front ++ number ∷ []) ≡ front ++ number ∷ [] = take_all (length front + 1) (front ++ number ∷ []) (omega (arith, length-append front (number ∷ []))) in
      rw (here, before, up_to, begins) refl

  pub fault_in_walk-err : (f : RingErr) → next_in_chain mem place (front ++ number ∷ []) (chain_along mem place head front) number ≡ Err f → fault_in_walk mem place (front ++ number ∷ []) (length front) ≡ Some f
  fault_in_walk-err f e = fault_in_walk-last ∙ next_in_chain-err mem place (front ++ number ∷ []) (chain_along mem place head front) number (count_fault (length front) number (descriptor_at mem place number)) f e

  pub fault_in_walk-ok : (r : Option ℕ) → next_in_chain mem place (front ++ number ∷ []) (chain_along mem place head front) number ≡ Ok r → fault_in_walk mem place (front ++ number ∷ []) (length front) ≡ count_fault (length front) number (descriptor_at mem place number)
  fault_in_walk-ok r e = fault_in_walk-last ∙ next_in_chain-ok mem place (front ++ number ∷ []) (chain_along mem place head front) number (count_fault (length front) number (descriptor_at mem place number)) r e

-- ---- which faults a descriptor has

-- it isn't one of the available ring
abbrev pub IsDescriptorFault : RingErr → Type 0
IsDescriptorFault (fault.IdxJump _) = ⊥
IsDescriptorFault (fault.BadHead _) = ⊥
IsDescriptorFault _ = Unit {0}

-- if it is a fault, then it is one of a descriptor
record IsOfDescriptor (o : Option RingErr) : Type 0 where
  kind : IfSome o IsDescriptorFault

kind-cond : (b : Bool) (x y : Option RingErr) → IsOfDescriptor x → IsOfDescriptor y → IsOfDescriptor (cond b x y)
kind-cond true x y h g = h
kind-cond false x y h g = g

kind-or : (x y : Option RingErr) → IsOfDescriptor x → IsOfDescriptor y → IsOfDescriptor (option_or x y)
kind-or (Some f) y h g = h
kind-or None y h g = g

kind-none : IsOfDescriptor None
kind-none = record { kind = tt }

kind-some : (f : RingErr) → IsDescriptorFault f → IsOfDescriptor (Some f)
kind-some f h = record { kind = h }

module _ (number : ℕ) (d : Descriptor) where
  buffer_fault-kind : (mem : List ℕ) (chain : Chain) → IsOfDescriptor (buffer_fault mem chain number d)
  unfolding buffer_fault
  buffer_fault-kind mem chain = kind-cond _ _ _ (kind-some (fault.Indirect number) tt) (kind-cond _ _ _ (kind-some (fault.Order number) tt) (kind-cond _ _ _ (kind-some (fault.Outside number) tt) (kind-cond _ _ _ (kind-some (fault.TooLong number) tt) kind-none)))

  next_fault-kind : (place : Place) (visited : List ℕ) → IsOfDescriptor (next_fault place visited number d)
  unfolding next_fault
  next_fault-kind place visited = kind-cond _ _ _ kind-none (kind-cond _ _ _ (kind-some (fault.BadNext number) tt) (kind-cond _ _ _ (kind-some (fault.Loop number) tt) kind-none))

  count_fault-kind : (before : ℕ) → IsOfDescriptor (count_fault before number d)
  count_fault-kind before = kind-cond (has_next d && (before + 1 == most_descriptors)) _ _ (kind-some (fault.TooMany number) tt) kind-none

pub fault_in_walk-kind : (mem : List ℕ) (place : Place) (walk : List ℕ) (k : ℕ) (f : RingErr) → fault_in_walk mem place walk k ≡ Some f → IsDescriptorFault f
unfolding fault_in_walk
fault_in_walk-kind mem place walk k f e =
    let number = get_or walk k 0 in
    let d = descriptor_at mem place number in
    let found = kind-or _ _ (buffer_fault-kind number d mem (chain_along mem place (get_or walk 0 0) (take k walk))) (kind-or _ _ (next_fault-kind number d place (take (k + 1) walk)) (count_fault-kind number d k)) in
    (subst IsOfDescriptor e found).kind
