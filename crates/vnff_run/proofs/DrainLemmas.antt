-- A drain of a queue, chain by chain: where it stands before each chain, and where it ends.
use Rattle.std.proofs.Common.{◌≡◌, ◌≢◌, ℕ, zero, suc, ◌+◌, ◌-◌, ◌^◌, ◌<◌, ◌≤◌, ◌⊎◌, inl, inr, Bool, true, false, List, [], ◌∷◌, ◌++◌, length, Option, Some, None, Result, Ok, Err, refl, sym, ap, ◌∙◌, subst, append_assoc, append-nil, lit<, ⊎_elim, arith}
use Rattle.std.specs.Prelude.{if◌then◌else◌, map, nat_lt, ◌==◌}
use Rattle.std.specs.List.{range_with_len}
use Rattle.std.proofs.lemmas.Bool.{cases_lt, cond-false, cond-true, eq-eqb, eqb-false, eqb-true, leb-false, le-ltb, lt-ltb, ltb-false, ltb-true, ne_eqb}
use Rattle.std.proofs.lemmas.List.{get_or_past}
use Rattle.std.proofs.lemmas.List.Elements.{All-get_or}
use Rattle.byte_numbers.proofs.NumberLaws.{le16_at-below}
use Rattle.byte_numbers.specs.Bytes.{IsBytes}
use Rattle.split_queue.specs.DeviceEnds.{DeviceEndState, after_pop, after_push, as_pop_answer, chain_in_slot, device_start, pop_answer}
use Rattle.split_queue.specs.QueuePlaces.{available_idx_addr}
use Rattle.split_queue.specs.Rings.{available_head, available_idx, index_after, index_gap, with_used_entry}
use Rattle.split_queue.specs.Setup.{setup_fault}
use Rattle.split_queue.specs.Walks.{chain_of}
use Rattle.split_queue.specs.declared.chain.Chain.{Chain}
use Rattle.split_queue.specs.declared.queue_place.Place.{Place}
use Rattle.split_queue.specs.declared.error.RingErr.{RingErr}
use Rattle.split_queue.specs.declared.error.RingErr.TheVariants as faults
use Rattle.vnff_run.specs.Drain.{IsDrainable, chain_at, chain_line, chain_lines, drain_last, drained_chains, last_of, memory_behind, with_chain_back}
use Rattle.vnff_run.specs.declared.drain.Last.TheVariants.{Empty, Faulty}
use Rattle.vnff_run.proofs.QueuePlaced.{HasRings, has_rings, back-idx, back-size}

-- ---- what a pop says

pop-some : (same far : Bool) (idx : ℕ) (found : Result Chain RingErr) (chain : Chain) → (if same then Ok None else (if far then Err (faults.IdxJump idx) else as_pop_answer found)) ≡ Ok (Some chain) → (same ≡ false) × (far ≡ false) × (found ≡ Ok chain)
pop-some true far idx found chain is = absurd (cc)
pop-some false true idx found chain is = absurd (cc)
pop-some false false idx (Ok c) chain is = (refl, refl, cc)
pop-some false false idx (Err f) chain is = absurd (cc)

pop-none : (same far : Bool) (idx : ℕ) (found : Result Chain RingErr) → (if same then Ok None else (if far then Err (faults.IdxJump idx) else as_pop_answer found)) ≡ Ok None → same ≡ true
pop-none true far idx found is = refl
pop-none false true idx found is = absurd (cc)
pop-none false false idx (Ok c) is = absurd (cc)
pop-none false false idx (Err f) is = absurd (cc)

pop-err : (same far : Bool) (idx : ℕ) (found : Result Chain RingErr) (f : RingErr) → (if same then Ok None else (if far then Err (faults.IdxJump idx) else as_pop_answer found)) ≡ Err f → (same ≡ false) × (((far ≡ true) × (f ≡ faults.IdxJump idx)) ⊎ ((far ≡ false) × (found ≡ Err f)))
pop-err true far idx found f is = absurd (cc)
pop-err false true idx found f is = (refl, inl (refl, cc))
pop-err false false idx (Ok c) f is = absurd (cc)
pop-err false false idx (Err g) f is = (refl, inr (refl, cc))

gap-ahead : (from to : ℕ) → from ≤ to → to < 2 ^ 16 → index_gap from to ≡ to - from
gap-ahead from to up small = omega arith

-- the chain in a slot has a head below the size
slot-size : (below : Bool) (fault found : Result Chain RingErr) (chain : Chain) → (if below then fault else found) ≡ Ok chain → fault ≢ Ok chain → below ≡ false
slot-size true fault found chain is none = absurd (none is)
slot-size false fault found chain is none = refl

some_size : (mem : List ℕ) (place : Place) (index : ℕ) (chain : Chain) → chain_in_slot mem place index ≡ Ok chain → 0 < place.size
some_size mem place index chain is =
    let above = leb-false place.size (available_head mem place index) (slot-size _ (Err (faults.BadHead (available_head mem place index))) (chain_of mem place (available_head mem place index)) chain is (λ e. absurd (cc))) in
    omega (arith, above)

-- ---- the chains behind an index

-- so many chains from an index on, where this memory is the one before them
abbrev chains_from : List ℕ → Place → ℕ → ℕ → List (Result Chain RingErr)
chains_from mem place index zero = []
chains_from mem place index (suc more) =
    chain_in_slot mem place index ∷ chains_from (with_chain_back mem place index) place (index + 1) more

-- all from an index on
unfoldable pub chains_behind : List ℕ → Place → ℕ → List (Result Chain RingErr)
chains_behind mem place index =
    let idx = available_idx mem place in
    if nat_lt place.size idx then Err (faults.IdxJump idx) ∷ [] else chains_from mem place index (idx - index)

from-is : (image : List ℕ) (place : Place) (index count : ℕ) → map (chain_at image place) (range_with_len index count) ≡ chains_from (memory_behind image place index) place index count
from-is image place index zero = refl
from-is image place index (suc count) =
    let next : suc index ≡ index + 1 = omega arith in
    let mem = memory_behind image place (suc index) in
    ap (λ more. chain_at image place index ∷ more) (subst (λ i. map (chain_at image place) (range_with_len i count) ≡ chains_from mem place i count) next (from-is image place (suc index) count))

-- those of an image are all from 0 on
drained_chains-is : (image : List ℕ) (place : Place) → drained_chains image place ≡ chains_behind image place 0
unfolding drained_chains chains_behind
drained_chains-is image place =
    let idx = available_idx image place in
    let whole : idx ≡ idx - 0 = omega arith in
    ap (λ more. if nat_lt place.size idx then Err (faults.IdxJump idx) ∷ [] else more) (from-is image place 0 idx ∙ ap (chains_from image place 0) whole)

few-behind : (mem : List ℕ) (place : Place) (index : ℕ) → available_idx mem place ≤ place.size → chains_behind mem place index ≡ chains_from mem place index (available_idx mem place - index)
unfolding chains_behind
few-behind mem place index few = cond-false (nat_lt place.size (available_idx mem place)) _ _ (le-ltb place.size (available_idx mem place) few)

jump-behind : (mem : List ℕ) (place : Place) (index : ℕ) → place.size < available_idx mem place → chains_behind mem place index ≡ Err (faults.IdxJump (available_idx mem place)) ∷ []
unfolding chains_behind
jump-behind mem place index far = cond-true (nat_lt place.size (available_idx mem place)) _ _ (lt-ltb place.size (available_idx mem place) far)

-- one stands at the index
one-behind : (mem : List ℕ) (place : Place) (index : ℕ) → available_idx mem place ≤ place.size → index < available_idx mem place → chains_behind mem place index ≡ chain_in_slot mem place index ∷ chains_from (with_chain_back mem place index) place (index + 1) (available_idx mem place - (index + 1))
one-behind mem place index few ahead =
    let count : available_idx mem place - index ≡ suc (available_idx mem place - (index + 1)) = omega (arith, ahead) in
    few-behind mem place index few ∙ ap (chains_from mem place index) count

-- none does
none-behind : (mem : List ℕ) (place : Place) (index : ℕ) → available_idx mem place ≤ place.size → available_idx mem place ≡ index → chains_behind mem place index ≡ []
none-behind mem place index few same =
    let count : available_idx mem place - index ≡ 0 = omega (arith, same) in
    few-behind mem place index few ∙ ap (chains_from mem place index) count

-- ---- each chain is popped

-- an index has 16 bits
pub small_idx : (image : List ℕ) (place : Place) → IsBytes image → available_idx image place < 2 ^ 16
small_idx image place bytes =
    le16_at-below image (available_idx_addr place) (record {
      below = λ i. ⊎_elim
          (λ (inside : i < length image). All-get_or (λ b. b < 256) image i 0 inside bytes)
          (λ (past : length image ≤ i). rw (get_or_past image i 0 past) (lit< tt))
          (cases_lt i (length image));
    })

-- the chains that went back leave the available index
left-idx : (image : List ℕ) (place : Place) (count : ℕ) → HasRings place (length image) → count ≤ place.size → (available_idx (memory_behind image place count) place ≡ available_idx image place) × (length (memory_behind image place count) ≡ length image)
left-idx image place zero rings few = (refl, refl)
left-idx image place (suc count) rings few =
    let mem = memory_behind image place count in
    let before = left-idx image place count rings (omega (arith, few)) in
    let some : 0 < place.size = omega (arith, few) in
    let here = subst (HasRings place) (sym before.1) rings in
    (back-idx mem place count (available_head mem place count) 0 some here ∙ before.0, back-size mem place count (available_head mem place count) 0 some here ∙ before.1)

popped-chain : (mem : List ℕ) (place : Place) (index : ℕ) → index < available_idx mem place → available_idx mem place ≤ place.size → available_idx mem place < 2 ^ 16 → pop_answer mem place index ≡ as_pop_answer (chain_in_slot mem place index)
unfolding pop_answer
popped-chain mem place index ahead few small =
    let idx = available_idx mem place in
    let gap = gap-ahead index idx (omega (arith, ahead)) small in
    cond-false (idx == index) _ _ (ne_eqb idx index (λ e. omega (arith, e, ahead))) ∙ cond-false (nat_lt place.size (index_gap index idx)) _ _ (le-ltb place.size (index_gap index idx) (omega (arith, gap, few)))

pub drain-pops : (image : List ℕ) (place : Place) (index : ℕ) → IsDrainable image place → index < available_idx image place → pop_answer (memory_behind image place index) place index ≡ as_pop_answer (chain_at image place index)
drain-pops image place index good ahead =
    let left = left-idx image place index (has_rings place (length image) good.placed) (omega (arith, ahead, good.few)) in
    popped-chain (memory_behind image place index) place index (omega (arith, ahead, left.0)) (omega (arith, good.few, left.0)) (omega (arith, small_idx image place good.bytes, left.0))

pub drain-ends : (image : List ℕ) (place : Place) → IsDrainable image place → pop_answer (memory_behind image place (available_idx image place)) place (available_idx image place) ≡ Ok None
unfolding pop_answer
drain-ends image place good =
    let idx = available_idx image place in
    let left = left-idx image place idx (has_rings place (length image) good.placed) good.few in
    cond-true (available_idx (memory_behind image place idx) place == idx) _ _ (eq-eqb (available_idx (memory_behind image place idx) place) idx left.0)

pub drain-jumps : (image : List ℕ) (place : Place) → IsBytes image → place.size < available_idx image place → pop_answer image place 0 ≡ Err (faults.IdxJump (available_idx image place))
unfolding pop_answer
drain-jumps image place bytes far =
    let idx = available_idx image place in
    let gap = gap-ahead 0 idx (omega arith) (small_idx image place bytes) in
    cond-false (idx == 0) _ _ (ne_eqb idx 0 (λ e. omega (arith, e, far))) ∙ cond-true (nat_lt place.size (index_gap 0 idx)) _ _ (lt-ltb place.size (index_gap 0 idx) (omega (arith, gap, far)))

-- ---- the drain, chain by chain

-- the drain stands at an index: these lines are those of the chains before it
pub record IsAt (image mem : List ℕ) (place : Place) (end : DeviceEndState) (index : ℕ) (front : List ℕ) : Type 0 where
  pub is_end : end ≡ device_start place (length mem) index
  pub rings : HasRings place (length mem)
  pub idx : available_idx mem place ≡ available_idx image place
  pub small : available_idx image place < 2 ^ 16
  pub within : index ≤ available_idx image place
  pub few : (index ≡ 0) ⊎ (available_idx image place ≤ place.size)
  pub lines : front ++ chain_lines (chains_behind mem place index) ≡ chain_lines (drained_chains image place)
  pub last : last_of (available_idx image place) (chains_behind mem place index) ≡ drain_last image place

-- it begins at 0
pub starts : (image : List ℕ) (place : Place) (end : DeviceEndState) → end ≡ device_start place (length image) 0 → setup_fault place (length image) ≡ None → available_idx image place < 2 ^ 16 → IsAt image image place end 0 []
starts image place end start none small = record {
  is_end = start;
  rings = has_rings place (length image) none;
  idx = refl;
  small = small;
  within = omega arith;
  few = inl refl;
  lines = ap chain_lines (sym (drained_chains-is image place));
  last = ap (last_of (available_idx image place)) (sym (drained_chains-is image place));
}

-- at the index of a pop
module _ (image mem : List ℕ) (place : Place) (end : DeviceEndState) (index : ℕ) (front : List ℕ) (here : IsAt image mem place end index front) where
  abbrev idx : ℕ
  idx = available_idx mem place

  abbrev answer : Result (Option Chain) RingErr
  answer = pop_answer mem place index

  pop-is : pop_answer mem end.place end.next ≡ answer
  pop-is = ap (λ (e : DeviceEndState). pop_answer mem e.place e.next) here.is_end

  gap-is : index_gap index idx ≡ idx - index
  gap-is = gap-ahead index idx (omega (arith, here.within, here.idx)) (omega (arith, here.small, here.idx))

  -- not more than the size ahead
  few-here : index_gap index idx ≤ place.size → idx ≤ place.size
  few-here near = elim here.few [ inl start ↦ omega (arith, start, near, gap-is) | inr few ↦ omega (arith, few, here.idx) ]

  module _ (chain : Chain) (popped : pop_answer mem end.place end.next ≡ Ok (Some chain)) where
    found : (idx == index ≡ false) × (nat_lt place.size (index_gap index idx) ≡ false) × (chain_in_slot mem place index ≡ Ok chain)
    unfolding pop_answer
    found = pop-some (idx == index) (nat_lt place.size (index_gap index idx)) idx (chain_in_slot mem place index) chain (sym pop-is ∙ popped)

    pub is_ahead : index < idx
    is_ahead = omega (arith, here.within, here.idx, eqb-false idx index found.0)

    few-idx : idx ≤ place.size
    few-idx = few-here (ltb-false place.size (index_gap index idx) found.1)

    some : 0 < place.size
    some = some_size mem place index chain found.2

    abbrev mem_back : List ℕ
    mem_back = with_chain_back mem place index

    idx-kept : available_idx mem_back place ≡ idx
    idx-kept = back-idx mem place index (available_head mem place index) 0 some here.rings

    size-kept : length mem_back ≡ length mem
    size-kept = back-size mem place index (available_head mem place index) 0 some here.rings

    after-is : index_after index ≡ index + 1
    after-is = omega (arith, is_ahead, here.small, here.idx)

    behind-is : chains_behind mem place index ≡ Ok chain ∷ chains_behind mem_back place (index + 1)
    behind-is =
        let rest : chains_from mem_back place (index + 1) (idx - (index + 1)) ≡ chains_behind mem_back place (index + 1) = ap (λ i. chains_from mem_back place (index + 1) (i - (index + 1))) (sym idx-kept) ∙ sym (few-behind mem_back place (index + 1) (omega (arith, idx-kept, few-idx))) in
        one-behind mem place index few-idx is_ahead ∙ ap (λ c. c ∷ chains_from mem_back place (index + 1) (idx - (index + 1))) found.2 ∙ ap (λ more. Ok chain ∷ more) rest

    -- the chain goes back, and the drain stands at the next index
    at-next : IsAt image mem_back place (after_push (after_pop (device_start place (length mem) index))) (index + 1) (front ++ chain_line chain)
    at-next = record {
      is_end = rw (after-is, size-kept) refl;
      rings = subst (HasRings place) (sym size-kept) here.rings;
      idx = idx-kept ∙ here.idx;
      small = here.small;
      within = omega (arith, is_ahead, here.idx);
      few = inr (omega (arith, few-idx, here.idx));
      lines = append_assoc front (chain_line chain) (chain_lines (chains_behind mem_back place (index + 1))) ∙ ap (λ cs. front ++ chain_lines cs) (sym behind-is) ∙ here.lines;
      last = ap (last_of (available_idx image place)) (sym behind-is) ∙ here.last;
    }

    pub steps : (popped_end pushed_end : DeviceEndState) (after : List ℕ) → chain.head ≡ available_head mem end.place end.next → popped_end ≡ after_pop end → after ≡ with_used_entry mem popped_end.place popped_end.used chain.head 0 → pushed_end ≡ after_push popped_end → IsAt image after place pushed_end (index + 1) (front ++ chain_line chain)
    steps popped_end pushed_end after head pop_is back_is push_is =
        let At : DeviceEndState → List ℕ → Type 0 = λ e mem_after. IsAt image mem_after place e (index + 1) (front ++ chain_line chain) in
        let of_end = subst (λ (e : DeviceEndState). At (after_push (after_pop e)) (with_used_entry mem (after_pop e).place (after_pop e).used (available_head mem e.place e.next) 0)) (sym here.is_end) at-next in
        let of_head = subst (λ h. At (after_push (after_pop end)) (with_used_entry mem (after_pop end).place (after_pop end).used h 0)) (sym head) of_end in
        let of_pop = subst (λ (e : DeviceEndState). At (after_push e) (with_used_entry mem e.place e.used chain.head 0)) (sym pop_is) of_head in
        let of_back = subst (At (after_push popped_end)) (sym back_is) of_pop in
        subst (λ e. At e after) (sym push_is) of_back

    -- fewer are left
    pub is_nearer : (after_end : DeviceEndState) (after lines : List ℕ) → IsAt image after place after_end (index + 1) lines → available_idx after place - (index + 1) < idx - index
    is_nearer after_end after lines next = omega (arith, is_ahead, here.idx, next.idx)

    -- the lines of the chain, and of those behind it
    pub more-lines : (rest : List ℕ) × (front ++ (chain_line chain ++ rest) ≡ chain_lines (drained_chains image place))
    more-lines =
        (chain_lines (chains_behind mem_back place (index + 1)), ap (λ cs. front ++ chain_lines cs) (sym behind-is) ∙ here.lines)

  -- the ring stands empty
  module _ (popped : pop_answer mem end.place end.next ≡ Ok None) where
    same : idx ≡ index
    unfolding pop_answer
    same = eqb-true idx index (pop-none (idx == index) (nat_lt place.size (index_gap index idx)) idx (chain_in_slot mem place index) (sym pop-is ∙ popped))

    nothing : chains_behind mem place index ≡ []
    nothing = none-behind mem place index (elim here.few [ inl start ↦ omega (arith, same, start) | inr few ↦ omega (arith, few, here.idx) ]) same

    pub empty-lines : front ≡ chain_lines (drained_chains image place)
    empty-lines = sym (append-nil front) ∙ ap (λ cs. front ++ chain_lines cs) (sym nothing) ∙ here.lines

    pub empty-last : Empty index ≡ drain_last image place
    empty-last = ap Empty (sym same ∙ here.idx) ∙ ap (last_of (available_idx image place)) (sym nothing) ∙ here.last

  -- the next chain has a fault
  module _ (f : RingErr) (popped : pop_answer mem end.place end.next ≡ Err f) where
    cause : (idx == index ≡ false) × (((nat_lt place.size (index_gap index idx) ≡ true) × (f ≡ faults.IdxJump idx)) ⊎ ((nat_lt place.size (index_gap index idx) ≡ false) × (chain_in_slot mem place index ≡ Err f)))
    unfolding pop_answer
    cause = pop-err (idx == index) (nat_lt place.size (index_gap index idx)) idx (chain_in_slot mem place index) f (sym pop-is ∙ popped)

    ahead : index < idx
    ahead = omega (arith, here.within, here.idx, eqb-false idx index cause.0)

    first-fault : (more : List (Result Chain RingErr)) × (chains_behind mem place index ≡ Err f ∷ more)
    first-fault = elim cause.1 [
      | inl jump ↦
          let far = ltb-true place.size (index_gap index idx) jump.0 in
          ([], jump-behind mem place index (omega (arith, far, gap-is)) ∙ ap (λ g. Err g ∷ []) (sym jump.1))
      | inr bad ↦
          let few = few-here (ltb-false place.size (index_gap index idx) bad.0) in
          let rest = chains_from (with_chain_back mem place index) place (index + 1) (idx - (index + 1)) in
          (rest, one-behind mem place index few ahead ∙ ap (λ c. c ∷ rest) bad.1)
    ]

    pub fault-lines : front ≡ chain_lines (drained_chains image place)
    fault-lines = sym (append-nil front) ∙ ap (λ cs. front ++ chain_lines cs) (sym first-fault.1) ∙ here.lines

    pub fault-last : Faulty f ≡ drain_last image place
    fault-last = ap (last_of (available_idx image place)) (sym first-fault.1) ∙ here.last
