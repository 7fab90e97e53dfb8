-- The writable pieces of a chain lie in the memory.
use Rattle.std.proofs.Common.{◌≡◌, ℕ, zero, suc, ◌+◌, ◌-◌, ◌≤◌, ◌==◌, ◌&&◌, Bool, true, false, not, cond, nat_le, nat_lt, List, [], ◌∷◌, ◌++◌, length, Option, Some, None, Result, Ok, Err, refl, sym, ◌∙◌}
use Rattle.std.specs.List.{All}
use Rattle.std.proofs.lemmas.Bool.{leb-true}
use Rattle.std.proofs.lemmas.List.{append-nil}
use Rattle.std.proofs.lemmas.List.Elements.{All-nil, All-push}
use Rattle.split_queue.specs.Chains.{most_descriptors, most_readable, PieceLiesIn}
use Rattle.split_queue.specs.Descriptors.{descriptor_at, has_next, is_writable, is_indirect}
use Rattle.split_queue.specs.Walks.{bare_chain, with_buffer, buffer_fault, next_fault, next_in_chain, chain_from, chain_of}
use Rattle.split_queue.proofs.ChainSteps.{chain_from-fault, chain_from-last, chain_from-many, chain_from-next}
use Rattle.split_queue.proofs.NextLaws.{answer_of}
use Rattle.split_queue.proofs.BufferLaws.{buffer_pieces}
use Rattle.split_queue.specs.declared.queue_place.Place.{Place}
use Rattle.split_queue.specs.declared.descriptor.Descriptor.{Descriptor}
use Rattle.split_queue.specs.declared.chain.Chain.{Chain}
use Rattle.split_queue.specs.declared.error.RingErr.{RingErr}
use Rattle.split_queue.specs.declared.error.RingErr.TheVariants as fault

answer_of-buffer : (b f : Option RingErr) (more : Bool) (next : ℕ) (r : Option ℕ) → answer_of b f more next ≡ Ok r → b ≡ None
answer_of-buffer (Some _) f more next r e = absurd (cc)
answer_of-buffer None f more next r e = refl

no_fault-inside : (indirect order inside long : Bool) (w x y z : RingErr) → cond indirect (Some w) (cond order (Some x) (cond (not inside) (Some y) (cond long (Some z) None))) ≡ None → inside ≡ true
no_fault-inside true order inside long w x y z e = absurd (cc)
no_fault-inside false true inside long w x y z e = absurd (cc)
no_fault-inside false false false long w x y z e = absurd (cc)
no_fault-inside false false true long w x y z e = refl

-- a descriptor that the walk goes past has its buffer in the memory
buffer-inside : (mem : List ℕ) (place : Place) (visited : List ℕ) (chain : Chain) (number : ℕ) (r : Option ℕ) → next_in_chain mem place visited chain number ≡ Ok r → (descriptor_at mem place number).addr + (descriptor_at mem place number).len ≤ length mem
unfolding next_in_chain buffer_fault
buffer-inside mem place visited chain number r e =
    let d = descriptor_at mem place number in
    let none = answer_of-buffer (buffer_fault mem chain number d) (next_fault place visited number d) (has_next d) d.next r e in
    leb-true (d.addr + d.len) (length mem) (no_fault-inside (is_indirect d) (not (is_writable d) && not (length chain.writable.items == 0)) (nat_le (d.addr + d.len) (length mem)) (not (is_writable d) && nat_lt most_readable (length chain.readable.items + d.len)) (fault.Indirect number) (fault.Order number) (fault.Outside number) (fault.TooLong number) none)

buffer-added : (mem : List ℕ) (chain : Chain) (d : Descriptor) → d.addr + d.len ≤ length mem → All (PieceLiesIn (length mem)) chain.writable.items → All (PieceLiesIn (length mem)) (with_buffer mem chain d).writable.items
buffer-added mem chain d inside so_far =
    rw (buffer_pieces mem chain d) (elim (is_writable d) as (λ b. All (PieceLiesIn (length mem)) (chain.writable.items ++ cond b (record { addr = d.addr; len = d.len } ∷ []) [])) [
      | true ↦ All-push (PieceLiesIn (length mem)) chain.writable.items (record { addr = d.addr; len = d.len }) so_far inside
      | false ↦ rw (append-nil chain.writable.items) so_far
    ])

same_chain : (x y : Chain) (answer : Result Chain RingErr) → answer ≡ Ok x → answer ≡ Ok y → x ≡ y
same_chain x y answer e f = cc

inside-from : (mem : List ℕ) (place : Place) (more : ℕ) (visited : List ℕ) (number : ℕ) (chain out : Chain) (r : Result (Option ℕ) RingErr) → next_in_chain mem place visited chain number ≡ r → All (PieceLiesIn (length mem)) chain.writable.items → chain_from mem place visited chain more number ≡ Ok out → All (PieceLiesIn (length mem)) out.writable.items
inside-from mem place more visited number chain out (Err f) e so_far is_out = absurd (let no = sym (chain_from-fault mem place visited chain more number f e) ∙ is_out in cc)
inside-from mem place more visited number chain out (Ok None) e so_far is_out =
    let d = descriptor_at mem place number in
    let found = same_chain out (with_buffer mem chain d) (chain_from mem place visited chain more number) is_out (chain_from-last mem place visited chain more number e) in
    rw found (buffer-added mem chain d (buffer-inside mem place visited chain number None e) so_far)
inside-from mem place zero visited number chain out (Ok (Some n)) e so_far is_out = absurd (let no = sym (chain_from-many mem place visited chain number n e) ∙ is_out in cc)
inside-from mem place (suc more) visited number chain out (Ok (Some n)) e so_far is_out =
    let longer = with_buffer mem chain (descriptor_at mem place number) in
    let later = sym (chain_from-next mem place visited chain more number n e) ∙ is_out in
    inside-from mem place more (visited ++ n ∷ []) n longer out (next_in_chain mem place (visited ++ n ∷ []) longer n) refl (buffer-added mem chain (descriptor_at mem place number) (buffer-inside mem place visited chain number (Some n) e) so_far) later

pub pieces-inside : (mem : List ℕ) (place : Place) (head : ℕ) (chain : Chain) → Ok chain ≡ chain_of mem place head → All (PieceLiesIn (length mem)) chain.writable.items
unfolding chain_of
pieces-inside mem place head chain e =
    inside-from mem place (most_descriptors - 1) (head ∷ []) head (bare_chain head) chain (next_in_chain mem place (head ∷ []) (bare_chain head) head) refl (All-nil (PieceLiesIn (length mem))) (sym e)
