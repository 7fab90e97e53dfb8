-- What a descriptor's buffer adds to what was gathered before it.
use Rattle.std.proofs.Common.{◌≡◌, ℕ, true, false, cond, List, [], ◌∷◌, ◌++◌, sym, ap, ◌∙◌}
use Rattle.std.specs.List.{flat_map}
use Rattle.std.proofs.lemmas.List.Concat.{flat_map-append}
use Rattle.std.proofs.lemmas.List.{append-nil}
use Rattle.guest_mem.specs.Memory.{bytes_at}
use Rattle.split_queue.specs.Descriptors.{descriptor_at, is_writable}
use Rattle.split_queue.specs.Walks.{with_buffer, readable_bytes, writable_pieces, chain_along}
use Rattle.split_queue.specs.declared.queue_place.Place.{Place}
use Rattle.split_queue.specs.declared.descriptor.Descriptor.{Descriptor}
use Rattle.split_queue.specs.declared.chain.Chain.{Chain}
use Rattle.split_queue.specs.declared.chain.Piece.{Piece}

-- the chain of a head that holds these bytes and these writable pieces
abbrev pub chain_with : ℕ → List ℕ → List Piece → Chain
chain_with head bytes pieces = record { head = head; readable = record { items = bytes }; writable = record { items = pieces } }

with_buffer-is : (mem : List ℕ) (chain : Chain) (d : Descriptor) → with_buffer mem chain d ≡ chain_with chain.head (chain.readable.items ++ cond (is_writable d) [] (bytes_at mem d.addr d.len)) (chain.writable.items ++ cond (is_writable d) (record { addr = d.addr; len = d.len } ∷ []) [])
with_buffer-is mem chain d =
    elim (is_writable d) as (λ b. cond b (record chain { writable = record { items = chain.writable.items ++ record { addr = d.addr; len = d.len } ∷ [] } }) (record chain { readable = record { items = chain.readable.items ++ bytes_at mem d.addr d.len } }) ≡ chain_with chain.head (chain.readable.items ++ cond b [] (bytes_at mem d.addr d.len)) (chain.writable.items ++ cond b (record { addr = d.addr; len = d.len } ∷ []) [])) [
      | true ↦ ap (λ xs. chain_with chain.head xs (chain.writable.items ++ record { addr = d.addr; len = d.len } ∷ [])) (sym (append-nil chain.readable.items))
      | false ↦ ap (chain_with chain.head (chain.readable.items ++ bytes_at mem d.addr d.len)) (sym (append-nil chain.writable.items))
    ]

pub buffer_pieces : (mem : List ℕ) (chain : Chain) (d : Descriptor) → (with_buffer mem chain d).writable.items ≡ chain.writable.items ++ cond (is_writable d) (record { addr = d.addr; len = d.len } ∷ []) []
buffer_pieces mem chain d = ap (λ (c : Chain). c.writable.items) (with_buffer-is mem chain d)

push_flat : {A : Type 0} (f : ℕ → List A) (front : List ℕ) (n : ℕ) → flat_map f (front ++ n ∷ []) ≡ flat_map f front ++ f n
push_flat f front n = flat_map-append f front (n ∷ []) ∙ ap (λ ys. flat_map f front ++ ys) (append-nil (f n))

-- what was gathered along some descriptors, with the buffer of the next one
pub chain_along-push : (mem : List ℕ) (place : Place) (head : ℕ) (front : List ℕ) (number : ℕ) → with_buffer mem (chain_along mem place head front) (descriptor_at mem place number) ≡ chain_along mem place head (front ++ number ∷ [])
chain_along-push mem place head front number =
    let bytes = push_flat (λ n. cond (is_writable (descriptor_at mem place n)) [] (bytes_at mem (descriptor_at mem place n).addr (descriptor_at mem place n).len)) front number in
    let pieces = push_flat (λ n. cond (is_writable (descriptor_at mem place n)) (record { addr = (descriptor_at mem place n).addr; len = (descriptor_at mem place n).len } ∷ []) []) front number in
    with_buffer-is mem (chain_along mem place head front) (descriptor_at mem place number)
    ∙ sym (ap (λ xs. chain_with head xs (writable_pieces mem place (front ++ number ∷ []))) bytes ∙ ap (λ (xs : List Piece). chain_with head (readable_bytes mem place front ++ cond (is_writable (descriptor_at mem place number)) [] (bytes_at mem (descriptor_at mem place number).addr (descriptor_at mem place number).len)) xs) pieces)
