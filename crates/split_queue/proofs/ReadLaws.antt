-- What is read of a memory in which a number, or a descriptor, was written.
use Rattle.std.proofs.Common.{◌≡◌, ℕ, ◌+◌, ◌^◌, ◌<◌, ◌≤◌, ◌⊎◌, inl, inr, List, length, refl, ◌∙◌, arith}
use Rattle.std.specs.Int.{to_le_bytes, w16, w32, w64}
use Rattle.byte_numbers.proofs.NumberLaws.{HaveSame, HaveSame-part, le16_at-same, le32_at-same, le64_at-same, le16_at-bytes, le32_at-bytes, le64_at-bytes}
use Rattle.guest_mem.specs.Memory.{ChangesOnly, IsInRange}
use Rattle.guest_mem.proofs.Changes.{changes-then}
use Rattle.guest_mem.proofs.Bytes.{bytes_at-with_bytes, with_bytes-changes}
use Rattle.byte_numbers.specs.Numbers.{le16_at, le32_at, le64_at}
use Rattle.split_queue.specs.Descriptors.{with_le16, with_le32, with_le64, descriptor_at, with_descriptor}
use Rattle.split_queue.specs.QueuePlaces.{descriptor_addr, descriptor_bytes}
use Rattle.split_queue.specs.declared.queue_place.Place.{Place}
use Rattle.split_queue.specs.declared.descriptor.Descriptor.{Descriptor}

-- ---- a read depends on its bytes alone

pub descriptor_at-same : (before after : List ℕ) (place : Place) (number : ℕ)
    → HaveSame before after (descriptor_addr place number) descriptor_bytes
    → descriptor_at after place number ≡ descriptor_at before place number
unfolding descriptor_at
descriptor_at-same before after place number have =
    let start = descriptor_addr place number in
    let part = λ (at size : ℕ) (low : start ≤ at) (high : at + size ≤ start + descriptor_bytes).
    HaveSame-part before after start descriptor_bytes at size low high have in
    rw (
      le64_at-same before after start (part start 8 (omega arith) (omega arith)),
      le32_at-same before after (start + 8) (part (start + 8) 4 (omega arith) (omega arith)),
      le16_at-same before after (start + 12) (part (start + 12) 2 (omega arith) (omega arith)),
      le16_at-same before after (start + 14) (part (start + 14) 2 (omega arith) (omega arith)),
    ) refl

-- bytes that lie outside of what was changed
HaveSame-outside : (before after : List ℕ) (start count addr size : ℕ) → ChangesOnly before after (IsInRange start count)
    → (addr + size ≤ start) ⊎ (start + count ≤ addr) → HaveSame before after addr size
HaveSame-outside before after start count addr size changes apart = record {
  same = λ k low high. changes.others k (λ inside. elim apart [ inl l ↦ omega arith | inr r ↦ omega arith ]);
}

-- and numbers there
pub le16_at-outside : (before after : List ℕ) (start count addr : ℕ) → ChangesOnly before after (IsInRange start count)
    → (addr + 2 ≤ start) ⊎ (start + count ≤ addr) → le16_at after addr ≡ le16_at before addr
le16_at-outside before after start count addr changes apart =
    le16_at-same before after addr (HaveSame-outside before after start count addr 2 changes apart)

pub le32_at-outside : (before after : List ℕ) (start count addr : ℕ) → ChangesOnly before after (IsInRange start count)
    → (addr + 4 ≤ start) ⊎ (start + count ≤ addr) → le32_at after addr ≡ le32_at before addr
le32_at-outside before after start count addr changes apart =
    le32_at-same before after addr (HaveSame-outside before after start count addr 4 changes apart)

le64_at-outside : (before after : List ℕ) (start count addr : ℕ) → ChangesOnly before after (IsInRange start count)
    → (addr + 8 ≤ start) ⊎ (start + count ≤ addr) → le64_at after addr ≡ le64_at before addr
le64_at-outside before after start count addr changes apart =
    le64_at-same before after addr (HaveSame-outside before after start count addr 8 changes apart)

-- ---- numbers that were written are read back, and nothing else changed

pub le16_at-with_le16 : (mem : List ℕ) (addr n : ℕ) → addr + 2 ≤ length mem → n < 2 ^ 16
    → le16_at (with_le16 mem addr n) addr ≡ n
unfolding with_le16
le16_at-with_le16 mem addr n inside small =
    le16_at-bytes (with_le16 mem addr n) addr n (bytes_at-with_bytes mem addr (to_le_bytes w16 n) inside) small

pub le32_at-with_le32 : (mem : List ℕ) (addr n : ℕ) → addr + 4 ≤ length mem → n < 2 ^ 32
    → le32_at (with_le32 mem addr n) addr ≡ n
unfolding with_le32
le32_at-with_le32 mem addr n inside small =
    le32_at-bytes (with_le32 mem addr n) addr n (bytes_at-with_bytes mem addr (to_le_bytes w32 n) inside) small

pub le64_at-with_le64 : (mem : List ℕ) (addr n : ℕ) → addr + 8 ≤ length mem → n < 2 ^ 64
    → le64_at (with_le64 mem addr n) addr ≡ n
unfolding with_le64
le64_at-with_le64 mem addr n inside small =
    le64_at-bytes (with_le64 mem addr n) addr n (bytes_at-with_bytes mem addr (to_le_bytes w64 n) inside) small

pub with_le16-changes : (mem : List ℕ) (addr n : ℕ) → addr + 2 ≤ length mem → ChangesOnly mem (with_le16 mem addr n) (IsInRange addr 2)
unfolding with_le16
with_le16-changes mem addr n inside = with_bytes-changes mem addr (to_le_bytes w16 n) inside

pub with_le32-changes : (mem : List ℕ) (addr n : ℕ) → addr + 4 ≤ length mem → ChangesOnly mem (with_le32 mem addr n) (IsInRange addr 4)
unfolding with_le32
with_le32-changes mem addr n inside = with_bytes-changes mem addr (to_le_bytes w32 n) inside

pub with_le64-changes : (mem : List ℕ) (addr n : ℕ) → addr + 8 ≤ length mem → ChangesOnly mem (with_le64 mem addr n) (IsInRange addr 8)
unfolding with_le64
with_le64-changes mem addr n inside = with_bytes-changes mem addr (to_le_bytes w64 n) inside

-- ---- and so is a descriptor

-- the memories between the writes of a descriptor's four fields
module _ (mem : List ℕ) (start : ℕ) (d : Descriptor) (inside : start + 16 ≤ length mem) where
  abbrev with_addr : List ℕ
  with_addr = with_le64 mem start d.addr

  abbrev with_len : List ℕ
  with_len = with_le32 with_addr (start + 8) d.len

  abbrev with_flags : List ℕ
  with_flags = with_le16 with_len (start + 12) d.flags

  abbrev with_next : List ℕ
  with_next = with_le16 with_flags (start + 14) d.next

  addr-changes : ChangesOnly mem with_addr (IsInRange start 8)
  addr-changes = with_le64-changes mem start d.addr (omega arith)

  len-changes : ChangesOnly with_addr with_len (IsInRange (start + 8) 4)
  len-changes = with_le32-changes with_addr (start + 8) d.len (omega (arith, addr-changes.size))

  flags-changes : ChangesOnly with_len with_flags (IsInRange (start + 12) 2)
  flags-changes = with_le16-changes with_len (start + 12) d.flags (omega (arith, addr-changes.size, len-changes.size))

  next-changes : ChangesOnly with_flags with_next (IsInRange (start + 14) 2)
  next-changes = with_le16-changes with_flags (start + 14) d.next (omega (arith, addr-changes.size, len-changes.size, flags-changes.size))

  in-fields : (at count : ℕ) → start ≤ at → at + count ≤ start + 16 → (addr : ℕ) → IsInRange at count addr → IsInRange start 16 addr
  in-fields at count low high addr inside = (omega arith, omega arith)

  fields-change : ChangesOnly mem with_next (IsInRange start 16)
  fields-change =
      let two = changes-then mem with_addr with_len (IsInRange start 8) (IsInRange (start + 8) 4) (IsInRange start 16) (in-fields start 8 (omega arith) (omega arith)) (in-fields (start + 8) 4 (omega arith) (omega arith)) addr-changes len-changes in
      let three = changes-then mem with_len with_flags (IsInRange start 16) (IsInRange (start + 12) 2) (IsInRange start 16) (λ addr inside. inside) (in-fields (start + 12) 2 (omega arith) (omega arith)) two flags-changes in
      changes-then mem with_flags with_next (IsInRange start 16) (IsInRange (start + 14) 2) (IsInRange start 16) (λ addr inside. inside) (in-fields (start + 14) 2 (omega arith) (omega arith)) three next-changes

  addr-back : d.addr < 2 ^ 64 → le64_at with_next start ≡ d.addr
  addr-back small =
      le64_at-outside with_flags with_next (start + 14) 2 start next-changes (inl (omega arith))
      ∙ le64_at-outside with_len with_flags (start + 12) 2 start flags-changes (inl (omega arith))
      ∙ le64_at-outside with_addr with_len (start + 8) 4 start len-changes (inl (omega arith))
      ∙ le64_at-with_le64 mem start d.addr (omega arith) small

  len-back : d.len < 2 ^ 32 → le32_at with_next (start + 8) ≡ d.len
  len-back small =
      le32_at-outside with_flags with_next (start + 14) 2 (start + 8) next-changes (inl (omega arith))
      ∙ le32_at-outside with_len with_flags (start + 12) 2 (start + 8) flags-changes (inl (omega arith))
      ∙ le32_at-with_le32 with_addr (start + 8) d.len (omega (arith, addr-changes.size)) small

  flags-back : d.flags < 2 ^ 16 → le16_at with_next (start + 12) ≡ d.flags
  flags-back small =
      le16_at-outside with_flags with_next (start + 14) 2 (start + 12) next-changes (inl (omega arith))
      ∙ le16_at-with_le16 with_len (start + 12) d.flags (omega (arith, addr-changes.size, len-changes.size)) small

  next-back : d.next < 2 ^ 16 → le16_at with_next (start + 14) ≡ d.next
  next-back small = le16_at-with_le16 with_flags (start + 14) d.next (omega (arith, addr-changes.size, len-changes.size, flags-changes.size)) small

-- a descriptor of these fields
of_fields : (d : Descriptor) (addr len flags next : ℕ) → addr ≡ d.addr → len ≡ d.len → flags ≡ d.flags → next ≡ d.next → let same : Descriptor = record { addr = addr; len = len; flags = flags; next = next } in same ≡ d
of_fields d addr len flags next a l f n = rw (a, l, f, n) refl

pub descriptor_at-with_descriptor : (mem : List ℕ) (place : Place) (number : ℕ) (d : Descriptor) → descriptor_addr place number + descriptor_bytes ≤ length mem → d.addr < 2 ^ 64 → d.len < 2 ^ 32 → d.flags < 2 ^ 16 → d.next < 2 ^ 16 → descriptor_at (with_descriptor mem place number d) place number ≡ d
unfolding descriptor_at with_descriptor
descriptor_at-with_descriptor mem place number d inside addr len flags next =
    let start = descriptor_addr place number in
    of_fields d _ _ _ _ (addr-back mem start d inside addr) (len-back mem start d inside len) (flags-back mem start d inside flags) (next-back mem start d inside next)

pub with_descriptor-changes : (mem : List ℕ) (place : Place) (number : ℕ) (d : Descriptor) → descriptor_addr place number + descriptor_bytes ≤ length mem → ChangesOnly mem (with_descriptor mem place number d) (IsInRange (descriptor_addr place number) descriptor_bytes)
unfolding with_descriptor
with_descriptor-changes mem place number d inside = fields-change mem (descriptor_addr place number) d inside
