-- Numbers that are written into guest memory, and the descriptors of a queue's table (Virtio 1.4 draft, "The Virtqueue
-- Descriptor Table"). All numbers are little endian.
use Rattle.std.specs.Prelude.{ℕ, ◌+◌, ◌==◌, Bool, not, List, bit_and}
use Rattle.std.specs.Int.{to_le_bytes, w16, w32, w64}
use Rattle.byte_numbers.specs.Numbers.{le16_at, le32_at, le64_at}
use Rattle.guest_mem.specs.Memory.{with_bytes}
use Rattle.split_queue.specs.QueuePlaces.{descriptor_addr}
use Rattle.split_queue.specs.declared.descriptor.Descriptor.{Descriptor}
use Rattle.split_queue.specs.declared.queue_place.Place.{Place}

-- the memory with a number of 16, 32 or 64 bits at an address
unfoldable pub with_le16 : List ℕ → ℕ → ℕ → List ℕ
with_le16 mem addr number = with_bytes mem addr (to_le_bytes w16 number)

unfoldable pub with_le32 : List ℕ → ℕ → ℕ → List ℕ
with_le32 mem addr number = with_bytes mem addr (to_le_bytes w32 number)

unfoldable pub with_le64 : List ℕ → ℕ → ℕ → List ℕ
with_le64 mem addr number = with_bytes mem addr (to_le_bytes w64 number)

-- a descriptor: le64 address, le32 length, le16 flags, le16 next
unfoldable pub descriptor_at : List ℕ → Place → ℕ → Descriptor
descriptor_at mem place number =
    let at = descriptor_addr place number in
    record {
      addr = le64_at mem at;
      len = le32_at mem (at + 8);
      flags = le16_at mem (at + 12);
      next = le16_at mem (at + 14);
    }

-- the memory with a descriptor at its number
unfoldable pub with_descriptor : List ℕ → Place → ℕ → Descriptor → List ℕ
with_descriptor mem place number d =
    let at = descriptor_addr place number in
    with_le16 (with_le16 (with_le32 (with_le64 mem at d.addr) (at + 8) d.len) (at + 12) d.flags) (at + 14) d.next

-- the flags of a descriptor
abbrev pub next_flag : ℕ
next_flag = 1

abbrev pub write_flag : ℕ
write_flag = 2

abbrev pub indirect_flag : ℕ
indirect_flag = 4

-- the chain goes on at `next`
abbrev pub has_next : Descriptor → Bool
has_next d = not (bit_and d.flags next_flag == 0)

-- the device writes the buffer, else it reads it
abbrev pub is_writable : Descriptor → Bool
is_writable d = not (bit_and d.flags write_flag == 0)

-- the buffer holds a table of descriptors
abbrev pub is_indirect : Descriptor → Bool
is_indirect d = not (bit_and d.flags indirect_flag == 0)
