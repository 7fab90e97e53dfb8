-- What the two rings of a queue say at an index, which wraps at 2^16, and what is written into them (Virtio 1.4 draft,
-- "The Virtqueue Available Ring" and "The Virtqueue Used Ring").
use Rattle.std.specs.Prelude.{◌≡◌, ℕ, ◌+◌, ◌-◌, ◌%◌, ◌^◌, ◌⊎◌, List, slice_index}
use Rattle.guest_mem.specs.Memory.{IsInRange, ChangesOnly}
use Rattle.byte_numbers.specs.Numbers.{le16_at, le32_at}
use Rattle.split_queue.specs.Descriptors.{with_le16, with_le32}
use Rattle.split_queue.specs.QueuePlaces.{available_slot_bytes, used_element_bytes, idx_bytes, available_idx_addr, available_slot_addr, used_idx_addr, used_element_addr}
use Rattle.split_queue.specs.Setup.{available_area, used_area, IsInArea}
use Rattle.split_queue.specs.declared.queue_place.Place.{Place}
use Rattle.split_queue.specs.declared.setup.Area.{Area}

-- the index after an index
abbrev pub index_after : ℕ → ℕ
index_after index = (index + 1) % 2 ^ 16

-- the index before an index
abbrev pub index_before : ℕ → ℕ
index_before index = (index + (2 ^ 16 - 1)) % 2 ^ 16

-- how far the index `to` is ahead of `from`
abbrev pub index_gap : ℕ → ℕ → ℕ
index_gap from to = (to + (2 ^ 16 - from)) % 2 ^ 16

-- ---- the available ring

-- the ring's index: where the driver puts the next head
abbrev pub available_idx : List ℕ → Place → ℕ
available_idx mem place = le16_at mem (available_idx_addr place)

-- the head in the slot of an index
abbrev pub available_head : List ℕ → Place → ℕ → ℕ
available_head mem place index = le16_at mem (available_slot_addr place index)

-- the head in the slot that was filled last
abbrev pub last_available_head : List ℕ → Place → ℕ
last_available_head mem place = available_head mem place (index_before (available_idx mem place))

-- the memory with a head in the slot of an index, and with the index after it
unfoldable pub with_available_entry : List ℕ → Place → ℕ → ℕ → List ℕ
with_available_entry mem place index head =
    let with_head = with_le16 mem (available_slot_addr place index) head in
    with_le16 with_head (available_idx_addr place) (index_after index)

-- the address is one of the slot of an index, or of the ring's index
abbrev pub IsInAvailableEntry : Place → ℕ → ℕ → Type 0
IsInAvailableEntry place index addr =
    IsInRange (available_slot_addr place index) available_slot_bytes addr
    ⊎ IsInRange (available_idx_addr place) idx_bytes addr

-- ---- the used ring

-- the ring's index: where the device puts the next element
abbrev pub used_idx : List ℕ → Place → ℕ
used_idx mem place = le16_at mem (used_idx_addr place)

-- the element that was written last: le32 head and le32 length
abbrev pub last_used_element : List ℕ → Place → ℕ × ℕ
last_used_element mem place =
    let element = used_element_addr place (index_before (used_idx mem place)) in
    (le32_at mem element, le32_at mem (element + 4))

-- the memory with an element in the slot of an index, le32 head and le32 length, and with the index after it
unfoldable pub with_used_entry : List ℕ → Place → ℕ → ℕ → ℕ → List ℕ
with_used_entry mem place index head len =
    let element = used_element_addr place index in
    with_le16 (with_le32 (with_le32 mem element head) (element + 4) len) (used_idx_addr place) (index_after index)

-- the address is one of the element of an index, or of the ring's index
abbrev pub IsInUsedEntry : Place → ℕ → ℕ → Type 0
IsInUsedEntry place index addr =
    IsInRange (used_element_addr place index) used_element_bytes addr ⊎ IsInRange (used_idx_addr place) idx_bytes addr

-- ---- both rings

-- the bytes of the area are zero, and only they are changed
pub record ClearsArea (before after : List ℕ) (area : Area) : Type 0 where
  pub zeros : (addr : ℕ) → IsInArea area addr → slice_index after addr ≡ 0
  pub only : ChangesOnly before after (IsInArea area)

-- the address lies in one of both rings, with their event fields
abbrev pub IsInRings : Place → ℕ → Type 0
IsInRings place addr = IsInArea (available_area place) addr ⊎ IsInArea (used_area place) addr

-- both rings are zero, and only their bytes are changed
pub record ClearsRings (before after : List ℕ) (place : Place) : Type 0 where
  pub zeros : (addr : ℕ) → IsInRings place addr → slice_index after addr ≡ 0
  pub only : ChangesOnly before after (IsInRings place)
