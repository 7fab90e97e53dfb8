-- Where the parts of a queue stand in guest memory, and how many bytes they have (Virtio 1.4 draft, "Split
-- Virtqueues").
use Rattle.std.specs.Prelude.{ℕ, ◌+◌, ◌*◌, ◌%◌}
use Rattle.split_queue.specs.declared.queue_place.Place.{Place}

-- the bytes of a descriptor, of a head in the available ring, and of an element of the used ring
abbrev pub descriptor_bytes : ℕ
descriptor_bytes = 16

abbrev pub available_slot_bytes : ℕ
available_slot_bytes = 2

abbrev pub used_element_bytes : ℕ
used_element_bytes = 8

-- the bytes of a ring before its entries, le16 flags and le16 index, and those after them, an event field of 16 bits
abbrev pub ring_head_bytes : ℕ
ring_head_bytes = 4

abbrev pub ring_event_bytes : ℕ
ring_event_bytes = 2

-- the bytes of a ring before its index, and those of the index
abbrev pub idx_offset : ℕ
idx_offset = 2

abbrev pub idx_bytes : ℕ
idx_bytes = 2

-- the bytes of each area for a queue of `size` descriptors
abbrev pub table_bytes : ℕ → ℕ
table_bytes size = descriptor_bytes * size

abbrev pub available_bytes : ℕ → ℕ
available_bytes size = ring_head_bytes + available_slot_bytes * size + ring_event_bytes

abbrev pub used_bytes : ℕ → ℕ
used_bytes size = ring_head_bytes + used_element_bytes * size + ring_event_bytes

-- where the descriptor of a number stands in the table
abbrev pub descriptor_addr : Place → ℕ → ℕ
descriptor_addr place number = place.desc + descriptor_bytes * number

-- where a ring's index stands, and where the entry of an index does: its slot is the index modulo the size
abbrev pub available_idx_addr : Place → ℕ
available_idx_addr place = place.avail + idx_offset

abbrev pub available_slot_addr : Place → ℕ → ℕ
available_slot_addr place index = place.avail + ring_head_bytes + available_slot_bytes * (index % place.size)

abbrev pub used_idx_addr : Place → ℕ
used_idx_addr place = place.used + idx_offset

abbrev pub used_element_addr : Place → ℕ → ℕ
used_element_addr place index = place.used + ring_head_bytes + used_element_bytes * (index % place.size)
