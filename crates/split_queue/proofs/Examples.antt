-- The definitions at worked examples.
use Rattle.std.proofs.Common.{◌≡◌, ℕ, List, [], ◌∷◌, ◌++◌, map, replicate, Some, None, Ok, Err, refl}
use Rattle.std.specs.Int.Count.{ones}
use Rattle.byte_numbers.specs.Numbers.{le16_at, le32_at, le64_at}
use Rattle.split_queue.specs.Descriptors.{descriptor_at, with_le16, with_le32}
use Rattle.split_queue.specs.DeviceEnds.{pop_answer}
use Rattle.split_queue.specs.Rings.{with_used_entry}
use Rattle.split_queue.specs.Setup.{setup_fault}
use Rattle.split_queue.specs.Walks.{buffer_of, buffer_fault, next_fault, next_in_chain, chain_from, chain_of, fault_in_walk}
use Rattle.split_queue.specs.declared.queue_place.Place.{Place}
use Rattle.split_queue.specs.declared.error.SetupErr.TheVariants as setup
use Rattle.split_queue.specs.declared.error.RingErr.TheVariants as fault

-- ---- places

small : (used : ℕ) → Place
small used = record { size = 2; desc = 0; avail = 32; used = used }

is_placed : setup_fault (small 44) 256 ≡ None
unfolding setup_fault small ones
is_placed = refl

used_not_at_4 : setup_fault (small 42) 256 ≡ Some setup.Align
unfolding setup_fault small ones
used_not_at_4 = refl

-- the available ring ends at 42, with its event field
rings_meet : setup_fault (small 40) 256 ≡ Some setup.Overlap
unfolding setup_fault small ones
rings_meet = refl

-- the used ring has 22 bytes
one_byte_short : setup_fault (small 44) 65 ≡ Some setup.Area
unfolding setup_fault small ones
one_byte_short = refl

size_of_3 : setup_fault (record { size = 3; desc = 1; avail = 0; used = 0 }) 0 ≡ Some setup.Size
unfolding setup_fault ones
size_of_3 = refl

-- ---- a queue of 4 descriptors: the first holds a command of 24 bytes at 128, the second room for 8 bytes at 160

ring : Place
ring = record { size = 4; desc = 0; avail = 64; used = 80 }

-- the memory where the first descriptor has this next field
memory : (next : ℕ) → List ℕ
memory next = 128 ∷ replicate 7 0 ++ (24 ∷ 0 ∷ 0 ∷ 0 ∷ 1 ∷ 0 ∷ next ∷ 0 ∷ [])
    ++ (160 ∷ replicate 7 0) ++ (8 ∷ 0 ∷ 0 ∷ 0 ∷ 2 ∷ 0 ∷ 0 ∷ 0 ∷ []) ++ replicate 96 0 ++ (7 ∷ replicate 127 0)

-- the index wraps: the last one before 2^16 stands in slot 3
popped_at_the_wrap : pop_answer (memory 1) ring 65535 ≡ Ok (Some (record { head = 0; readable = record { items = 7 ∷ replicate 23 0 }; writable = record { items = record { addr = 160; len = 8 } ∷ [] } }))
unfolding pop_answer chain_of chain_from next_in_chain buffer_fault next_fault descriptor_at le16_at le32_at le64_at memory ring
popped_at_the_wrap = refl

nothing_at_index_0 : pop_answer (memory 1) ring 0 ≡ Ok None
unfolding pop_answer chain_of chain_from next_in_chain buffer_fault next_fault descriptor_at le16_at le32_at le64_at memory ring
nothing_at_index_0 = refl

loop : pop_answer (memory 0) ring 65535 ≡ Err (fault.Loop 0)
unfolding pop_answer chain_of chain_from next_in_chain buffer_fault next_fault descriptor_at le16_at le32_at le64_at memory ring
loop = refl

-- the same in the walk's words: descriptor 0 names itself
loop_at_0 : fault_in_walk (memory 0) ring (0 ∷ []) 0 ≡ Some (fault.Loop 0)
unfolding fault_in_walk buffer_fault next_fault descriptor_at le16_at le32_at le64_at memory ring
loop_at_0 = refl

-- the second descriptor of the chain above has none
none_at_1 : fault_in_walk (memory 1) ring (0 ∷ 1 ∷ []) 1 ≡ None
unfolding fault_in_walk buffer_fault next_fault descriptor_at le16_at le32_at le64_at memory ring
none_at_1 = refl

-- both hold these buffers
buffers_of_0_and_1 : map (λ n. buffer_of (descriptor_at (memory 1) ring n)) (0 ∷ 1 ∷ []) ≡ record { addr = 128; len = 24 } ∷ record { addr = 160; len = 8 } ∷ []
unfolding descriptor_at le16_at le32_at le64_at memory ring
buffers_of_0_and_1 = refl

next_past_the_table : pop_answer (memory 4) ring 65535 ≡ Err (fault.BadNext 0)
unfolding pop_answer chain_of chain_from next_in_chain buffer_fault next_fault descriptor_at le16_at le32_at le64_at memory ring
next_past_the_table = refl

-- five more than a size of 4
jump : pop_answer (memory 1) ring 65531 ≡ Err (fault.IdxJump 0)
unfolding pop_answer chain_of chain_from next_in_chain buffer_fault next_fault descriptor_at le16_at le32_at le64_at memory ring
jump = refl

-- the used element of index 65535 stands at 108, and the index after it is 0
used_id : le32_at (with_used_entry (memory 1) ring 65535 3 8) 108 ≡ 3
unfolding with_used_entry with_le16 with_le32 le32_at memory ring
used_id = refl

used_len : le32_at (with_used_entry (memory 1) ring 65535 3 8) 112 ≡ 8
unfolding with_used_entry with_le16 with_le32 le32_at memory ring
used_len = refl

used_idx : le16_at (with_used_entry (memory 1) ring 65535 3 8) 82 ≡ 0
unfolding with_used_entry with_le16 with_le32 le16_at memory ring
used_idx = refl
