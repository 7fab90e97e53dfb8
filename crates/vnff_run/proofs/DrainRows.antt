-- Worked rows of drains, computed from the definitions: an image of guest memory, and what its drain ends with.
use Rattle.std.proofs.Common.{◌≡◌, ℕ, List, [], ◌∷◌, ◌++◌, replicate, codes, Some, refl}
use Prim.Native.String.{String}
use Rattle.std.specs.Fmt.{digits}
use Rattle.std.specs.Int.Count.{ones}
use Rattle.vnff_base.specs.Numbers.{number_of}
use Rattle.byte_numbers.specs.Numbers.{le16_at, le32_at, le64_at}
use Rattle.split_queue.specs.Descriptors.{descriptor_at, with_le16, with_le32}
use Rattle.split_queue.specs.Rings.{with_used_entry}
use Rattle.split_queue.specs.Setup.{setup_fault}
use Rattle.split_queue.specs.Walks.{buffer_fault, chain_from, chain_of, next_fault, next_in_chain}
use Rattle.vnff_run.specs.Drain.{chain_line, drain_text, drained_chains, end_line, ring_fault_line}
use Rattle.vnff_run.specs.DrainWords.{place_from_words, size_of}
use Rattle.vnff_run.specs.Forms.{word_form}
use Rattle.vnff_run.specs.Inputs.{queue_in}
use Rattle.vnff_run.specs.Outcomes.{Outcome, outcome_in, outcome_of, refusal_line, refusal_words}

-- the words `drain IMAGE SIZE DESC AVAIL USED`, and a shelf that has this image under each name
drain_of : String → String → String → String → List ℕ → Outcome
drain_of size desc avail used image =
    outcome_of (codes "drain" ∷ codes "i" ∷ codes size ∷ codes desc ∷ codes avail ∷ codes used ∷ []) (λ _. Some image)

ends : ℕ → String → Outcome
ends status text = record { status = status; text = codes text }

-- 256 bytes with a queue of 4 descriptors: the first has 24 bytes at 128 and names the next one, which has room for 8
-- bytes at 160; the available ring at 64 has the head 0, and this index
image : (next idx : ℕ) → List ℕ
image next idx = 128 ∷ replicate 7 0 ++ (24 ∷ 0 ∷ 0 ∷ 0 ∷ 1 ∷ 0 ∷ next ∷ 0 ∷ [])
    ++ (160 ∷ replicate 7 0) ++ (8 ∷ 0 ∷ 0 ∷ 0 ∷ 2 ∷ 0 ∷ 0 ∷ 0 ∷ []) ++ replicate 34 0 ++ (idx ∷ replicate 61 0) ++ (7 ∷ replicate 127 0)

one_chain : drain_of "4" "0" "64" "80" (image 1 1) ≡ ends 0 "chain 0 070000000000000000000000000000000000000000000000 8\nend 1\n"
unfolding drain_of ends image digits ones number_of le16_at le32_at le64_at descriptor_at with_le16 with_le32 with_used_entry setup_fault buffer_fault chain_from chain_of next_fault next_in_chain chain_line drained_chains drain_text end_line ring_fault_line place_from_words size_of word_form queue_in outcome_in refusal_line refusal_words
one_chain = refl

-- the first descriptor names itself
loop : drain_of "4" "0" "64" "80" (image 0 1) ≡ ends 1 "refused image:0 loop\n"
unfolding drain_of ends image digits ones number_of le16_at le32_at le64_at descriptor_at with_le16 with_le32 with_used_entry setup_fault buffer_fault chain_from chain_of next_fault next_in_chain chain_line drained_chains drain_text end_line ring_fault_line place_from_words size_of word_form queue_in outcome_in refusal_line refusal_words
loop = refl

-- five chains in a ring of four
jump : drain_of "4" "0" "64" "80" (image 1 5) ≡ ends 1 "refused image:5 idxjump\n"
unfolding drain_of ends image digits ones number_of le16_at le32_at le64_at descriptor_at with_le16 with_le32 with_used_entry setup_fault buffer_fault chain_from chain_of next_fault next_in_chain chain_line drained_chains drain_text end_line ring_fault_line place_from_words size_of word_form queue_in outcome_in refusal_line refusal_words
jump = refl

-- the available ring begins in the last descriptor
overlap : drain_of "4" "0" "62" "80" (image 1 1) ≡ ends 1 "refused image overlap\n"
unfolding drain_of ends image digits ones number_of setup_fault place_from_words size_of word_form queue_in outcome_in refusal_line refusal_words
overlap = refl

area : drain_of "4" "0" "64" "224" (image 1 1) ≡ ends 1 "refused image area\n"
unfolding drain_of ends image digits ones number_of setup_fault place_from_words size_of word_form queue_in outcome_in refusal_line refusal_words
area = refl

no_power_of_two : drain_of "3" "0" "64" "80" (image 1 1) ≡ ends 2 ""
unfolding drain_of ends image digits ones number_of place_from_words size_of word_form outcome_in
no_power_of_two = refl

-- two chains, of which the second one's buffer is the front of the used ring: it has what the first one left there
overlapping_image : List ℕ
overlapping_image = 128 ∷ replicate 7 0 ++ (1 ∷ replicate 7 0) ++ (80 ∷ replicate 7 0) ++ (12 ∷ replicate 7 0) ++ replicate 34 0
    ++ (2 ∷ 0 ∷ 0 ∷ 0 ∷ 1 ∷ replicate 57 0) ++ (7 ∷ replicate 127 0)

over_the_used_ring : drain_of "4" "0" "64" "80" overlapping_image ≡ ends 0 "chain 0 07 0\nchain 1 000001000000000000000000 0\nend 2\n"
unfolding drain_of ends overlapping_image digits ones number_of le16_at le32_at le64_at descriptor_at with_le16 with_le32 with_used_entry setup_fault buffer_fault chain_from chain_of next_fault next_in_chain chain_line drained_chains drain_text end_line ring_fault_line place_from_words size_of word_form queue_in outcome_in refusal_line refusal_words
over_the_used_ring = refl
