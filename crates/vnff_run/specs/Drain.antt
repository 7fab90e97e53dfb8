-- What a drain of a split virtqueue finds in an image of guest memory, and what it writes. This project's own; what a
-- chain is, and which faults there are, comes from split_queue.
use Rattle.std.specs.Prelude.{◌≡◌, ℕ, ◌≤◌, zero, suc, nat_lt, if◌then◌else◌, List, [], ◌∷◌, ◌++◌, length, map, codes, decimal, None, Result, Ok, Err}
use Rattle.std.specs.List.{range_with_len}
use Rattle.vnff_base.specs.Hex.{hex_text}
use Rattle.byte_numbers.specs.Bytes.{IsBytes}
use Rattle.split_queue.specs.Chains.{room_of}
use Rattle.split_queue.specs.DeviceEnds.{chain_in_slot}
use Rattle.split_queue.specs.Rings.{available_idx, available_head, with_used_entry}
use Rattle.split_queue.specs.Setup.{setup_fault}
use Rattle.split_queue.specs.declared.chain.Chain.{Chain}
use Rattle.split_queue.specs.declared.queue_place.Place.{Place}
use Rattle.split_queue.specs.declared.error.RingErr.{RingErr}
use Rattle.split_queue.specs.declared.error.RingErr.TheVariants as faults
use Rattle.split_queue.specs.declared.error.SetupErr.{SetupErr}
use Rattle.split_queue.specs.declared.error.SetupErr.TheVariants as setup
use Rattle.ntuple_text.specs.SpecTexts.{line_feed}
use Rattle.vnff_run.specs.declared.drain.Last.{Last}
use Rattle.vnff_run.specs.declared.drain.Last.TheVariants.{Empty, Faulty}

-- ---- what is found

-- the memory after the chain in the slot of an index went back as used, with length 0
abbrev pub with_chain_back : List ℕ → Place → ℕ → List ℕ
with_chain_back mem place index = with_used_entry mem place index (available_head mem place index) 0

-- the memory that so many chains left, which are those from index 0 on
abbrev pub memory_behind : List ℕ → Place → ℕ → List ℕ
memory_behind image place zero = image
memory_behind image place (suc count) = with_chain_back (memory_behind image place count) place count

-- the chain at an index, or its fault, in the memory that the chains before it left
abbrev pub chain_at : List ℕ → Place → ℕ → Result Chain RingErr
chain_at image place index = chain_in_slot (memory_behind image place index) place index

-- what an image has: a chain or its fault at each index from 0 to the available one, unless that is more than the size
unfoldable pub drained_chains : List ℕ → Place → List (Result Chain RingErr)
drained_chains image place =
    let idx = available_idx image place in
    if nat_lt place.size idx then Err (faults.IdxJump idx) ∷ [] else map (chain_at image place) (range_with_len 0 idx)

-- a queue can lie at the place in the image, and its available index is no more than the size
pub record IsDrainable (image : List ℕ) (place : Place) : Type 0 where
  pub bytes : IsBytes image
  pub placed : setup_fault place (length image) ≡ None
  pub few : available_idx image place ≤ place.size

-- what stands behind chains: the first fault among them, or else the index at which the ring stands empty
abbrev pub last_of : ℕ → List (Result Chain RingErr) → Last
last_of index [] = Empty index
last_of index (Ok _ ∷ more) = last_of index more
last_of index (Err fault ∷ _) = Faulty fault

-- how the drain of an image ends
abbrev pub drain_last : List ℕ → Place → Last
drain_last image place = last_of (available_idx image place) (drained_chains image place)

-- ---- what is written

-- `chain HEAD HEX ROOM`: the readable bytes in hexadecimal or `-`, and how many bytes may be written
unfoldable pub chain_line : Chain → List ℕ
chain_line chain =
    codes "chain " ++ (decimal chain.head ++ (codes " " ++ (hex_text chain.readable.items ++ (codes " "
    ++ (decimal (room_of chain.writable.items) ++ line_feed)))))

-- `end NEXT`
unfoldable pub end_line : ℕ → List ℕ
end_line index = codes "end " ++ (decimal index ++ line_feed)

-- the number of a fault, and its name
abbrev pub fault_number : RingErr → ℕ
fault_number (faults.IdxJump idx) = idx
fault_number (faults.BadHead head) = head
fault_number (faults.Indirect number) = number
fault_number (faults.Order number) = number
fault_number (faults.Outside number) = number
fault_number (faults.TooLong number) = number
fault_number (faults.BadNext number) = number
fault_number (faults.Loop number) = number
fault_number (faults.TooMany number) = number

abbrev pub fault_word : RingErr → List ℕ
fault_word (faults.IdxJump _) = codes "idxjump"
fault_word (faults.BadHead _) = codes "badhead"
fault_word (faults.Indirect _) = codes "indirect"
fault_word (faults.Order _) = codes "order"
fault_word (faults.Outside _) = codes "outside"
fault_word (faults.TooLong _) = codes "toolong"
fault_word (faults.BadNext _) = codes "badnext"
fault_word (faults.Loop _) = codes "loop"
fault_word (faults.TooMany _) = codes "toomany"

-- `refused image:NUMBER REASON`
unfoldable pub ring_fault_line : RingErr → List ℕ
ring_fault_line fault =
    codes "refused image:" ++ (decimal (fault_number fault) ++ (codes " " ++ (fault_word fault ++ line_feed)))

-- the lines of the chains before the first fault
abbrev pub chain_lines : List (Result Chain RingErr) → List ℕ
chain_lines [] = []
chain_lines (Ok chain ∷ more) = chain_line chain ++ chain_lines more
chain_lines (Err _ ∷ _) = []

-- the line behind them
abbrev pub last_line : Last → List ℕ
last_line (Empty index) = end_line index
last_line (Faulty fault) = ring_fault_line fault

-- what the drain of an image writes
unfoldable pub drain_text : List ℕ → Place → List ℕ
drain_text image place = chain_lines (drained_chains image place) ++ last_line (drain_last image place)

-- why no queue lies at a place, in a refusal's line. The words of the program give no other size than a queue's.
abbrev pub setup_word : SetupErr → List ℕ
setup_word setup.Size = codes "size"
setup_word setup.Align = codes "align"
setup_word setup.Area = codes "area"
setup_word setup.Overlap = codes "overlap"
