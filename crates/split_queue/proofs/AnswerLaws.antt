-- After a round with a reply the queue holds the command and the reply: neither the reply nor the used element touches
-- the chain, nor its descriptors.
use Rattle.std.proofs.Common.{◌≡◌, ℕ, ◌+◌, ◌^◌, ◌<◌, ◌≤◌, inl, inr, List, length, take, drop, reverse, get_or, Ok, refl, sym, ap, ◌∙◌, subst, arith}
use Rattle.std.specs.List.{All}
use Rattle.std.proofs.lemmas.List.{get_or-take, get_or-drop, length-drop}
use Rattle.std.proofs.lemmas.List.Elements.{All-take}
use Rattle.byte_numbers.proofs.NumberLaws.{HaveSame, le16_at-same}
use Rattle.guest_mem.specs.Memory.{ChangesOnly}
use Rattle.split_queue.specs.Agreement.{IsInQueue, IsClearOf, chain_of_pieces, Round, IsReplyRound, HoldPieces, HoldsAnswer}
use Rattle.split_queue.specs.Chains.{bytes_in, PieceLiesIn, IsInPiece, IsInPieces, AreApart}
use Rattle.split_queue.specs.DeviceEnds.{DeviceEndState}
use Rattle.split_queue.specs.DriverEnds.{DriverEndState, IsValidDriver, chain_numbers, with_descriptors, with_post}
use Rattle.split_queue.specs.Pools.{AreFree, first_free}
use Rattle.split_queue.specs.QueuePlaces.{available_slot_addr, available_slot_bytes, table_bytes}
use Rattle.split_queue.specs.Rings.{index_after, index_before, available_idx, available_head, with_used_entry}
use Rattle.split_queue.specs.Setup.{IsPlaced, IsInArea, table_area, available_area, used_area}
use Rattle.split_queue.specs.Walks.{chain_of, HoldsWalk}
use Rattle.split_queue.specs.declared.chain.Chain.{Chain}
use Rattle.split_queue.specs.declared.chain.Piece.{Piece}
use Rattle.split_queue.proofs.AgreementLaws.{table-changes, slot-changes, post-changes, at_push-agree, at_take-is, element, enough_free, head-was_free, round-agrees}
use Rattle.split_queue.proofs.ChainNumbers.{AreFree-chain_numbers, length-chain_numbers}
use Rattle.split_queue.proofs.LinkedWalk.{walk-is-numbers, numbers-hold_pieces}
use Rattle.split_queue.proofs.OutcomeLaws.{chain-walk}
use Rattle.split_queue.proofs.PostedChain.{chain_of-numbers}
use Rattle.split_queue.proofs.PostedDescriptors.{FitsFields, AreLinked, AreLinked-same, with_descriptors-linked, with_available_entry-head}
use Rattle.split_queue.proofs.ReplyLaws.{bytes_in-same, with_bytes_in-changes, with_bytes_in-begins}
use Rattle.split_queue.proofs.RingLaws.{HasElement, with_used_entry-changes}

before-after : (index : ℕ) → index < 2 ^ 16 → index_before (index_after index) ≡ index
before-after index small = omega arith

-- a piece that is apart from each of some others holds none of their bytes
apart-all : (piece : Piece) (others : List Piece) → All (AreApart piece) others → (addr : ℕ) → IsInPiece addr piece → ¬ IsInPieces others addr
apart-all piece others apart addr inside (k, other, below, is, there) =
    let here : AreApart piece (get_or others k other) = apart k other below in
    here addr inside (subst (λ p. IsInPiece addr p) (sym is) there)

module _ (driver : DriverEndState) (device : DeviceEndState) (round : Round) (reply : List ℕ) (end : IsValidDriver driver) (answer : IsReplyRound driver device round reply) where
  abbrev readables : List Piece
  readables = take round.readable round.pieces

  abbrev writables : List Piece
  writables = drop round.readable round.pieces

  abbrev table_memory : List ℕ
  table_memory = with_descriptors round.at_post driver.place (chain_numbers (length round.pieces) driver.pool.free) round.pieces round.readable

  abbrev post_memory : List ℕ
  post_memory = with_post round.at_post driver round.pieces round.readable

  abbrev last_memory : List ℕ
  last_memory = with_used_entry round.at_push driver.place driver.used round.head round.len

  -- what each step changes
  post_change : ChangesOnly round.at_post post_memory (IsInQueue driver.place)
  post_change = post-changes driver device end round.at_post round.pieces round.readable answer.is_round.agree

  table_change : ChangesOnly round.at_post table_memory (IsInArea (table_area driver.place))
  table_change = table-changes driver device end round.at_post round.pieces round.readable answer.is_round.agree

  slot_change : ChangesOnly table_memory post_memory (IsInArea (available_area driver.place))
  slot_change = slot-changes driver device end round.at_post round.pieces round.readable answer.is_round.agree

  push_size : driver.mem_len ≡ length round.at_push
  push_size = (at_push-agree driver device round end answer.is_round).driver_memory

  post_size : length post_memory ≡ length round.at_post
  post_size = post_change.size

  writables-inside : All (PieceLiesIn (length post_memory)) writables
  writables-inside = λ k d below.
      let at : get_or writables k d ≡ get_or round.pieces (round.readable + k) d = get_or-drop round.readable round.pieces k d in
      let here = answer.postable.inside (round.readable + k) d (omega (arith, below, length-drop round.readable round.pieces)) in
      rw (post_size, at) here

  reply_change : ChangesOnly post_memory round.at_push (IsInPieces writables)
  reply_change = rw answer.written (with_bytes_in-changes post_memory writables reply writables-inside)

  used_change : ChangesOnly round.at_push last_memory (IsInArea (used_area driver.place))
  used_change = with_used_entry-changes round.at_push driver.place driver.used round.head round.len end.valid.placed.some (omega (arith, end.valid.placed.used, push_size))

  -- bytes of the queue outside of the used ring stay after the post
  queue-same : (start size : ℕ) → ((k : ℕ) → start ≤ k → k < start + size → IsInQueue driver.place k)
      → ((k : ℕ) → start ≤ k → k < start + size → ¬ IsInArea (used_area driver.place) k) → HaveSame post_memory last_memory start size
  queue-same start size in_queue not_used = record {
    same = λ k low high. used_change.others k (not_used k low high) ∙ answer.is_round.keeps.others k (λ out. out (in_queue k low high));
  }

  table-stays : HaveSame table_memory last_memory driver.place.desc (table_bytes driver.place.size)
  table-stays =
      let later = queue-same driver.place.desc (table_bytes driver.place.size)
      (λ k low high. inl (low, high))
      (λ k low high inside. elim end.valid.placed.table_used [ inl l ↦ omega (arith, l, high, inside.0) | inr g ↦ omega (arith, g, low, inside.1) ]) in
      record {
        same = λ k low high. later.same k low high
            ∙ slot_change.others k (λ inside. elim end.valid.placed.table_available [ inl l ↦ omega (arith, l, high, inside.0) | inr g ↦ omega (arith, g, low, inside.1) ]);
      }

  slot-stays : HaveSame post_memory last_memory (available_slot_addr driver.place driver.next) available_slot_bytes
  slot-stays =
      let some = end.valid.placed.some in
      queue-same (available_slot_addr driver.place driver.next) available_slot_bytes
      (λ k low high. inr (inl (omega arith, omega arith)))
      (λ k low high inside. elim end.valid.placed.available_used [ inl l ↦ omega arith | inr g ↦ omega arith ])

  -- the readable pieces keep their bytes, and the writable ones keep the reply
  clear-of_used : (pieces : List Piece) → All (IsClearOf driver.place) pieces → All (λ p. (addr : ℕ) → IsInPiece addr p → ¬ IsInArea (used_area driver.place) addr) pieces
  clear-of_used pieces clear = λ k d below addr inside in_used. clear k d below addr inside (inr (inr in_used))

  readables-clear : All (IsClearOf driver.place) readables
  readables-clear = All-take (IsClearOf driver.place) round.readable round.pieces answer.postable.clear

  writables-clear : All (IsClearOf driver.place) writables
  writables-clear = λ k d below.
      let at : get_or writables k d ≡ get_or round.pieces (round.readable + k) d = get_or-drop round.readable round.pieces k d in
      let here = answer.postable.clear (round.readable + k) d (omega (arith, below, length-drop round.readable round.pieces)) in
      rw at here

  command-stays : bytes_in last_memory readables ≡ bytes_in round.at_post readables
  command-stays =
      bytes_in-same round.at_push last_memory (IsInArea (used_area driver.place)) readables used_change (clear-of_used readables readables-clear)
      ∙ bytes_in-same post_memory round.at_push (IsInPieces writables) readables reply_change (λ k d below. apart-all (get_or readables k d) writables (answer.places.command k d below))
      ∙ bytes_in-same round.at_post post_memory (IsInQueue driver.place) readables post_change readables-clear

  reply-stays : take (length reply) (bytes_in last_memory writables) ≡ reply
  reply-stays =
      ap (take (length reply)) (bytes_in-same round.at_push last_memory (IsInArea (used_area driver.place)) writables used_change (clear-of_used writables writables-clear))
      ∙ ap (λ mem. take (length reply) (bytes_in mem writables)) answer.written
      ∙ with_bytes_in-begins post_memory writables reply writables-inside answer.places.reply answer.fits

  -- the head, and its chain
  first-is : get_or (chain_numbers (length round.pieces) driver.pool.free) 0 0 ≡ round.head
  first-is = get_or-take (length round.pieces) (reverse driver.pool.free) 0 0 answer.is_round.some ∙ sym (enough_free driver device round end answer.is_round).1

  last_size : length last_memory ≡ length round.at_post
  last_size = used_change.size ∙ sym push_size ∙ answer.is_round.agree.driver_memory

  abbrev numbers : List ℕ
  numbers = chain_numbers (length round.pieces) driver.pool.free

  abbrev posted_chain : Chain
  posted_chain = chain_of_pieces round.at_post round.head round.pieces round.readable

  placed : IsPlaced driver.place (length round.at_post)
  placed = subst (λ n. IsPlaced driver.place n) answer.is_round.agree.driver_memory end.valid.placed

  fields : All FitsFields round.pieces
  fields = λ k d below. record {
    addr = omega (arith, answer.postable.inside k d below, placed.short);
    len = answer.lengths k d below;
  }

  numbers-free : AreFree driver.pool.owners numbers
  numbers-free = AreFree-chain_numbers driver.pool.owners (length round.pieces) driver.pool.free end.free_list

  numbers-as_long : length numbers ≡ length round.pieces
  numbers-as_long = length-chain_numbers (length round.pieces) driver.pool.free (enough_free driver device round end answer.is_round).0

  size-small : driver.place.size < 2 ^ 16
  size-small = omega (arith, end.few, end.valid.same_size)

  chain-stays : chain_of last_memory driver.place round.head ≡ Ok posted_chain
  chain-stays =
      let at_first = chain_of-numbers round.at_post driver.place driver.pool.owners numbers round.pieces round.readable placed end.valid.same_size size-small numbers-free fields numbers-as_long answer.is_round.some answer.postable last_memory table-stays last_size command-stays in
      subst (λ n. chain_of last_memory driver.place n ≡ Ok (chain_of_pieces round.at_post n round.pieces round.readable)) first-is at_first

  -- the longest walk from the head is along the descriptors that the chain got, which hold its pieces
  numbers-linked : AreLinked last_memory driver.place numbers round.pieces round.readable
  numbers-linked =
      AreLinked-same driver.place driver.pool.owners end.valid.same_size table_memory last_memory numbers round.pieces round.readable table-stays numbers-free
      (with_descriptors-linked driver.place driver.pool.owners end.valid.same_size round.at_post numbers round.pieces round.readable size-small placed.table numbers-free fields)

  numbers-walk : HoldsWalk last_memory driver.place posted_chain numbers
  numbers-walk =
      let below : round.head < driver.place.size = omega (arith, (head-was_free driver device round end answer.is_round).0, end.valid.same_size) in
      let found = chain-walk last_memory driver.place round.head below posted_chain (sym chain-stays) in
      let is = walk-is-numbers last_memory driver.place driver.pool.owners numbers round.pieces round.readable end.valid.same_size numbers-free numbers-as_long (omega (arith, numbers-as_long, answer.is_round.some)) numbers-linked posted_chain found.0 first-is found.1 in
      subst (HoldsWalk last_memory driver.place posted_chain) is found.1

  numbers-pieces : HoldPieces last_memory driver.place numbers round.pieces round.readable
  numbers-pieces = numbers-hold_pieces last_memory driver.place driver.pool.owners numbers round.pieces round.readable end.valid.same_size numbers-free numbers-as_long (omega (arith, numbers-as_long, answer.is_round.some)) numbers-linked

  head-in_slot : available_head last_memory driver.place driver.next ≡ round.head
  head-in_slot =
      let free = enough_free driver device round end answer.is_round in
      let table_placed = subst (λ n. IsPlaced driver.place n) (answer.is_round.agree.driver_memory ∙ sym table_change.size) end.valid.placed in
      let small : first_free driver.pool.free < 2 ^ 16 = omega (arith, sym free.1, (head-was_free driver device round end answer.is_round).0, end.few) in
      le16_at-same post_memory last_memory (available_slot_addr driver.place driver.next) slot-stays
      ∙ with_available_entry-head table_memory driver.place driver.next (first_free driver.pool.free) table_placed small ∙ sym free.1

  pub answer-held : HoldsAnswer round.at_take driver.place posted_chain round.pieces round.readable reply round.len
  answer-held =
      let is = at_take-is driver device round end answer.is_round in
      let has : HasElement last_memory driver.place driver.used round.head round.len = element driver device round end answer.is_round in
      let idx : available_idx last_memory driver.place ≡ index_after driver.next = rw is at ((round-agrees driver device round end answer.is_round).available_idx) in
      let available_before = before-after driver.next answer.is_round.agree.available_small in
      let used_before = before-after driver.used answer.is_round.agree.used_small in
      rw is (record {
        in_last_slot = rw (idx, available_before) head-in_slot;
        is_chain = chain-stays;
        walk = numbers;
        holds_walk = numbers-walk;
        hold_pieces = numbers-pieces;
        begins = reply-stays;
        last_used = rw (has.idx, used_before, has.is_head, has.is_len) refl;
      })
