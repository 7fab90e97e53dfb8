-- The device's end gets of a posted chain what was posted.
use Rattle.std.proofs.Common.{◌≡◌, ◌≢◌, ℕ, ◌-◌, ◌^◌, ◌<◌, ◌≤◌, inl, inr, List, [], ◌∷◌, length, take, drop, reverse, get_or, Option, Some, Ok, refl, sym, ap, ◌∙◌, subst, arith}
use Rattle.std.specs.List.{All}
use Rattle.std.proofs.lemmas.Bool.{cond-false, ne_eqb, le-ltb, lt-leb}
use Rattle.std.proofs.lemmas.List.{get_or-take}
use Rattle.std.proofs.lemmas.List.Elements.{All-take}
use Rattle.byte_numbers.proofs.NumberLaws.{HaveSame}
use Rattle.guest_mem.specs.Memory.{ChangesOnly}
use Rattle.guest_mem.proofs.Changes.{changes-then}
use Rattle.split_queue.specs.Agreement.{Agree, IsInQueue, IsClearOf, ArePostable, chain_of_pieces}
use Rattle.split_queue.specs.Chains.{most_descriptors, bytes_in, PieceLiesIn}
use Rattle.split_queue.specs.DeviceEnds.{DeviceEndState, as_pop_answer, pop_answer}
use Rattle.split_queue.specs.DriverEnds.{DriverEndState, chain_numbers, with_descriptors, with_post}
use Rattle.split_queue.specs.QueuePlaces.{table_bytes}
use Rattle.split_queue.specs.Pools.{AreFree}
use Rattle.split_queue.specs.Rings.{available_idx, available_head, index_after, index_gap, with_available_entry}
use Rattle.split_queue.specs.Setup.{IsInArea, table_area, available_area, IsPlaced}
use Rattle.split_queue.specs.Walks.{bare_chain, chain_of}
use Rattle.split_queue.proofs.PoolLaws.{all_weaker}
use Rattle.split_queue.proofs.ChainNumbers.{AreFree-chain_numbers, AreFree-below, length-chain_numbers}
use Rattle.split_queue.proofs.RingLaws.{with_descriptors-changes, with_available_entry-changes, with_available_entry-idx}
use Rattle.split_queue.proofs.PostedDescriptors.{FitsFields, AreLinked-same, with_descriptors-linked, with_available_entry-head}
use Rattle.split_queue.proofs.ReplyLaws.{bytes_in-same}
use Rattle.split_queue.proofs.BufferLaws.{chain_with}
use Rattle.split_queue.proofs.PostedWalk.{unvisited_more, chain_from-linked}
use Rattle.split_queue.specs.declared.queue_place.Place.{Place}
use Rattle.split_queue.specs.declared.chain.Chain.{Chain}
use Rattle.split_queue.specs.declared.chain.Piece.{Piece}

-- a pop where one chain was made available
pop_answer-next : (mem : List ℕ) (place : Place) (index head : ℕ) (chain : Chain) → index < 2 ^ 16 → 0 < place.size → head < place.size → available_idx mem place ≡ index_after index → available_head mem place index ≡ head → chain_of mem place head ≡ Ok chain → pop_answer mem place index ≡ Ok (Some chain)
unfolding pop_answer
pop_answer-next mem place index head chain small some below idx slot found =
    let moved : index_after index ≢ index = λ same. omega (arith, same) in
    let gap : index_gap index (index_after index) ≤ place.size = omega arith in
    rw (idx, slot) (cond-false _ _ _ (ne_eqb _ _ moved) ∙ cond-false _ _ _ (le-ltb _ _ gap) ∙ ap as_pop_answer (cond-false _ _ _ (lt-leb _ _ below) ∙ found))

-- ---- a chain of one piece or more

module _ (mem : List ℕ) (place : Place) (owners : List (Option ℕ)) (index number : ℕ) (numbers : List ℕ) (piece : Piece) (later : List Piece) (readable : ℕ) where
  abbrev pieces : List Piece
  pieces = piece ∷ later

  abbrev table_memory : List ℕ
  table_memory = with_descriptors mem place (number ∷ numbers) pieces readable

  abbrev after : List ℕ
  after = with_available_entry table_memory place index number

  module _ (placed : IsPlaced place (length mem)) (same_size : length owners ≡ place.size) (small : place.size < 2 ^ 16) (free_list : AreFree owners (number ∷ numbers)) where
    -- nothing but the queue was changed
    table_memory-changes : ChangesOnly mem table_memory (IsInArea (table_area place))
    table_memory-changes = with_descriptors-changes place (number ∷ numbers) pieces readable mem placed.table (subst (λ size. All (λ n. n < size) (number ∷ numbers)) same_size (AreFree-below owners (number ∷ numbers) free_list))

    table_memory-size : length table_memory ≡ length mem
    table_memory-size = table_memory-changes.size

    table_memory-placed : IsPlaced place (length table_memory)
    table_memory-placed = subst (IsPlaced place) (sym table_memory-size) placed

    after-changes : ChangesOnly table_memory after (IsInArea (available_area place))
    after-changes = with_available_entry-changes table_memory place index number placed.some table_memory-placed.available

    queue-changes : ChangesOnly mem after (IsInQueue place)
    queue-changes = changes-then mem table_memory after (IsInArea (table_area place)) (IsInArea (available_area place)) (IsInQueue place) (λ addr inside. inl inside) (λ addr inside. inr (inl inside)) table_memory-changes after-changes

    after-size : length after ≡ length mem
    after-size = queue-changes.size

    table-same : HaveSame table_memory after place.desc (table_bytes place.size)
    table-same = record {
      same = λ k low high. after-changes.others k (λ inside. elim placed.table_available [ inl l ↦ omega arith | inr g ↦ omega arith ]);
    }

    module _ (fields : All FitsFields pieces) (as_long : length numbers ≡ length later) (postable : ArePostable (length mem) place pieces readable) where
      -- the walk from the head gives the pieces, in each memory with this table and these bytes in the readable pieces
      chain_of-linked : (last : List ℕ) → HaveSame table_memory last place.desc (table_bytes place.size) → length last ≡ length mem
          → bytes_in last (take readable pieces) ≡ bytes_in mem (take readable pieces)
          → chain_of last place number ≡ Ok (chain_of_pieces mem number pieces readable)
      unfolding chain_of
      chain_of-linked last same size bytes =
          let linked = AreLinked-same place owners same_size table_memory last (number ∷ numbers) pieces readable same free_list (with_descriptors-linked place owners same_size mem (number ∷ numbers) pieces readable small placed.table free_list fields) in
          let not_visited = unvisited_more [] numbers number (all_weaker (λ other. other ≢ number) _ (λ other ne. refl) numbers free_list.2) free_list.2 in
          chain_from-linked last place owners (number ∷ []) (bare_chain number) (most_descriptors - 1) number numbers piece later readable (omega (arith, postable.few)) (record {
            descriptors = linked;
            same_size = same_size;
            free_list = free_list.3;
            unvisited = not_visited;
            as_long = as_long;
            inside = subst (λ n. All (PieceLiesIn n) pieces) (sym size) postable.inside;
            short = omega (arith, postable.short);
            readable_first = λ some. refl;
          }) ∙ ap Ok (ap (λ xs. chain_with number xs (drop readable pieces)) bytes)

      after-chain : chain_of after place number ≡ Ok (chain_of_pieces mem number pieces readable)
      after-chain =
          chain_of-linked after table-same after-size
          (bytes_in-same mem after (IsInQueue place) (take readable pieces) queue-changes (All-take (IsClearOf place) readable pieces postable.clear))

      after-pop_answer : index < 2 ^ 16 → pop_answer after place index ≡ Ok (Some (chain_of_pieces mem number pieces readable))
      after-pop_answer index_small =
          let within : number < length owners = free_list.0 in
          pop_answer-next after place index number (chain_of_pieces mem number pieces readable) index_small placed.some (omega (arith, same_size)) (with_available_entry-idx table_memory place index number placed.some table_memory-placed.available) (with_available_entry-head table_memory place index number table_memory-placed (omega (arith, same_size))) after-chain

-- ---- a posted chain

-- the same of any numbers and pieces of one length
pop_answer-numbers : (mem : List ℕ) (place : Place) (owners : List (Option ℕ)) (index : ℕ) (numbers : List ℕ) (pieces : List Piece) (readable : ℕ) → IsPlaced place (length mem) → length owners ≡ place.size → place.size < 2 ^ 16 → AreFree owners numbers → All FitsFields pieces → length numbers ≡ length pieces → 0 < length pieces → ArePostable (length mem) place pieces readable → index < 2 ^ 16 → pop_answer (with_available_entry (with_descriptors mem place numbers pieces readable) place index (get_or numbers 0 0)) place index ≡ Ok (Some (chain_of_pieces mem (get_or numbers 0 0) pieces readable))
pop_answer-numbers mem place owners index numbers [] readable placed same_size small free_list fields as_long some postable index_small = absurd (omega arith)
pop_answer-numbers mem place owners index [] (piece ∷ later) readable placed same_size small free_list fields as_long some postable index_small = absurd (omega (arith, as_long))
pop_answer-numbers mem place owners index (number ∷ numbers) (piece ∷ later) readable placed same_size small free_list fields as_long some postable index_small = after-pop_answer mem place owners index number numbers piece later readable placed same_size small free_list fields (omega (arith, as_long)) postable index_small

pub chain_of-numbers : (mem : List ℕ) (place : Place) (owners : List (Option ℕ)) (numbers : List ℕ) (pieces : List Piece) (readable : ℕ)
    → IsPlaced place (length mem) → length owners ≡ place.size → place.size < 2 ^ 16 → AreFree owners numbers → All FitsFields pieces
    → length numbers ≡ length pieces → 0 < length pieces → ArePostable (length mem) place pieces readable → (last : List ℕ)
    → HaveSame (with_descriptors mem place numbers pieces readable) last place.desc (table_bytes place.size) → length last ≡ length mem
    → bytes_in last (take readable pieces) ≡ bytes_in mem (take readable pieces)
    → chain_of last place (get_or numbers 0 0) ≡ Ok (chain_of_pieces mem (get_or numbers 0 0) pieces readable)
chain_of-numbers mem place owners numbers [] readable placed same_size small free_list fields as_long some postable last same size bytes = absurd (omega arith)
chain_of-numbers mem place owners [] (piece ∷ later) readable placed same_size small free_list fields as_long some postable last same size bytes = absurd (omega (arith, as_long))
chain_of-numbers mem place owners (number ∷ numbers) (piece ∷ later) readable placed same_size small free_list fields as_long some postable last same size bytes =
    chain_of-linked mem place owners 0 number numbers piece later readable placed same_size small free_list fields (omega (arith, as_long)) postable last same size bytes

-- what was posted is popped, where the ends agree
pub post-pops : (mem : List ℕ) (end : DriverEndState) (device : DeviceEndState) (pieces : List Piece) (readable : ℕ) → 0 < length pieces → length pieces ≤ length end.pool.free → IsPlaced end.place (length mem) → length end.pool.owners ≡ end.place.size → length end.pool.owners < 2 ^ 16 → AreFree end.pool.owners end.pool.free → All (λ p. p.len < 2 ^ 32) pieces → Agree end device mem → ArePostable (length mem) end.place pieces readable → pop_answer (with_post mem end pieces readable) device.place device.next ≡ Ok (Some (chain_of_pieces mem (get_or (reverse end.pool.free) 0 0) pieces readable))
post-pops mem end device pieces readable some enough placed same_size small free_list lens agree postable =
    let numbers = chain_numbers (length pieces) end.pool.free in
    let first : get_or numbers 0 0 ≡ get_or (reverse end.pool.free) 0 0 = get_or-take (length pieces) (reverse end.pool.free) 0 0 some in
    let fields : All FitsFields pieces = λ k d below. let inside = postable.inside k d below in record { addr = omega (arith, inside, placed.short); len = lens k d below } in
    rw (agree.place, agree.available_next) (subst (λ head. pop_answer (with_available_entry (with_descriptors mem end.place numbers pieces readable) end.place end.next head) end.place end.next ≡ Ok (Some (chain_of_pieces mem head pieces readable))) first
    (pop_answer-numbers mem end.place end.pool.owners end.next numbers pieces readable placed same_size (omega arith) (AreFree-chain_numbers end.pool.owners (length pieces) end.pool.free free_list) fields (length-chain_numbers (length pieces) end.pool.free enough) some postable agree.available_small))
