-- The walk over a chain that was posted gives its pieces.
use Rattle.std.proofs.Common.{◌≡◌, ◌≢◌, ℕ, zero, suc, ◌+◌, ◌-◌, ◌<◌, ◌≤◌, ◌==◌, ◌&&◌, true, false, not, cond, nat_le, nat_lt, List, [], ◌∷◌, ◌++◌, length, length-append, length-take, take, drop, bit_and, Option, Some, None, Ok, refl, sym, ap, ◌∙◌, arith}
use Rattle.std.specs.List.{All, AllByRecursion, list_any, flat_map}
use Rattle.std.proofs.Math.Dec.{eqb-suc-zero}
use Rattle.std.proofs.lemmas.Bool.{cond-true, cond-false, and_right, ne_eqb, le-leb, lt-leb, le-ltb}
use Rattle.std.proofs.lemmas.List.{append-nil, append_assoc}
use Rattle.std.proofs.lemmas.List.Elements.{All-head, All-tail}
use Rattle.std.proofs.lemmas.List.Folds.{list_any-append}
use Rattle.std.proofs.lemmas.List.Sums.{sum_by-cons}
use Rattle.guest_mem.specs.Memory.{bytes_at}
use Rattle.split_queue.specs.Chains.{most_readable, room_of, PieceLiesIn}
use Rattle.split_queue.specs.Descriptors.{descriptor_at, has_next, is_writable, is_indirect}
use Rattle.split_queue.specs.DriverEnds.{piece_descriptor}
use Rattle.split_queue.specs.Pools.{AreFree}
use Rattle.split_queue.specs.Walks.{with_buffer, buffer_fault, next_fault, next_in_chain, chain_from}
use Rattle.split_queue.proofs.ChainSteps.{chain_from-last, chain_from-next}
use Rattle.split_queue.proofs.PostedDescriptors.{AreLinked}
use Rattle.split_queue.proofs.BufferLaws.{chain_with}
use Rattle.split_queue.proofs.NextLaws.{answer_of}
use Rattle.split_queue.specs.declared.queue_place.Place.{Place}
use Rattle.split_queue.specs.declared.descriptor.Descriptor.{Descriptor}
use Rattle.split_queue.specs.declared.chain.Chain.{Chain}
use Rattle.split_queue.specs.declared.chain.Piece.{Piece}
use Rattle.split_queue.specs.declared.error.RingErr.TheVariants as fault

-- ---- what a piece's descriptor says

module _ (piece : Piece) (readable : ℕ) (later : List Piece) (numbers : List ℕ) where
  pub piece_descriptor-has_next : has_next (piece_descriptor piece readable later numbers) ≡ not (length later == 0)
  piece_descriptor-has_next = elim (length later == 0) as (λ b. not (bit_and (cond b 0 1 + cond (readable == 0) 2 0) 1 == 0) ≡ not b) [
    | true ↦ elim (readable == 0) as (λ b. not (bit_and (0 + cond b 2 0) 1 == 0) ≡ false) [ true ↦ refl | false ↦ refl ]
    | false ↦ elim (readable == 0) as (λ b. not (bit_and (1 + cond b 2 0) 1 == 0) ≡ true) [ true ↦ refl | false ↦ refl ]
  ]

  pub piece_descriptor-is_writable : is_writable (piece_descriptor piece readable later numbers) ≡ (readable == 0)
  piece_descriptor-is_writable = elim (readable == 0) as (λ b. not (bit_and (cond (length later == 0) 0 1 + cond b 2 0) 2 == 0) ≡ b) [
    | true ↦ elim (length later == 0) as (λ b. not (bit_and (cond b 0 1 + 2) 2 == 0) ≡ true) [ true ↦ refl | false ↦ refl ]
    | false ↦ elim (length later == 0) as (λ b. not (bit_and (cond b 0 1 + 0) 2 == 0) ≡ false) [ true ↦ refl | false ↦ refl ]
  ]

  piece_descriptor-is_indirect : is_indirect (piece_descriptor piece readable later numbers) ≡ false
  piece_descriptor-is_indirect = elim (readable == 0) as (λ b. not (bit_and (cond (length later == 0) 0 1 + cond b 2 0) 4 == 0) ≡ false) [
    | true ↦ elim (length later == 0) as (λ b. not (bit_and (cond b 0 1 + 2) 4 == 0) ≡ false) [ true ↦ refl | false ↦ refl ]
    | false ↦ elim (length later == 0) as (λ b. not (bit_and (cond b 0 1 + 0) 4 == 0) ≡ false) [ true ↦ refl | false ↦ refl ]
  ]

-- ---- what was gathered

-- the chain with these pieces as well, of which so many are readable
abbrev pub with_pieces : List ℕ → Chain → List Piece → ℕ → Chain
with_pieces mem chain pieces readable = chain_with chain.head (chain.readable.items ++ flat_map (λ p. bytes_at mem p.addr p.len) (take readable pieces)) (chain.writable.items ++ drop readable pieces)

-- one piece's buffer, and then the later pieces
module _ (mem : List ℕ) (chain : Chain) (piece : Piece) (later : List Piece) (numbers : List ℕ) where
  with_writable : with_buffer mem chain (piece_descriptor piece 0 later numbers) ≡ record chain { writable = record { items = chain.writable.items ++ piece ∷ [] } }
  with_writable = cond-true (is_writable (piece_descriptor piece 0 later numbers)) _ _ (piece_descriptor-is_writable piece 0 later numbers)

  with_readable : (readable : ℕ) → with_buffer mem chain (piece_descriptor piece (suc readable) later numbers) ≡ record chain { readable = record { items = chain.readable.items ++ bytes_at mem piece.addr piece.len } }
  with_readable readable = cond-false (is_writable (piece_descriptor piece (suc readable) later numbers)) _ _ (piece_descriptor-is_writable piece (suc readable) later numbers ∙ eqb-suc-zero readable)

  with_pieces-more : (readable : ℕ) → with_pieces mem (with_buffer mem chain (piece_descriptor piece readable later numbers)) later (readable - 1) ≡ with_pieces mem chain (piece ∷ later) readable
  with_pieces-more zero = ap (λ (c : Chain). with_pieces mem c later 0) with_writable ∙ ap (chain_with chain.head (chain.readable.items ++ [])) (append_assoc chain.writable.items (piece ∷ []) later)
  with_pieces-more (suc readable) =
      let left : suc readable - 1 ≡ readable = omega arith in
      rw left (ap (λ (c : Chain). with_pieces mem c later readable) (with_readable readable) ∙ ap (λ xs. chain_with chain.head xs (chain.writable.items ++ drop readable later)) (append_assoc chain.readable.items (bytes_at mem piece.addr piece.len) (flat_map (λ p. bytes_at mem p.addr p.len) (take readable later))))

-- no pieces change nothing
with_pieces-none : (mem : List ℕ) (chain : Chain) (readable : ℕ) → with_pieces mem chain [] readable ≡ chain
with_pieces-none mem chain zero = ap (λ xs. chain_with chain.head xs (chain.writable.items ++ [])) (append-nil chain.readable.items) ∙ ap (chain_with chain.head chain.readable.items) (append-nil chain.writable.items)
with_pieces-none mem chain (suc readable) = ap (λ xs. chain_with chain.head xs (chain.writable.items ++ [])) (append-nil chain.readable.items) ∙ ap (chain_with chain.head chain.readable.items) (append-nil chain.writable.items)

-- ---- one descriptor

module _ (mem : List ℕ) (place : Place) (visited : List ℕ) (chain : Chain) (number : ℕ) where
  -- a descriptor without a fault
  next_in_chain-is : (d : Descriptor) → descriptor_at mem place number ≡ d → buffer_fault mem chain number d ≡ None → next_fault place visited number d ≡ None → next_in_chain mem place visited chain number ≡ cond (has_next d) (Ok (Some d.next)) (Ok None)
  unfolding next_in_chain
  next_in_chain-is d is no_buffer no_next = ap (λ e. answer_of (buffer_fault mem chain number e) (next_fault place visited number e) (has_next e) e.next) is ∙ rw (no_buffer, no_next) refl

  no_buffer_fault : (d : Descriptor) → is_indirect d ≡ false → (not (is_writable d) && not (length chain.writable.items == 0)) ≡ false → d.addr + d.len ≤ length mem → (not (is_writable d) && nat_lt most_readable (length chain.readable.items + d.len)) ≡ false → buffer_fault mem chain number d ≡ None
  unfolding buffer_fault
  no_buffer_fault d direct ordered inside short = cond-false _ _ _ direct ∙ cond-false _ _ _ ordered ∙ cond-false _ _ _ (ap not (le-leb _ _ inside)) ∙ cond-false _ _ _ short

  no_next_fault : (d : Descriptor) → d.next < place.size → list_any (λ n. n == d.next) visited ≡ false → next_fault place visited number d ≡ None
  unfolding next_fault
  no_next_fault d below new =
      let inner = cond-false _ _ _ (lt-leb place.size d.next below) ∙ cond-false _ _ _ new in
      elim (has_next d) as (λ b. cond (not b) None (cond (nat_le place.size d.next) (Some (fault.BadNext number)) (cond (list_any (λ n. n == d.next) visited) (Some (fault.Loop number)) None)) ≡ None) [ true ↦ inner | false ↦ refl ]

  none_follows : (d : Descriptor) → has_next d ≡ false → next_fault place visited number d ≡ None
  unfolding next_fault
  none_follows d last = cond-true _ _ _ (ap not last)

  -- a piece's descriptor has no fault
  buffer_fault-piece_descriptor : (piece : Piece) (readable : ℕ) (later : List Piece) (numbers : List ℕ) → PieceLiesIn (length mem) piece → (0 < readable → chain.writable.items ≡ []) → (0 < readable → length chain.readable.items + piece.len ≤ most_readable) → buffer_fault mem chain number (piece_descriptor piece readable later numbers) ≡ None
  buffer_fault-piece_descriptor piece zero later numbers inside ordered short =
      let d = piece_descriptor piece 0 later numbers in
      let writes = piece_descriptor-is_writable piece 0 later numbers in
      no_buffer_fault d (piece_descriptor-is_indirect piece 0 later numbers) (ap (λ b. not b && not (length chain.writable.items == 0)) writes) inside (ap (λ b. not b && nat_lt most_readable (length chain.readable.items + piece.len)) writes)
  buffer_fault-piece_descriptor piece (suc readable) later numbers inside ordered short =
      let d = piece_descriptor piece (suc readable) later numbers in
      let some : 0 < suc readable = omega arith in
      no_buffer_fault d (piece_descriptor-is_indirect piece (suc readable) later numbers) (and_right _ _ (ap (λ (ps : List Piece). not (length ps == 0)) (ordered some))) inside (and_right _ _ (le-ltb most_readable (length chain.readable.items + piece.len) (short some)))

  next_in_chain-last : (piece : Piece) (readable : ℕ) (numbers : List ℕ) → descriptor_at mem place number ≡ piece_descriptor piece readable [] numbers → buffer_fault mem chain number (piece_descriptor piece readable [] numbers) ≡ None → next_in_chain mem place visited chain number ≡ Ok None
  next_in_chain-last piece readable numbers is no_buffer =
      let d = piece_descriptor piece readable [] numbers in
      let last = piece_descriptor-has_next piece readable [] numbers in
      next_in_chain-is d is no_buffer (none_follows d last) ∙ cond-false _ _ _ last

  next_in_chain-more : (piece next_piece : Piece) (readable n : ℕ) (later : List Piece) (numbers : List ℕ) → descriptor_at mem place number ≡ piece_descriptor piece readable (next_piece ∷ later) (n ∷ numbers) → buffer_fault mem chain number (piece_descriptor piece readable (next_piece ∷ later) (n ∷ numbers)) ≡ None → n < place.size → list_any (λ m. m == n) visited ≡ false → next_in_chain mem place visited chain number ≡ Ok (Some n)
  next_in_chain-more piece next_piece readable n later numbers is no_buffer below new =
      let d = piece_descriptor piece readable (next_piece ∷ later) (n ∷ numbers) in
      next_in_chain-is d is no_buffer (no_next_fault d below new) ∙ cond-true _ _ _ (piece_descriptor-has_next piece readable (next_piece ∷ later) (n ∷ numbers) ∙ ap not (eqb-suc-zero (length later)))

-- ---- the whole walk

-- the later numbers were not visited either once the next one was
pub unvisited_more : (visited numbers : List ℕ) (n : ℕ) → AllByRecursion (λ k. list_any (λ m. m == k) visited ≡ false) numbers → AllByRecursion (λ other. other ≢ n) numbers → AllByRecursion (λ k. list_any (λ m. m == k) (visited ++ n ∷ []) ≡ false) numbers
unvisited_more visited [] n unvisited apart = tt
unvisited_more visited (k ∷ numbers) n unvisited apart =
    let new : (n == k) ≡ false = ne_eqb n k (λ same. apart.0 (sym same)) in
    (list_any-append (λ m. m == k) visited (n ∷ []) ∙ rw (unvisited.0, new) refl, unvisited_more visited numbers n unvisited.1 apart.1)

-- before a piece's descriptor: it and the later ones stand in the table, none of them was visited, and what they hold
-- can be gathered
pub record IsGathering (mem : List ℕ) (place : Place) (owners : List (Option ℕ)) (visited : List ℕ) (chain : Chain) (number : ℕ) (numbers : List ℕ) (piece : Piece) (later : List Piece) (readable : ℕ) : Type 0 where
  pub descriptors : AreLinked mem place (number ∷ numbers) (piece ∷ later) readable
  pub same_size : length owners ≡ place.size
  pub free_list : AreFree owners numbers
  pub unvisited : AllByRecursion (λ n. list_any (λ m. m == n) visited ≡ false) numbers
  pub as_long : length numbers ≡ length later
  pub inside : All (PieceLiesIn (length mem)) (piece ∷ later)
  pub short : length chain.readable.items + room_of (take readable (piece ∷ later)) ≤ most_readable
  pub readable_first : 0 < readable → chain.writable.items ≡ []

-- a readable piece has room, the later ones then have it too, and none of them stands after a writable one
short_here : (chain : Chain) (piece : Piece) (later : List Piece) (readable : ℕ) → length chain.readable.items + room_of (take readable (piece ∷ later)) ≤ most_readable → 0 < readable → length chain.readable.items + piece.len ≤ most_readable
short_here chain piece later zero short some = absurd (omega arith)
short_here chain piece later (suc readable) short some = omega (arith, short, sum_by-cons (λ (p : Piece). p.len) piece (take readable later))

short_more : (mem : List ℕ) (chain : Chain) (piece : Piece) (later : List Piece) (numbers : List ℕ) (readable : ℕ) → length chain.readable.items + room_of (take readable (piece ∷ later)) ≤ most_readable → length (with_buffer mem chain (piece_descriptor piece readable later numbers)).readable.items + room_of (take (readable - 1) later) ≤ most_readable
short_more mem chain piece later numbers zero short =
    let same = ap (λ (c : Chain). length c.readable.items) (with_writable mem chain piece later numbers) in
    omega (arith, same, short)
short_more mem chain piece later numbers (suc readable) short =
    let left : suc readable - 1 ≡ readable = omega arith in
    let longer = ap (λ (c : Chain). length c.readable.items) (with_readable mem chain piece later numbers readable) in
    rw left (omega (arith, longer, length-append chain.readable.items (bytes_at mem piece.addr piece.len), length-take piece.len (drop piece.addr mem), sum_by-cons (λ (p : Piece). p.len) piece (take readable later), short))

readable_first_more : (mem : List ℕ) (chain : Chain) (piece : Piece) (later : List Piece) (numbers : List ℕ) (readable : ℕ) → (0 < readable → chain.writable.items ≡ []) → 0 < readable - 1 → (with_buffer mem chain (piece_descriptor piece readable later numbers)).writable.items ≡ []
readable_first_more mem chain piece later numbers zero ordered some = absurd (omega arith)
readable_first_more mem chain piece later numbers (suc readable) ordered some = ap (λ (c : Chain). c.writable.items) (with_readable mem chain piece later numbers readable) ∙ ordered (omega arith)

-- one turn of the walk
gathering-more : (mem : List ℕ) (place : Place) (owners : List (Option ℕ)) (visited : List ℕ) (chain : Chain) (number n : ℕ) (numbers : List ℕ) (piece next_piece : Piece) (later : List Piece) (readable : ℕ) → IsGathering mem place owners visited chain number (n ∷ numbers) piece (next_piece ∷ later) readable → IsGathering mem place owners (visited ++ n ∷ []) (with_buffer mem chain (piece_descriptor piece readable (next_piece ∷ later) (n ∷ numbers))) n numbers next_piece later (readable - 1)
gathering-more mem place owners visited chain number n numbers piece next_piece later readable so_far = record {
  descriptors = so_far.descriptors.1;
  same_size = so_far.same_size;
  free_list = so_far.free_list.3;
  unvisited = unvisited_more visited numbers n so_far.unvisited.1 so_far.free_list.2;
  as_long = omega (arith, so_far.as_long);
  inside = All-tail (PieceLiesIn (length mem)) piece (next_piece ∷ later) so_far.inside;
  short = short_more mem chain piece (next_piece ∷ later) (n ∷ numbers) readable so_far.short;
  readable_first = readable_first_more mem chain piece (next_piece ∷ later) (n ∷ numbers) readable so_far.readable_first;
}

-- the walk gathers all pieces
pub chain_from-linked : (mem : List ℕ) (place : Place) (owners : List (Option ℕ)) (visited : List ℕ) (chain : Chain) (more number : ℕ) (numbers : List ℕ) (piece : Piece) (later : List Piece) (readable : ℕ) → length later ≤ more → IsGathering mem place owners visited chain number numbers piece later readable → chain_from mem place visited chain more number ≡ Ok (with_pieces mem chain (piece ∷ later) readable)
chain_from-linked mem place owners visited chain more number numbers piece [] readable few so_far =
    let no_buffer = buffer_fault-piece_descriptor mem place visited chain number piece readable [] numbers (All-head (PieceLiesIn (length mem)) piece [] so_far.inside) so_far.readable_first (short_here chain piece [] readable so_far.short) in
    chain_from-last mem place visited chain more number (next_in_chain-last mem place visited chain number piece readable numbers so_far.descriptors.0 no_buffer)
    ∙ ap Ok (ap (with_buffer mem chain) so_far.descriptors.0 ∙ sym (with_pieces-none mem (with_buffer mem chain (piece_descriptor piece readable [] numbers)) (readable - 1)) ∙ with_pieces-more mem chain piece [] numbers readable)
chain_from-linked mem place owners visited chain more number [] piece (next_piece ∷ later) readable few so_far = absurd (omega (arith, so_far.as_long))
chain_from-linked mem place owners visited chain zero number (n ∷ numbers) piece (next_piece ∷ later) readable few so_far = absurd (omega arith)
chain_from-linked mem place owners visited chain (suc more) number (n ∷ numbers) piece (next_piece ∷ later) readable few so_far =
    let d = piece_descriptor piece readable (next_piece ∷ later) (n ∷ numbers) in
    let no_buffer = buffer_fault-piece_descriptor mem place visited chain number piece readable (next_piece ∷ later) (n ∷ numbers) (All-head (PieceLiesIn (length mem)) piece (next_piece ∷ later) so_far.inside) so_far.readable_first (short_here chain piece (next_piece ∷ later) readable so_far.short) in
    let within : n < length owners = so_far.free_list.0 in
    let next = next_in_chain-more mem place visited chain number piece next_piece readable n later numbers so_far.descriptors.0 no_buffer (omega (arith, so_far.same_size)) so_far.unvisited.0 in
    let rest = chain_from-linked mem place owners (visited ++ n ∷ []) (with_buffer mem chain d) more n numbers next_piece later (readable - 1) (omega arith) (gathering-more mem place owners visited chain number n numbers piece next_piece later readable so_far) in
    chain_from-next mem place visited chain more number n next ∙ ap (λ e. chain_from mem place (visited ++ n ∷ []) (with_buffer mem chain e) more n) so_far.descriptors.0 ∙ rest ∙ ap Ok (with_pieces-more mem chain piece (next_piece ∷ later) (n ∷ numbers) readable)
