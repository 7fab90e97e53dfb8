-- The walk along the descriptors of a posted chain is just their numbers, and they hold its pieces.
use Rattle.std.proofs.Common.{◌≡◌, ◌≢◌, ℕ, zero, suc, ◌-◌, ◌<◌, ◌≤◌, true, false, not, List, [], ◌∷◌, length, map, take, drop, get_or, Option, refl, sym, ap, ◌∙◌, subst, arith}
use Rattle.std.specs.List.{All}
use Rattle.std.proofs.Math.Dec.{eqb-suc-zero}
use Rattle.std.proofs.lemmas.Bool.{false≢true}
use Rattle.std.proofs.lemmas.List.Elements.{All-nil, All-cons, All-get_or, All-from_recursion}
use Rattle.split_queue.specs.Agreement.{HoldPieces}
use Rattle.split_queue.specs.Descriptors.{descriptor_at, has_next, is_writable}
use Rattle.split_queue.specs.Pools.{AreFree}
use Rattle.split_queue.specs.Walks.{NamesNext, IsWalk, HoldsWalk, buffer_of}
use Rattle.split_queue.proofs.ChainNumbers.{AreFree-below}
use Rattle.split_queue.proofs.PostedDescriptors.{AreLinked}
use Rattle.split_queue.proofs.PostedWalk.{piece_descriptor-has_next, piece_descriptor-is_writable}
use Rattle.split_queue.specs.declared.chain.Chain.{Chain}
use Rattle.split_queue.specs.declared.chain.Piece.{Piece}
use Rattle.split_queue.specs.declared.descriptor.Descriptor.{Descriptor}
use Rattle.split_queue.specs.declared.queue_place.Place.{Place}

-- free descriptors are distinct
free-distinct : (owners : List (Option ℕ)) (numbers : List ℕ) → AreFree owners numbers → (j k : ℕ) → j < k → k < length numbers → get_or numbers j 0 ≢ get_or numbers k 0
free-distinct owners [] free_list j k apart below = absurd (omega arith)
free-distinct owners (r ∷ numbers) free_list j zero apart below = absurd (omega arith)
free-distinct owners (r ∷ numbers) free_list zero (suc k) apart below = λ same.
    let other : get_or numbers k 0 ≢ r = All-get_or (λ other. other ≢ r) numbers k 0 (omega arith) (All-from_recursion (λ other. other ≢ r) numbers free_list.2) in
    other (sym same)
free-distinct owners (r ∷ numbers) free_list (suc j) (suc k) apart below = free-distinct owners numbers free_list.3 j k (omega arith) (omega arith)

module _ (mem : List ℕ) (place : Place) where
  -- ---- each descriptor names the next one

  names_next : (numbers : List ℕ) (pieces : List Piece) (readable : ℕ) → length numbers ≡ length pieces → AreLinked mem place numbers pieces readable → (k : ℕ) → suc k < length numbers → NamesNext mem place (get_or numbers k 0) (get_or numbers (suc k) 0)
  names_next [] pieces readable as_long linked k below = absurd (omega arith)
  names_next (number ∷ numbers) [] readable as_long linked k below = absurd (omega (arith, as_long))
  names_next (number ∷ numbers) (piece ∷ later) readable as_long linked (suc k) below = names_next numbers later (readable - 1) (omega (arith, as_long)) linked.1 k (omega arith)
  names_next (number ∷ []) (piece ∷ later) readable as_long linked zero below = absurd (omega arith)
  names_next (number ∷ n ∷ numbers) (piece ∷ []) readable as_long linked zero below = absurd (omega (arith, as_long))
  names_next (number ∷ n ∷ numbers) (piece ∷ next_piece ∷ later) readable as_long linked zero below = record {
    goes_on = ap has_next linked.0 ∙ piece_descriptor-has_next piece readable (next_piece ∷ later) (n ∷ numbers) ∙ ap not (eqb-suc-zero (length later));
    next_is = ap (λ (d : Descriptor). d.next) linked.0;
  }

  -- a walk from the first of the numbers that is no shorter is just the numbers
  same_numbers : (walk numbers : List ℕ) (pieces : List Piece) (readable : ℕ) → length numbers ≡ length pieces → AreLinked mem place numbers pieces readable → 0 < length numbers
      → get_or walk 0 0 ≡ get_or numbers 0 0 → ((k : ℕ) → suc k < length walk → NamesNext mem place (get_or walk k 0) (get_or walk (suc k) 0))
      → length numbers ≤ length walk → walk ≡ numbers
  same_numbers walk [] pieces readable as_long linked some first names long = absurd (omega arith)
  same_numbers [] (number ∷ numbers) pieces readable as_long linked some first names long = absurd (omega arith)
  same_numbers (w ∷ walk) (number ∷ numbers) [] readable as_long linked some first names long = absurd (omega (arith, as_long))
  same_numbers (w ∷ []) (number ∷ []) (piece ∷ later) readable as_long linked some first names long = ap (λ n. n ∷ []) first
  same_numbers (w ∷ v ∷ walk) (number ∷ []) (piece ∷ next_piece ∷ later) readable as_long linked some first names long = absurd (omega (arith, as_long))
  same_numbers (w ∷ v ∷ walk) (number ∷ []) (piece ∷ []) readable as_long linked some first names long =
      let goes_on : has_next (descriptor_at mem place number) ≡ true = subst (λ n. has_next (descriptor_at mem place n) ≡ true) first (names 0 (omega arith)).goes_on in
      let ends : has_next (descriptor_at mem place number) ≡ false = ap has_next linked.0 ∙ piece_descriptor-has_next piece readable [] [] in
      absurd (false≢true (sym ends ∙ goes_on))
  same_numbers (w ∷ walk) (number ∷ n ∷ numbers) (piece ∷ later) readable as_long linked some first names long =
      let next : get_or walk 0 0 ≡ n = sym (names 0 (omega arith)).next_is ∙ ap (λ m. (descriptor_at mem place m).next) first ∙ ap (λ (d : Descriptor). d.next) linked.0 in
      let rest = same_numbers walk (n ∷ numbers) later (readable - 1) (omega (arith, as_long)) linked.1 (omega arith) next (λ k below. names (suc k) (omega arith)) (omega arith) in
      ap (λ m. m ∷ walk) first ∙ ap (λ xs. number ∷ xs) rest

  -- ---- the descriptors hold the pieces

  buffers : (numbers : List ℕ) (pieces : List Piece) (readable : ℕ) → length numbers ≡ length pieces → AreLinked mem place numbers pieces readable → map (λ n. buffer_of (descriptor_at mem place n)) numbers ≡ pieces
  buffers [] [] readable as_long linked = refl
  buffers [] (piece ∷ later) readable as_long linked = absurd (omega (arith, as_long))
  buffers (number ∷ numbers) [] readable as_long linked = absurd (omega (arith, as_long))
  buffers (number ∷ numbers) (piece ∷ later) readable as_long linked =
      ap (λ (d : Descriptor). buffer_of d ∷ map (λ n. buffer_of (descriptor_at mem place n)) numbers) linked.0
      ∙ ap (λ ps. piece ∷ ps) (buffers numbers later (readable - 1) (omega (arith, as_long)) linked.1)

  abbrev Reads : ℕ → Type 0
  Reads n = is_writable (descriptor_at mem place n) ≡ false

  abbrev Writes : ℕ → Type 0
  Writes n = is_writable (descriptor_at mem place n) ≡ true

  readable_first : (numbers : List ℕ) (pieces : List Piece) (readable : ℕ) → length numbers ≡ length pieces → AreLinked mem place numbers pieces readable → All Reads (take readable numbers)
  readable_first numbers pieces zero as_long linked = All-nil Reads
  readable_first [] pieces (suc readable) as_long linked = All-nil Reads
  readable_first (number ∷ numbers) [] (suc readable) as_long linked = absurd (omega (arith, as_long))
  readable_first (number ∷ numbers) (piece ∷ later) (suc readable) as_long linked =
      let left : suc readable - 1 ≡ readable = omega arith in
      let rest = readable_first numbers later readable (omega (arith, as_long)) (rw left at linked.1) in
      All-cons Reads number (take readable numbers) (ap is_writable linked.0 ∙ piece_descriptor-is_writable piece (suc readable) later numbers ∙ eqb-suc-zero readable) rest

  writable_then : (numbers : List ℕ) (pieces : List Piece) (readable : ℕ) → length numbers ≡ length pieces → AreLinked mem place numbers pieces readable → All Writes (drop readable numbers)
  writable_then [] pieces zero as_long linked = All-nil Writes
  writable_then [] pieces (suc readable) as_long linked = All-nil Writes
  writable_then (number ∷ numbers) [] readable as_long linked = absurd (omega (arith, as_long))
  writable_then (number ∷ numbers) (piece ∷ later) zero as_long linked =
      All-cons Writes number numbers (ap is_writable linked.0 ∙ piece_descriptor-is_writable piece 0 later numbers) (writable_then numbers later 0 (omega (arith, as_long)) linked.1)
  writable_then (number ∷ numbers) (piece ∷ later) (suc readable) as_long linked =
      let left : suc readable - 1 ≡ readable = omega arith in
      writable_then numbers later readable (omega (arith, as_long)) (rw left at linked.1)

  -- ---- the longest walk along them

  module _ (owners : List (Option ℕ)) (numbers : List ℕ) (pieces : List Piece) (readable : ℕ) (same_size : length owners ≡ place.size) (free_list : AreFree owners numbers)
      (as_long : length numbers ≡ length pieces) (some : 0 < length numbers) (linked : AreLinked mem place numbers pieces readable) where
    numbers-walk : IsWalk mem place (get_or numbers 0 0) numbers
    numbers-walk = record {
      some = some;
      begins = refl;
      below = λ k below. rw same_size at (All-get_or (λ n. n < length owners) numbers k 0 below (AreFree-below owners numbers free_list));
      distinct = free-distinct owners numbers free_list;
      names_next = names_next numbers pieces readable as_long linked;
    }

    pub walk-is-numbers : (chain : Chain) (walk : List ℕ) → get_or numbers 0 0 ≡ chain.head → HoldsWalk mem place chain walk → walk ≡ numbers
    walk-is-numbers chain walk first holds =
        let long = holds.longest numbers (subst (λ head. IsWalk mem place head numbers) first numbers-walk) in
        same_numbers walk numbers pieces readable as_long linked some (holds.is_walk.begins ∙ sym first) holds.is_walk.names_next long

    pub numbers-hold_pieces : HoldPieces mem place numbers pieces readable
    numbers-hold_pieces = record {
      buffers = buffers numbers pieces readable as_long linked;
      readable_first = readable_first numbers pieces readable as_long linked;
      writable_then = writable_then numbers pieces readable as_long linked;
    }
