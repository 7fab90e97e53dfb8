-- A reply in the writable pieces of a chain: the pieces hold it, and the chain stays what it was.
use Rattle.std.proofs.Common.{◌≡◌, ℕ, suc, ◌+◌, ◌≤◌, inl, inr, List, [], ◌∷◌, ◌++◌, length, length-take, length-drop, take, drop, get_or, refl, sym, ap, ◌∙◌, subst, arith}
use Rattle.std.specs.List.{All, AllPairs}
use Rattle.std.proofs.lemmas.Bool.{cases_lt}
use Rattle.std.proofs.lemmas.List.{take-append-drop, take-append-le, take_all, take-take, get_or_default}
use Rattle.std.proofs.Math.Seq.{take-append-add}
use Rattle.std.proofs.lemmas.List.Elements.{All-head, All-tail}
use Rattle.std.proofs.lemmas.List.Sums.{sum_by-cons}
use Rattle.guest_mem.specs.Memory.{bytes_at, with_bytes, ChangesOnly, IsInRange}
use Rattle.guest_mem.proofs.Bytes.{bytes_at-same, bytes_at-with_bytes, with_bytes-changes}
use Rattle.guest_mem.proofs.Changes.{changes-none, changes-then}
use Rattle.split_queue.specs.Chains.{room_of, bytes_in, PieceLiesIn, with_bytes_in, IsInPiece, IsInPieces, AreApart}
use Rattle.split_queue.specs.declared.chain.Piece.{Piece}

-- bytes of pieces stay where nothing of them was changed
pub bytes_in-same : (before after : List ℕ) (P : ℕ → Type 0) (pieces : List Piece) → ChangesOnly before after P
    → All (λ piece. (addr : ℕ) → IsInPiece addr piece → ¬ P addr) pieces → bytes_in after pieces ≡ bytes_in before pieces
bytes_in-same before after P [] changes clear = refl
bytes_in-same before after P (piece ∷ pieces) changes clear =
    let apart = All-head (λ (p : Piece). (addr : ℕ) → IsInPiece addr p → ¬ P addr) piece pieces clear in
    let here = bytes_at-same before after piece.addr piece.len changes.size (λ k low high. changes.others k (apart k (low, high))) in
    let later = bytes_in-same before after P pieces changes (All-tail (λ (p : Piece). (addr : ℕ) → IsInPiece addr p → ¬ P addr) piece pieces clear) in
    ap (λ xs. xs ++ bytes_in after pieces) here ∙ ap (λ xs. bytes_at before piece.addr piece.len ++ xs) later

-- ---- a text in pieces

-- pieces that lie apart in twos
pub apart_later : (piece : Piece) (pieces : List Piece) → AllPairs AreApart (piece ∷ pieces) → AllPairs AreApart pieces
apart_later piece pieces apart = λ i j d before below. apart (suc i) (suc j) d (omega arith) (omega arith)

apart_first : (piece : Piece) (pieces : List Piece) → AllPairs AreApart (piece ∷ pieces) → (addr : ℕ) → IsInPiece addr piece → ¬ IsInPieces pieces addr
apart_first piece pieces apart addr inside (k, other, below, is, there) =
    let first : AreApart piece (get_or pieces k piece) = apart 0 (suc k) piece (omega arith) (omega arith) in
    first addr inside (subst (λ p. IsInPiece addr p) (sym (get_or_default pieces k piece other below ∙ is)) there)

module _ (mem : List ℕ) (piece : Piece) (pieces : List Piece) (bytes : List ℕ) (inside : piece.addr + piece.len ≤ length mem) where
  abbrev part : List ℕ
  part = take piece.len bytes

  abbrev with_part : List ℕ
  with_part = with_bytes mem piece.addr part

  part-short : length part ≤ piece.len
  part-short = omega (arith, length-take piece.len bytes)

  pub part-changes : ChangesOnly mem with_part (IsInRange piece.addr (length part))
  part-changes = with_bytes-changes mem piece.addr part (omega (arith, part-short))

  part-in : (addr : ℕ) → IsInRange piece.addr (length part) addr → IsInPieces (piece ∷ pieces) addr
  part-in addr range = (0, piece, omega arith, refl, (range.0, omega (arith, part-short, range.1)))

  later-in : (addr : ℕ) → IsInPieces pieces addr → IsInPieces (piece ∷ pieces) addr
  later-in addr (k, other, below, is, there) = (suc k, other, omega arith, is, there)

pub with_bytes_in-changes : (mem : List ℕ) (pieces : List Piece) (bytes : List ℕ) → All (PieceLiesIn (length mem)) pieces
    → ChangesOnly mem (with_bytes_in mem pieces bytes) (IsInPieces pieces)
with_bytes_in-changes mem [] bytes inside = changes-none mem (IsInPieces [])
with_bytes_in-changes mem (piece ∷ pieces) bytes inside =
    let here = All-head (PieceLiesIn (length mem)) piece pieces inside in
    let first = part-changes mem piece pieces bytes here in
    let now = with_bytes mem piece.addr (take piece.len bytes) in
    let later = with_bytes_in-changes now pieces (drop piece.len bytes) (subst (λ n. All (PieceLiesIn n) pieces) (sym first.size) (All-tail (PieceLiesIn (length mem)) piece pieces inside)) in
    changes-then mem now (with_bytes_in now pieces (drop piece.len bytes)) (IsInRange piece.addr (length (take piece.len bytes))) (IsInPieces pieces) (IsInPieces (piece ∷ pieces)) (part-in mem piece pieces bytes here) (later-in mem piece pieces bytes here) first later

-- the bytes of a first piece, and those of the others
two_parts : (front rest bytes : List ℕ) (size : ℕ) → length front ≡ size → size ≤ length bytes → front ≡ take size bytes
    → take (length (drop size bytes)) rest ≡ drop size bytes → take (length bytes) (front ++ rest) ≡ bytes
two_parts front rest bytes size len enough is later =
    let whole : length bytes ≡ length front + length (drop size bytes) = omega (arith, len, length-drop size bytes) in
    ap (λ n. take n (front ++ rest)) whole ∙ take-append-add front rest (length (drop size bytes))
    ∙ ap (λ xs. front ++ xs) later ∙ ap (λ xs. xs ++ drop size bytes) is ∙ take-append-drop size bytes

pub with_bytes_in-begins : (mem : List ℕ) (pieces : List Piece) (bytes : List ℕ) → All (PieceLiesIn (length mem)) pieces
    → AllPairs AreApart pieces → length bytes ≤ room_of pieces
    → take (length bytes) (bytes_in (with_bytes_in mem pieces bytes) pieces) ≡ bytes
with_bytes_in-begins mem [] [] inside apart enough = refl
with_bytes_in-begins mem [] (b ∷ bytes) inside apart enough = absurd (omega arith)
with_bytes_in-begins mem (piece ∷ pieces) bytes inside apart enough =
    let here = All-head (PieceLiesIn (length mem)) piece pieces inside in
    let part = take piece.len bytes in
    let now = with_bytes mem piece.addr part in
    let rest = drop piece.len bytes in
    let after = with_bytes_in now pieces rest in
    let first = part-changes mem piece pieces bytes here in
    let inside_later = subst (λ n. All (PieceLiesIn n) pieces) (sym first.size) (All-tail (PieceLiesIn (length mem)) piece pieces inside) in
    let changes = with_bytes_in-changes now pieces rest inside_later in
    let kept : bytes_at after piece.addr piece.len ≡ bytes_at now piece.addr piece.len =
    bytes_at-same now after piece.addr piece.len changes.size (λ k low high. changes.others k (apart_first piece pieces apart k (low, high))) in
    let part_len = length-take piece.len bytes in
    let fits : piece.addr + length part ≤ length mem = omega (arith, part_len, here) in
    let read : bytes_at now piece.addr (length part) ≡ part = bytes_at-with_bytes mem piece.addr part fits in
    elim (cases_lt (length bytes) piece.len) [
      | inl short ↦
          let whole : part ≡ bytes = take_all piece.len bytes (omega (arith, short)) in
          let size : length bytes ≤ length (bytes_at after piece.addr piece.len) = omega (arith, short, here, changes.size, first.size, length-take piece.len (drop piece.addr after), length-drop piece.addr after) in
          take-append-le (length bytes) (bytes_at after piece.addr piece.len) (bytes_in after pieces) size
          ∙ ap (take (length bytes)) kept
          ∙ take-take (length bytes) piece.len (drop piece.addr now) (omega (arith, short))
          ∙ ap (λ n. bytes_at now piece.addr n) (sym (ap length whole)) ∙ read ∙ whole
      | inr long ↦
          let size : length part ≡ piece.len = omega (arith, part_len, long) in
          let front : bytes_at after piece.addr piece.len ≡ part = kept ∙ ap (λ n. bytes_at now piece.addr n) (sym size) ∙ read in
          let more : length rest ≤ room_of pieces = omega (arith, long, enough, length-drop piece.len bytes, sum_by-cons (λ (p : Piece). p.len) piece pieces) in
          let later = with_bytes_in-begins now pieces rest inside_later (apart_later piece pieces apart) more in
          two_parts (bytes_at after piece.addr piece.len) (bytes_in after pieces) bytes piece.len (ap length front ∙ size) long front later
    ]
