-- One piece of a scattered text.
use Rattle.std.proofs.Common.{◌≡◌, ℕ, ◌+◌, ◌-◌, ◌<◌, ◌≤◌, min, List, ◌∷◌, length, length-take, length-drop, take, drop, get_or, add-one, sym, ap, ◌∙◌, arith}
use Rattle.std.proofs.lemmas.List.{take_min, drop_min, get_or_default}
use Rattle.std.proofs.lemmas.List.Sums.{sum_by-drop_more}
use Rattle.std.proofs.Math.Seq.{drop-cons}
use Rattle.std.proofs.Math.Nat.{min_comm}
use Rattle.guest_mem.specs.Memory.{with_bytes, ChangesOnly, IsInRange, WritesAt}
use Rattle.guest_mem.proofs.Changes.{changes-then}
use Rattle.split_queue.specs.Chains.{room_of, with_bytes_in, IsInPieces}
use Rattle.split_queue.specs.declared.chain.Piece.{Piece}

pub take_part : (xs : List ℕ) (n : ℕ) → take (min (length xs) n) xs ≡ take n xs
take_part xs n = rw (min_comm (length xs) n) (take_min n xs)

pub drop_part : (xs : List ℕ) (n : ℕ) → drop (min (length xs) n) xs ≡ drop n xs
drop_part xs n = rw (min_comm (length xs) n) (drop_min n xs)

-- after some pieces: this memory and these bytes still give the whole, and nothing but pieces was changed
pub record IsScattering (before : List ℕ) (pieces : List Piece) (bytes mem : List ℕ) (i : ℕ) (rest : List ℕ) : Type 0 where
  pub result : with_bytes_in mem (drop i pieces) rest ≡ with_bytes_in before pieces bytes
  pub only : ChangesOnly before mem (IsInPieces pieces)
  pub room : length rest - room_of (drop i pieces) ≡ length bytes - room_of pieces
  pub short : length rest ≤ length bytes

module _ (before mem after : List ℕ) (pieces : List Piece) (i : ℕ) (d : Piece) (bytes rest : List ℕ) where
  pub scatter-step : i < length pieces → after ≡ with_bytes mem (get_or pieces i d).addr (take (min (length rest) (get_or pieces i d).len) rest) → WritesAt mem after (get_or pieces i d).addr (take (min (length rest) (get_or pieces i d).len) rest) → IsScattering before pieces bytes mem i rest → IsScattering before pieces bytes after (i + 1) (drop (min (length rest) (get_or pieces i d).len) rest)
  scatter-step below is_after writes so_far =
      let piece = get_or pieces i d in
      let next : drop i pieces ≡ piece ∷ drop (i + 1) pieces = rw add-one (drop-cons pieces i d below) in
      let room : room_of (drop i pieces) ≡ piece.len + room_of (drop (i + 1) pieces) = sum_by-drop_more (λ (p : Piece). p.len) pieces i d below in
      let part_len : length (take (min (length rest) piece.len) rest) ≤ piece.len = omega (arith, length-take (min (length rest) piece.len) rest) in
      let later_len : length (drop (min (length rest) piece.len) rest) ≡ length rest - piece.len = omega (arith, length-drop (min (length rest) piece.len) rest) in
      record {
        result = rw (is_after, take_part rest piece.len, drop_part rest piece.len) (ap (λ (ps : List Piece). with_bytes_in mem ps rest) (sym next) ∙ so_far.result);
        only = changes-then before mem after (IsInPieces pieces) (IsInRange piece.addr (length (take (min (length rest) piece.len) rest))) (IsInPieces pieces) (λ addr inside. inside) (λ addr inside. (i, piece, below, get_or_default pieces i piece d below, (inside.0, omega (arith, part_len, inside.1)))) so_far.only writes.only;
        room = omega (arith, later_len, room, so_far.room);
        short = omega (arith, later_len, so_far.short);
      }
