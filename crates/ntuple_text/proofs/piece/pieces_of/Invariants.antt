-- The numbers so far and those of the rest are the text's.
use Rattle.std.proofs.Common.{◌≡◌, ◌+◌, ◌≤◌, length}
use Rattle.std.specs.List.{slice_split}
use Rattle.ntuple_text.specs.Pieces.{front_of, is_separator}
use Rattle.ntuple_text.proofs.PieceLemmas.{after_front}
use Rattle.ntuple_text.proofs.piece.pieces_of.Given as goal

abbrev pub invariant-loop-first : goal.invariant-loop-first
invariant-loop-first l = record {
  same : after_front l.front.items (front_of l.spelling (slice_split (is_separator l.separator) l.rest)) ≡ front_of l.spelling (slice_split (is_separator l.separator) l.text);
  fits : length l.front.items + length (slice_split (is_separator l.separator) l.rest) ≤ 8;
}

abbrev pub decreases-loop-first : goal.decreases-loop-first
decreases-loop-first l = length l.rest
