-- The digits so far and those from the place on are the number's.
use Rattle.std.proofs.Common.{◌≡◌, ◌+◌, ◌++◌, length}
use Rattle.ntuple_text.specs.SpecTexts.{low_digits}
use Rattle.ntuple_text.proofs.put_piece.low_digits.Given as goal

abbrev pub invariant-loop-place : goal.invariant-loop-place
invariant-loop-place l = record {
  same : l.digits.items ++ low_digits l.base l.place l.number ≡ low_digits l.base l.highest l.number;
  fits : length l.digits.items + l.place ≡ l.highest;
}

abbrev pub decreases-loop-place : goal.decreases-loop-place
decreases-loop-place l = l.place
