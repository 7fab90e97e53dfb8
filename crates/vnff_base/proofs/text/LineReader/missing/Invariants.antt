-- The count of the lines so far and of those that are left stays the same.
use Rattle.std.proofs.Common.{◌≡◌, ◌+◌, ◌<◌, ◌^◌, length}
use Rattle.std.specs.Str.Lines.{lines}
use Rattle.vnff_base.proofs.text.LineReader.missing.Given as goal

abbrev pub invariant-loop-more : goal.invariant-loop-more
invariant-loop-more l = record {
  count : l.number + length (lines l.rest) ≡ l.initial.number + length (lines l.initial.rest);
  fits : l.number + length l.rest < 2 ^ 64;
}

abbrev pub decreases-loop-more : goal.decreases-loop-more
decreases-loop-more l = length l.rest
