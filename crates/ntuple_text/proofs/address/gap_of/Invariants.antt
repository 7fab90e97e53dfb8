-- No `::` begins before the place.
use Rattle.std.proofs.Common.{◌≡◌, ◌≤◌, ◌-◌, length, drop}
use Rattle.ntuple_text.specs.Addresses.{gap_of}
use Rattle.ntuple_text.proofs.GapLemmas.{gap_after}
use Rattle.ntuple_text.proofs.address.gap_of.Given as goal

abbrev pub invariant-loop-place : goal.invariant-loop-place
invariant-loop-place l = record {
  later : gap_of l.word ≡ gap_after l.place (gap_of (drop l.place l.word));
  inside : l.place ≤ length l.word;
}

abbrev pub decreases-loop-place : goal.decreases-loop-place
decreases-loop-place l = length l.word - l.place
