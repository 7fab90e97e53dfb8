use Rattle.std.proofs.Common.{◌≡◌, ◌-◌, ◌≤◌, length}
use Rattle.vnff_base.specs.Counts.{count_with}
use Rattle.capture.proofs.FileSteps.{IsReadSoFar}
use Rattle.capture.proofs.capture_file.read_capture.Given as goal

abbrev pub invariant-loop-taken : goal.invariant-loop-taken
invariant-loop-taken g l = record {
  so_far : IsReadSoFar (g.S.Shelf.state l.shelf).files l.name l.at l.feed;
  within : l.at ≤ l.limit;
  room : length l.piece.items ≡ 65536;
  given : count_with (g.S.Shelf.state l.fn.shelf).given l.at ≤ (g.S.Shelf.state l.shelf).given;
  faults : (g.S.Shelf.state l.shelf).faults ≡ (g.S.Shelf.state l.fn.shelf).faults;
  files : (g.S.Shelf.state l.shelf).files ≡ (g.S.Shelf.state l.fn.shelf).files;
}

abbrev pub decreases-loop-taken : goal.decreases-loop-taken
decreases-loop-taken g l = l.limit - l.at
