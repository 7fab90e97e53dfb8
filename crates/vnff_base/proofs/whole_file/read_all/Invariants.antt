use Rattle.std.proofs.Common.{◌≡◌, ◌-◌, ◌≤◌, length}
use Rattle.vnff_base.specs.Counts.{count_with}
use Rattle.vnff_base.proofs.Reading.{IsFront}
use Rattle.vnff_base.proofs.whole_file.read_all.Given as goal

abbrev pub invariant-loop-taken : goal.invariant-loop-taken
invariant-loop-taken g l = record {
  front : IsFront (g.S.Shelf.state l.shelf).files l.name l.bytes.items;
  within : length l.bytes.items ≤ l.limit;
  room : length l.piece.items ≡ 65536;
  given : count_with (g.S.Shelf.state l.fn.shelf).given (length l.bytes.items) ≤ (g.S.Shelf.state l.shelf).given;
  faults : (g.S.Shelf.state l.shelf).faults ≡ (g.S.Shelf.state l.fn.shelf).faults;
  files : (g.S.Shelf.state l.shelf).files ≡ (g.S.Shelf.state l.fn.shelf).files;
}

abbrev pub decreases-loop-taken : goal.decreases-loop-taken
decreases-loop-taken g l = l.limit - length l.bytes.items
