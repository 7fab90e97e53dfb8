use Rattle.std.proofs.Common.{◌≡◌, ◌≤◌, All, length, vec_capacity}
use Rattle.left_right.specs.Sides.{view as seat_view}
use Rattle.snapshots.specs.Fresh.{IsFresh, end_of}
use Rattle.snapshots.proofs.opening.seat_all.Given as goal

abbrev pub invariant-loop : goal.invariant-loop
invariant-loop l = record {
  shown : l.copies.desk.shown ≡ l.initial.copies.desk.shown;
  log : l.copies.log ≡ l.initial.copies.log;
  behind : l.copies.behind ≡ l.initial.copies.behind;
  view : seat_view l.copies.desk.place ≡ seat_view l.initial.copies.desk.place;
  as_many : length l.list.items ≡ l.counter;
  room : l.count ≤ vec_capacity l.list;
  fresh : All (IsFresh (end_of l.first l.limits)) l.list.items;
}
