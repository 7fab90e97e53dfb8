use Rattle.std.proofs.Common.{◌≡◌, ap, subst, sym, ◌∙◌, List, All, IsSomeAnd}
use mathlib.Core.List.{IsPrefix}
use Rattle.ff_headers.specs.declared.change.Change.{Change}
use Rattle.left_right.specs.Sides.{view as seat_view}
use Rattle.snapshots.specs.Lists.{Identity, ToldList}
use Rattle.snapshots.specs.Workers.{DoorState}
use Rattle.snapshots.specs.Doors.{KnowsTables}
use Rattle.snapshots.proofs.Beginnings.{prefix_self}
use Rattle.snapshots.proofs.Reading.{covered_more}
use Rattle.snapshots.proofs.door.PairDoorDoor.learn.Goals as goal

pub invariant_of-self : goal.invariant_of-self
invariant_of-self c =
    let told = c.told.inside.trail in
    let last = c.self.inside.last in
    let same : last.identity ≡ told.identity = ap (λ (d : DoorState). d.identity) c.self.view_is ∙ (sym c.requires ∙ sym (ap (λ (t : ToldList). t.identity) c.told.view_is)) in (
      subst (λ (i : Identity). IsSomeAnd c.self.inside.reader (λ reader. KnowsTables i c.self.inside.limits (seat_view reader.place))) same c.self.invariant.0,
      subst (λ (fs : List (List Change)). All (λ (floor : List Change). IsPrefix floor told.list) fs) (sym c.and.ensures)
          (covered_more c.self.inside.floors told.list last.list told.list c.self.invariant.1 (c.begins.ensures.begins c.if-begins.true) (prefix_self told.list)),
    )

pub invariant_of-self-else-begins : goal.invariant_of-self-else-begins
invariant_of-self-else-begins c =
    let told = c.told.inside.trail in
    let last = c.self.inside.last in (
      c.self.invariant.0,
      subst (λ (fs : List (List Change)). All (λ (floor : List Change). IsPrefix floor last.list) fs) (sym c.and.ensures)
          (covered_more c.self.inside.floors told.list last.list last.list c.self.invariant.1 (prefix_self last.list) (c.begins.ensures.longer c.if-begins.false)),
    )
