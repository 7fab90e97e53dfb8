use Rattle.std.proofs.Common.{subst}
use Rattle.snapshots.specs.Workers.{DoorState}
use Rattle.snapshots.specs.Reads.{IsRead}
use Rattle.snapshots.proofs.Reading.{covers_all}
use Rattle.snapshots.proofs.door.PairDoorDoor.look.Goals as goal

pub returns-in-Some-clause-answer : goal.returns-in-Some-clause-answer
returns-in-Some-clause-answer c =
    let read = c.in-Some.ensures.read in
    subst (λ (d : DoorState). IsRead d.limits d.floors c.only.result c.args.headers.now c.in-Some.seen) c.self.view_is (record {
      list = c.in-Some.trail.list;
      floors = c.only.ensures;
      covers = covers_all c.self.inside.floors c.self.inside.last.list c.in-Some.trail.list c.self.invariant.1 read.1 read.2;
      value = read.3;
    })
