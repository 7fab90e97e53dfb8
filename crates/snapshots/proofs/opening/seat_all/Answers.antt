use Rattle.snapshots.proofs.opening.seat_all.Goals as goal

pub seat-requires : goal.seat-requires
seat-requires c = rw c.loop.invariant.view c.requires
