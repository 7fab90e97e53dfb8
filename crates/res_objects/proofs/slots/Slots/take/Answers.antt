use Rattle.std.proofs.Common.{IsSome, ap}
use Rattle.res_objects.specs.Linked.{SlotTable, object_in}
use Rattle.res_objects.proofs.FreeList.{HasFree-take}
use Rattle.res_objects.proofs.slots.Slots.take.Goals as goal

-- the slot is free from now on
pub invariant_of-self : goal.invariant_of-self
invariant_of-self g c =
    let here = ap (λ (table : SlotTable g.row.T.Denot). table.cells) c.self.view_is in
    let held : IsSome (object_in c.self.inside.cells.items c.args.slot) = rw here c.requires in
    rw (c.take.ensures.after, c.push_reserved.ensures.items, c.push_reserved.ensures.capacity) (HasFree-take _ _ c.args.slot _ _ held c.self.invariant)
