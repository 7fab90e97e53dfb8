use Rattle.std.proofs.Common.{IsSome, ap}
use Rattle.res_objects.specs.Linked.{SlotTable, object_in}
use Rattle.res_objects.proofs.FreeList.{HasFree-replace}
use Rattle.res_objects.proofs.slots.Slots.replace.Goals as goal

-- the slot holds an object as before
pub invariant_of-self : goal.invariant_of-self
invariant_of-self g c =
    let here = ap (λ (table : SlotTable g.row.T.Denot). table.cells) c.self.view_is in
    let held : IsSome (object_in c.self.inside.cells.items c.args.slot) = rw here c.requires in
    rw c.replace.ensures.after (HasFree-replace _ _ c.args.slot c.args.object _ _ held c.self.invariant)
