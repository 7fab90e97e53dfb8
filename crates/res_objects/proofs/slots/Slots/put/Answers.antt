use Rattle.std.proofs.Common.{Some, ap, subst, arith}
use Rattle.res_objects.specs.Linked.{SlotTable, IsFreeList}
use Rattle.res_objects.proofs.FreeList.{last_free, held_count-fill, ChangesSlot-set, HasFree-pop}
use Rattle.res_objects.proofs.slots.Slots.put.Goals as goal

-- the slot that came from the free list was a used one that held nothing
pub index_mut-requires : goal.index_mut-requires
index_mut-requires g c =
    let last = last_free c.self.inside.cells.items c.pop.new.self.items c.in-Some.slot (subst (IsFreeList c.self.inside.cells.items) c.in-Some.ensures.items c.self.invariant.listed) in
    omega (arith, last.0)

pub invariant_of-self : goal.invariant_of-self
invariant_of-self g c =
    rw c.in-Some.ensures.capacity (HasFree-pop c.self.inside.cells.items c.self.inside.free.items c.pop.new.self.items c.in-Some.slot c.args.object _ _ c.in-Some.ensures.items c.self.invariant)

pub returns-in-Some-clause-was_free : goal.returns-in-Some-clause-was_free
returns-in-Some-clause-was_free g c =
    let last = last_free c.self.inside.cells.items c.pop.new.self.items c.in-Some.slot (subst (IsFreeList c.self.inside.cells.items) c.in-Some.ensures.items c.self.invariant.listed) in
    let here = ap (λ (table : SlotTable g.row.T.Denot). table.cells) c.self.view_is in
    rw here at last.1

pub returns-in-Some-clause-changes : goal.returns-in-Some-clause-changes
returns-in-Some-clause-changes g c =
    let last = last_free c.self.inside.cells.items c.pop.new.self.items c.in-Some.slot (subst (IsFreeList c.self.inside.cells.items) c.in-Some.ensures.items c.self.invariant.listed) in
    let here = ap (λ (table : SlotTable g.row.T.Denot). table.cells) c.self.view_is in
    rw (← here) (ChangesSlot-set c.self.inside.cells.items c.in-Some.slot (Some c.args.object) last.0)

pub returns-in-Some-clause-count : goal.returns-in-Some-clause-count
returns-in-Some-clause-count g c =
    let last = last_free c.self.inside.cells.items c.pop.new.self.items c.in-Some.slot (subst (IsFreeList c.self.inside.cells.items) c.in-Some.ensures.items c.self.invariant.listed) in
    let here = ap (λ (table : SlotTable g.row.T.Denot). table.cells) c.self.view_is in
    rw (← here) (held_count-fill c.self.inside.cells.items c.in-Some.slot c.args.object last.0 last.1)
