use Rattle.std.proofs.Common.{ap, subst, arith}
use Rattle.res_objects.specs.Linked.{SlotIndex}
use Rattle.res_objects.specs.Places.{IsIdIndex}
use Rattle.res_objects.proofs.Places.{insert_gap, lookup_at, IsIdIndex-insert_entry}
use Rattle.res_objects.proofs.id_index.IdIndex.insert.Goals as goal

-- the id goes into its gap
pub returns-in-Err-clause-slots : goal.returns-in-Err-clause-slots
returns-in-Err-clause-slots c =
    let here = ap (λ (index : SlotIndex). index.slots) c.self.view_is in
    let items = rw c.unwrap.ensures at c.insert.ensures.items in
    rw (items, here) (insert_gap _ c.args.id c.args.slot _ c.in-Err.ensures.absent)

pub invariant_of-self : goal.invariant_of-self
invariant_of-self c =
    let index = subst IsIdIndex (ap (λ (index : SlotIndex). index.slots) c.self.view_is) c.self.invariant in
    rw (returns-in-Err-clause-slots c) (IsIdIndex-insert_entry _ c.args.id c.args.slot (omega arith) index)

pub returns-in-Err-clause-ordered : goal.returns-in-Err-clause-ordered
returns-in-Err-clause-ordered c = (invariant_of-self c).ordered

-- the id isn't held, so it has no place
pub returns-in_default-clause-slots : goal.returns-in_default-clause-slots
returns-in_default-clause-slots c = let held = lookup_at _ _ _ c.in_default.ensures.found in let absent = c.requires.absent in absurd (cc)
