use Rattle.std.proofs.Common.{ap, subst, sym, arith}
use Rattle.std.proofs.lemmas.List.{get_or_default}
use Rattle.res_objects.specs.Linked.{SlotIndex}
use Rattle.res_objects.specs.Places.{IsIdIndex}
use Rattle.res_objects.proofs.Places.{lookup_at, lookup_gap, remove_at, remove_entry-absent, IsIdIndex-remove_entry}
use Rattle.res_objects.proofs.id_index.IdIndex.remove.Goals as goal

-- the slot at the id's place was given
pub returns-in-Ok-clause-value : goal.returns-in-Ok-clause-value
returns-in-Ok-clause-value c =
    let found = lookup_at _ _ _ c.in-Ok.ensures.found in
    let read = get_or_default _ _ c.remove.result (0, 0) c.in-Ok.ensures.found.in_range in
    grind (arith, c.self.view_is)

-- and its entry is gone
pub returns-in-Ok-clause-slots : goal.returns-in-Ok-clause-slots
returns-in-Ok-clause-slots c =
    let here = ap (λ (index : SlotIndex). index.slots) c.self.view_is in
    rw (c.remove.ensures.items, here) (remove_at _ _ _ c.in-Ok.ensures.found)

pub invariant_of-self : goal.invariant_of-self
invariant_of-self c =
    let index = subst IsIdIndex (ap (λ (index : SlotIndex). index.slots) c.self.view_is) c.self.invariant in
    rw (returns-in-Ok-clause-slots c) (IsIdIndex-remove_entry _ c.args.id index)

pub returns-in-Ok-clause-ordered : goal.returns-in-Ok-clause-ordered
returns-in-Ok-clause-ordered c = (invariant_of-self c).ordered

-- an id that isn't held has no entry
pub returns-in-Err-clause-value : goal.returns-in-Err-clause-value
returns-in-Err-clause-value c = sym (lookup_gap _ _ _ c.in-Err.ensures.absent)

pub returns-in-Err-clause-slots : goal.returns-in-Err-clause-slots
returns-in-Err-clause-slots c = sym (remove_entry-absent _ c.args.id (lookup_gap _ _ _ c.in-Err.ensures.absent))
