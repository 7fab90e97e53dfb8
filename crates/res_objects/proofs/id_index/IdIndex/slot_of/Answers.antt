use Rattle.std.proofs.Common.{ap, subst, sym, arith}
use Rattle.std.proofs.lemmas.List.{get_or_default}
use Rattle.res_objects.specs.Linked.{SlotIndex}
use Rattle.res_objects.specs.Places.{IsIdIndex}
use Rattle.res_objects.proofs.Places.{lookup_at, lookup_gap, spare_id}
use Rattle.res_objects.proofs.id_index.IdIndex.slot_of.Goals as goal

-- the id is at its place, and the slot there is the one that was read
pub returns-in-Ok-clause-value : goal.returns-in-Ok-clause-value
returns-in-Ok-clause-value c =
    let found = lookup_at _ _ _ c.in-Ok.ensures.found in
    let read = get_or_default _ _ c.index.result.now (0, 0) c.in-Ok.ensures.found.in_range in
    grind (arith, c.self.view_is)

-- the id is not there
pub returns-in-Err-clause-value : goal.returns-in-Err-clause-value
returns-in-Err-clause-value c = sym (lookup_gap _ _ _ c.in-Err.ensures.absent)

pub returns-in-Err-clause-spare : goal.returns-in-Err-clause-spare
returns-in-Err-clause-spare c =
    let index = subst IsIdIndex (ap (λ (index : SlotIndex). index.slots) c.self.view_is) c.self.invariant in
    spare_id _ c.args.id (omega arith) index (lookup_gap _ _ _ c.in-Err.ensures.absent)
