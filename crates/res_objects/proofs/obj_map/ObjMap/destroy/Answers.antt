use Rattle.std.proofs.Common.{refl, sym}
use Rattle.res_objects.proofs.Objects.{bounded, object_found, object_missing, held_slot, destroyed, IsObjects-destroy}
use Rattle.res_objects.proofs.obj_map.ObjMap.destroy.Goals as goal

pub take-requires : goal.take-requires
take-requires g c = held_slot _ _ _ c.self.invariant c.args.id _ (sym c.in-Some.ensures.value)

pub invariant_of-self : goal.invariant_of-self
invariant_of-self g c =
    IsObjects-destroy _ _ _ c.self.invariant c.args.id _ c.take.result c.remove.new.self c.take.new.self (sym c.in-Some.ensures.value) c.take.ensures.changes c.remove.ensures.slots c.remove.ensures.ordered c.take.ensures.count c.remove.ensures.room c.take.ensures.room

pub returns-in-Some-clause-answer : goal.returns-in-Some-clause-answer
returns-in-Some-clause-answer g c =
    rw (← c.self.view_is) (rw (object_found _ _ _ c.self.invariant c.args.id _ _ (sym c.in-Some.ensures.value) c.take.ensures.before) refl)

pub returns-in-Some-clause-ok : goal.returns-in-Some-clause-ok
returns-in-Some-clause-ok g c =
    rw (← c.self.view_is) (destroyed _ _ _ c.self.invariant c.args.id _ c.take.result c.remove.new.self c.take.new.self (sym c.in-Some.ensures.value) c.take.ensures.changes c.remove.ensures.slots)

pub returns-in-Some-clause-bounded : goal.returns-in-Some-clause-bounded
returns-in-Some-clause-bounded g c = bounded _ _ _ (invariant_of-self g c)

-- an id that isn't held leaves the index as it was
pub invariant_of-self-in-None : goal.invariant_of-self-in-None
invariant_of-self-in-None g c = rw c.in-None.ensures.missing c.self.invariant

pub returns-in-None-clause-answer : goal.returns-in-None-clause-answer
returns-in-None-clause-answer g c =
    rw (← c.self.view_is) (rw (object_missing _ _ _ c.self.invariant c.args.id (sym c.in-None.ensures.value)) refl)

pub returns-in-None-clause-err : goal.returns-in-None-clause-err
returns-in-None-clause-err g c = rw c.in-None.ensures.missing c.self.view_is

pub returns-in-None-clause-bounded : goal.returns-in-None-clause-bounded
returns-in-None-clause-bounded g c = bounded _ _ _ (invariant_of-self-in-None g c)
