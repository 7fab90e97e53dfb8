use Rattle.std.proofs.Common.{refl, subst, sym}
use Rattle.res_objects.specs.BoundedMap.{IsBounded}
use Rattle.res_objects.proofs.Objects.{bounded, object_found, object_missing, held_slot, modified, IsObjects-modify}
use Rattle.res_objects.proofs.obj_map.ObjMap.modify.Goals as goal

pub replace-requires : goal.replace-requires
replace-requires g c = held_slot _ _ _ c.self.invariant c.args.id _ (sym c.in-Some.ensures.value)

pub invariant_of-self : goal.invariant_of-self
invariant_of-self g c =
    IsObjects-modify _ _ _ c.self.invariant c.args.id _ c.args.object c.self.inside.index c.replace.new.self (sym c.in-Some.ensures.value) c.replace.ensures.changes c.replace.ensures.count c.replace.ensures.room

pub returns-clause-answer : goal.returns-clause-answer
returns-clause-answer g c =
    rw (← c.self.view_is) (rw (object_found _ _ _ c.self.invariant c.args.id _ _ (sym c.in-Some.ensures.value) c.replace.ensures.before) refl)

pub returns-clause-ok : goal.returns-clause-ok
returns-clause-ok g c =
    rw (← c.self.view_is) (modified _ _ _ c.self.invariant c.args.id _ c.args.object c.self.inside.index c.replace.new.self (sym c.in-Some.ensures.value) c.replace.ensures.changes)

pub returns-clause-bounded : goal.returns-clause-bounded
returns-clause-bounded g c = bounded _ _ _ (invariant_of-self g c)

pub returns-in_default-clause-answer : goal.returns-in_default-clause-answer
returns-in_default-clause-answer g c =
    rw (← c.self.view_is) (rw (object_missing _ _ _ c.self.invariant c.args.id (sym c.in_default.ensures.value)) refl)

pub returns-in_default-clause-bounded : goal.returns-in_default-clause-bounded
returns-in_default-clause-bounded g c = subst IsBounded c.self.view_is (bounded _ _ _ c.self.invariant)
