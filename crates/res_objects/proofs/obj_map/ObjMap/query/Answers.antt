use Rattle.std.proofs.Common.{subst, sym}
use Rattle.res_objects.specs.BoundedMap.{IsBounded}
use Rattle.res_objects.proofs.Objects.{bounded, object_found, object_missing, held_slot}
use Rattle.res_objects.proofs.obj_map.ObjMap.query.Goals as goal

pub get-requires : goal.get-requires
get-requires g c = held_slot _ _ _ c.self.invariant c.args.id _ (sym c.in-Some.ensures.value)

pub returns-in-Some-clause-value : goal.returns-in-Some-clause-value
returns-in-Some-clause-value g c = rw (← c.self.view_is) (sym (object_found _ _ _ c.self.invariant c.args.id _ _ (sym c.in-Some.ensures.value) c.get.ensures))

pub returns-in-None-clause-value : goal.returns-in-None-clause-value
returns-in-None-clause-value g c = rw (← c.self.view_is) (sym (object_missing _ _ _ c.self.invariant c.args.id (sym c.in-None.ensures.value)))

pub returns-in-Some-clause-bounded : goal.returns-in-Some-clause-bounded
returns-in-Some-clause-bounded g c = subst IsBounded c.self.view_is (bounded _ _ _ c.self.invariant)

pub returns-in-None-clause-bounded : goal.returns-in-None-clause-bounded
returns-in-None-clause-bounded g c = subst IsBounded c.self.view_is (bounded _ _ _ c.self.invariant)
