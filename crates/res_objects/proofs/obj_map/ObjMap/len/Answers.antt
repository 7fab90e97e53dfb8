use Rattle.std.proofs.Common.{◌∙◌, subst, sym}
use Rattle.res_objects.specs.BoundedMap.{IsBounded}
use Rattle.res_objects.proofs.Objects.{bounded, length-map_of}
use Rattle.res_objects.proofs.obj_map.ObjMap.len.Goals as goal

pub returns-clause-value : goal.returns-clause-value
returns-clause-value g c =
    rw (← c.self.view_is) (c.len.ensures ∙ sym (length-map_of _ _ _ c.self.invariant))

pub returns-clause-bounded : goal.returns-clause-bounded
returns-clause-bounded g c = subst IsBounded c.self.view_is (bounded _ _ _ c.self.invariant)
