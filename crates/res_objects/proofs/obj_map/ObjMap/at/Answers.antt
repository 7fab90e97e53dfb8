use Rattle.std.proofs.Common.{refl, subst, sym, arith}
use Rattle.res_objects.specs.BoundedMap.{IsBounded}
use Rattle.res_objects.proofs.Objects.{bounded, entry_found, entry_missing, held_place, place_within, place_past}
use Rattle.res_objects.proofs.obj_map.ObjMap.at.Goals as goal

pub get-requires : goal.get-requires
get-requires g c = held_place _ _ _ c.self.invariant c.args.place (c.in-Some.id, c.in-Some.slot) (sym c.in-Some.ensures)

pub returns-in-Some-clause-value : goal.returns-in-Some-clause-value
returns-in-Some-clause-value g c = rw (← c.self.view_is) (sym (entry_found _ _ _ c.self.invariant c.args.place (c.in-Some.id, c.in-Some.slot) _ (sym c.in-Some.ensures) c.get.ensures))

pub returns-in-Some-clause-variant : goal.returns-in-Some-clause-variant
returns-in-Some-clause-variant g c = rw (← c.self.view_is) (λ _. place_within _ _ _ c.self.invariant c.args.place (c.in-Some.id, c.in-Some.slot) (sym c.in-Some.ensures), λ _. refl)

pub returns-in-None-clause-value : goal.returns-in-None-clause-value
returns-in-None-clause-value g c = rw (← c.self.view_is) (sym (entry_missing _ _ _ c.self.invariant c.args.place (sym c.in-None.ensures)))

pub returns-in-None-clause-variant : goal.returns-in-None-clause-variant
returns-in-None-clause-variant g c =
    let past = place_past _ _ _ c.self.invariant c.args.place (sym c.in-None.ensures) in
    rw (← c.self.view_is) (λ none. absurd (cc), λ within. absurd (omega (arith, past, within)))

pub returns-in-Some-clause-bounded : goal.returns-in-Some-clause-bounded
returns-in-Some-clause-bounded g c = subst IsBounded c.self.view_is (bounded _ _ _ c.self.invariant)

pub returns-in-None-clause-bounded : goal.returns-in-None-clause-bounded
returns-in-None-clause-bounded g c = subst IsBounded c.self.view_is (bounded _ _ _ c.self.invariant)
