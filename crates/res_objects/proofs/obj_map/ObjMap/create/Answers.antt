use Rattle.std.proofs.Common.{◌≡◌, ◌≢◌, ◌∙◌, true, false, length, is_some, ap, subst, sym, arith}
use Rattle.res_objects.specs.BoundedMap.{IsBounded, object_of}
use Rattle.res_objects.proofs.CreateAnswer.{answer_exists, answer_full, answer_ok, exists_law, full_law}
use Rattle.res_objects.proofs.Objects.{bounded, created, IsObjects-create, is_some-object_of, length-map_of, none_from_test}
use Rattle.res_objects.proofs.obj_map.ObjMap.create.Goals as goal

-- the id is held
pub returns-then-is_some-clause-answer : goal.returns-then-is_some-clause-answer
returns-then-is_some-clause-answer g c =
    let held : is_some (object_of c.args.self.now c.args.id) ≡ true = rw (← c.self.view_is) (is_some-object_of _ _ _ c.self.invariant c.args.id ∙ sym (ap is_some c.slot_of.ensures.value) ∙ sym c.is_some.ensures ∙ c.if-is_some.true) in
    sym (answer_exists c.args.self.now c.args.id held)

pub returns-then-is_some-clause-exists : goal.returns-then-is_some-clause-exists
returns-then-is_some-clause-exists g c = exists_law c.args.self.now c.args.id _ (returns-then-is_some-clause-answer g c)

pub returns-then-is_some-clause-full : goal.returns-then-is_some-clause-full
returns-then-is_some-clause-full g c = full_law c.args.self.now c.args.id _ (returns-then-is_some-clause-answer g c)

pub returns-then-is_some-clause-bounded : goal.returns-then-is_some-clause-bounded
returns-then-is_some-clause-bounded g c = subst IsBounded c.self.view_is (bounded _ _ _ c.self.invariant)

-- the id isn't held, and no room is left
pub returns-then-held-self-clause-answer : goal.returns-then-held-self-clause-answer
returns-then-held-self-clause-answer g c =
    let absent : is_some (object_of c.args.self.now c.args.id) ≡ false = rw (← c.self.view_is) (is_some-object_of _ _ _ c.self.invariant c.args.id ∙ sym (ap is_some c.slot_of.ensures.value) ∙ sym c.is_some.ensures ∙ c.if-is_some.false) in
    let full : length c.args.self.now.entries ≡ c.args.self.now.room = rw (← c.self.view_is) (length-map_of _ _ _ c.self.invariant ∙ sym c.len-held.ensures ∙ c.if-held-self.true) in
    sym (answer_full c.args.self.now c.args.id absent full)

pub returns-then-held-self-clause-exists : goal.returns-then-held-self-clause-exists
returns-then-held-self-clause-exists g c = exists_law c.args.self.now c.args.id _ (returns-then-held-self-clause-answer g c)

pub returns-then-held-self-clause-full : goal.returns-then-held-self-clause-full
returns-then-held-self-clause-full g c = full_law c.args.self.now c.args.id _ (returns-then-held-self-clause-answer g c)

pub returns-then-held-self-clause-bounded : goal.returns-then-held-self-clause-bounded
returns-then-held-self-clause-bounded g c = subst IsBounded c.self.view_is (bounded _ _ _ c.self.invariant)

-- the id isn't held, and there is room
pub invariant_of-self : goal.invariant_of-self
invariant_of-self g c =
    let none = none_from_test _ (sym c.is_some.ensures ∙ c.if-is_some.false) in
    IsObjects-create _ _ _ c.self.invariant c.args.id c.put-slot.result c.args.object c.insert.new.self c.put-slot.new.self (sym c.slot_of.ensures.value ∙ none) (omega (arith, c.self.invariant.fits)) c.put-slot.ensures.was_free c.put-slot.ensures.changes c.insert.ensures.slots c.insert.ensures.ordered c.put-slot.ensures.count c.insert.ensures.room c.put-slot.ensures.room

pub returns-clause-answer : goal.returns-clause-answer
returns-clause-answer g c =
    let absent : is_some (object_of c.args.self.now c.args.id) ≡ false = rw (← c.self.view_is) (is_some-object_of _ _ _ c.self.invariant c.args.id ∙ sym (ap is_some c.slot_of.ensures.value) ∙ sym c.is_some.ensures ∙ c.if-is_some.false) in
    let spare : length c.args.self.now.entries ≢ c.args.self.now.room = rw (← c.self.view_is) (λ full. c.if-held-self.false (c.len-held.ensures ∙ sym (length-map_of _ _ _ c.self.invariant) ∙ full)) in
    sym (answer_ok c.args.self.now c.args.id absent spare)

pub returns-clause-ok : goal.returns-clause-ok
returns-clause-ok g c =
    let none = none_from_test _ (sym c.is_some.ensures ∙ c.if-is_some.false) in
    rw (← c.self.view_is) (created _ _ _ c.self.invariant c.args.id c.put-slot.result c.args.object c.insert.new.self c.put-slot.new.self (sym c.slot_of.ensures.value ∙ none) (omega (arith, c.self.invariant.fits)) c.put-slot.ensures.was_free c.put-slot.ensures.changes c.insert.ensures.slots)

pub returns-clause-exists : goal.returns-clause-exists
returns-clause-exists g c = exists_law c.args.self.now c.args.id _ (returns-clause-answer g c)

pub returns-clause-full : goal.returns-clause-full
returns-clause-full g c = full_law c.args.self.now c.args.id _ (returns-clause-answer g c)

pub returns-clause-bounded : goal.returns-clause-bounded
returns-clause-bounded g c = bounded _ _ _ (invariant_of-self g c)
