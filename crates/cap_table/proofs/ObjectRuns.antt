-- What runs keep of objects: what a rule names, what a put leaves, what a drop takes away again.
use Rattle.std.proofs.Common.{◌≡◌, ◌≢◌, ℕ, Bool, true, false, not, cond, eqb, ltb, List, [], ◌∷◌, Option, Some, None, refl, sym, ap, ◌∙◌, arith}
use Rattle.std.specs.Prelude.{is_some, IsSome}
use Rattle.std.proofs.lemmas.Bool.{not-true}
use Rattle.std.proofs.lemmas.Bool.Decides.{nat_tests}
use Rattle.ff_headers.specs.SelectorParts.{SelectorParts}
use Rattle.ff_headers.specs.RuleParts.{RuleParts}
use Rattle.ff_headers.specs.Objects.{FlowObjects, object_under, IsById, IsWellFormed}
use Rattle.ff_headers.specs.Changes.{put, without, is_sound, names_group, names_classifier, with_change_made, step}
use Rattle.ff_headers.specs.declared.limits.Limits.{Limits}
use Rattle.ff_headers.specs.declared.change.Change.{Change}
use Rattle.ff_headers.specs.declared.change.Change.TheVariants.{PutGroup, DropGroup, PutClassifier, DropClassifier, PutRule, DropRule, Close}
use Rattle.ff_headers.proofs.EntryLemmas.{object_under-cons, put-cons, without-cons, object_under-put, object_under-without, fails_at_held}
use Rattle.cap_table.specs.States.{DeviceState, IsValid}
use Rattle.cap_table.specs.Steps.{with_effect}
use Rattle.cap_table.specs.declared.answer.Effect.{Effect}
use Rattle.cap_table.specs.declared.answer.Effect.TheVariants as effects

-- ---- one map

pub apart : (a b : ℕ) → a ≢ b → eqb a b ≡ false
apart a b off = grind (arith, nat_tests)

differs : (a b : ℕ) → eqb a b ≡ false → a ≢ b
differs a b test same = absurd (grind (arith, nat_tests))

pub itself : (a : ℕ) → eqb a a ≡ true
itself a = grind (arith, nat_tests)

module _ {X : Type 0} where
  pub under_put_same : (es : List (ℕ × X)) (id : ℕ) (x : X) → object_under (put es id x) id ≡ Some x
  under_put_same es id x = object_under-put es id x id ∙ ap (λ b. cond b (Some x) (object_under es id)) (itself id)

  pub under_put_other : (es : List (ℕ × X)) (id : ℕ) (x : X) (q : ℕ) → q ≢ id → object_under (put es id x) q ≡ object_under es q
  under_put_other es id x q off = object_under-put es id x q ∙ ap (λ b. cond b (Some x) (object_under es q)) (apart q id off)

  pub under_without_other : (es : List (ℕ × X)) (id q : ℕ) → IsById es → q ≢ id → object_under (without es id) q ≡ object_under es q
  under_without_other es id q sorted off =
      object_under-without es id q sorted ∙ ap (λ b. cond b None (object_under es q)) (apart id q (λ e. off (sym e)))

  some_after_put : (es : List (ℕ × X)) (id : ℕ) (x : X) (q : ℕ) → IsSome (object_under es q) → IsSome (object_under (put es id x) q)
  some_after_put es id x q held = by_test (eqb q id) (object_under-put es id x q) where
    by_test : (b : Bool) → object_under (put es id x) q ≡ cond b (Some x) (object_under es q) → IsSome (object_under (put es id x) q)
    by_test true e = ap is_some e
    by_test false e = ap is_some e ∙ held

  -- an object that is put under a new id, and taken out again, leaves no trace
  put_and_out : (key : ℕ) (value : X) (es : List (ℕ × X)) (id : ℕ) (x : X) → object_under ((key, value) ∷ es) id ≡ None → (object_under es id ≡ None → without (put es id x) id ≡ es) → without (put ((key, value) ∷ es) id x) id ≡ (key, value) ∷ es
  put_and_out key value es id x none rest = by_tests (eqb id key) (ltb id key) refl (put-cons key value es id x) (sym (object_under-cons key value es id) ∙ none) where
    by_tests : (same lesser : Bool) → eqb id key ≡ same → put ((key, value) ∷ es) id x ≡ cond lesser ((id, x) ∷ (key, value) ∷ es) (cond same ((key, x) ∷ es) ((key, value) ∷ put es id x)) → cond same (Some value) (object_under es id) ≡ None → without (put ((key, value) ∷ es) id x) id ≡ (key, value) ∷ es
    by_tests true lesser at is missing = absurd cc
    by_tests false true at is missing =
        ap (λ (l : List (ℕ × X)). without l id) is ∙ (without-cons id x ((key, value) ∷ es) id ∙ ap (λ b. cond b ((key, value) ∷ es) ((id, x) ∷ without ((key, value) ∷ es) id)) (itself id))
    by_tests false false at is missing =
        ap (λ (l : List (ℕ × X)). without l id) is ∙ (without-cons key value (put es id x) id ∙ (ap (λ b. cond b (put es id x) ((key, value) ∷ without (put es id x) id)) at ∙ ap (λ (l : List (ℕ × X)). (key, value) ∷ l) (rest missing)))

  pub without-put : (es : List (ℕ × X)) (id : ℕ) (x : X) → object_under es id ≡ None → without (put es id x) id ≡ es
  without-put [] id x none = without-cons id x [] id ∙ ap (λ b. cond b [] ((id, x) ∷ [])) (itself id)
  without-put (e ∷ es) id x none = put_and_out e.0 e.1 es id x none (without-put es id x)

-- a change that is sound is made
pub step_sound : (limits : Limits) (objects : FlowObjects) (change : Change) → is_sound limits objects change ≡ true → step limits objects change ≡ with_change_made objects change
unfolding step
step_sound limits objects change sound = ap (λ b. cond b (with_change_made objects change) objects) sound

-- ---- what a rule names

module _ (limits : Limits) (objects : FlowObjects) (was : IsWellFormed limits objects) (r : ℕ) (rule : RuleParts) (held : object_under objects.rules r ≡ Some rule) where
  -- an id that no rule names isn't that of the rule's classifier, nor of its group
  unnamed_classifier : (id : ℕ) → names_classifier objects id ≡ false → rule.classifier ≢ id
  unnamed_classifier id unnamed = differs _ _ (fails_at_held (λ (e : ℕ × RuleParts). eqb e.1.classifier id) objects.rules r rule unnamed held)

  unnamed_group : (id : ℕ) → names_group objects id ≡ false → rule.group ≢ id
  unnamed_group id unnamed = differs _ _ (fails_at_held (λ (e : ℕ × RuleParts). eqb e.1.group id) objects.rules r rule unnamed held)

  replaced_classifier : (id : ℕ) (room : Bool) → cond (is_some (object_under objects.classifiers id)) (not (names_classifier objects id)) room ≡ true → rule.classifier ≢ id
  replaced_classifier id room sound at = by_test (is_some (object_under objects.classifiers id)) refl sound where
    by_test : (b : Bool) → is_some (object_under objects.classifiers id) ≡ b → cond b (not (names_classifier objects id)) room ≡ true → ⊥
    by_test true is free = unnamed_classifier id (not-true _ free) at
    by_test false is free = not_backed (object_under objects.classifiers id) is (ap (object_under objects.classifiers) at) where
      not_backed : (o : Option (List SelectorParts)) → is_some o ≡ false → object_under objects.classifiers rule.classifier ≡ o → ⊥
      not_backed None none here = let backed = was.backed r rule held in absurd (rw here at backed.key_fits)
      not_backed (Some selectors) none here = absurd cc

  group_after : (change : Change) → is_sound limits objects change ≡ true → IsSome (object_under (with_change_made objects change).groups rule.group)
  unfolding is_sound with_change_made
  group_after (PutGroup id priority) sound = let backed = was.backed r rule held in some_after_put objects.groups id priority rule.group backed.group_held
  group_after (DropGroup id) sound =
      let backed = was.backed r rule held in
      ap is_some (under_without_other objects.groups id rule.group was.by_id.groups_rise (unnamed_group id (not-true _ sound))) ∙ backed.group_held
  group_after (PutClassifier id selectors) sound = let backed = was.backed r rule held in backed.group_held
  group_after (DropClassifier id) sound = let backed = was.backed r rule held in backed.group_held
  group_after (PutRule id other) sound = let backed = was.backed r rule held in backed.group_held
  group_after (DropRule id) sound = let backed = was.backed r rule held in backed.group_held
  group_after Close sound = absurd cc

  classifier_after : (change : Change) → is_sound limits objects change ≡ true → object_under (with_change_made objects change).classifiers rule.classifier ≡ object_under objects.classifiers rule.classifier
  unfolding is_sound with_change_made
  classifier_after (PutGroup id priority) sound = refl
  classifier_after (DropGroup id) sound = refl
  classifier_after (PutClassifier id selectors) sound = under_put_other objects.classifiers id selectors rule.classifier (replaced_classifier id _ sound)
  classifier_after (DropClassifier id) sound = under_without_other objects.classifiers id rule.classifier was.by_id.classifiers_rise (unnamed_classifier id (not-true _ sound))
  classifier_after (PutRule id other) sound = refl
  classifier_after (DropRule id) sound = refl
  classifier_after Close sound = absurd cc

  -- a change leaves the rule's group held, and its classifier as it is
  pub named_after : (change : Change) → IsSome (object_under (step limits objects change).groups rule.group) × (object_under (step limits objects change).classifiers rule.classifier ≡ object_under objects.classifiers rule.classifier)
  unfolding step
  named_after change = by_test (is_sound limits objects change) refl where
    by_test : (b : Bool) → is_sound limits objects change ≡ b → IsSome (object_under (cond b (with_change_made objects change) objects).groups rule.group) × (object_under (cond b (with_change_made objects change) objects).classifiers rule.classifier ≡ object_under objects.classifiers rule.classifier)
    by_test true sound = (group_after change sound, classifier_after change sound)
    by_test false sound = let backed = was.backed r rule held in (backed.group_held, refl)

-- no command destroys the group or the classifier of a rule, nor changes that classifier
pub named_stay : (state : DeviceState) (effect : Effect) (r : ℕ) (rule : RuleParts) → IsValid state → object_under state.objects.rules r ≡ Some rule → let after = with_effect state effect in IsSome (object_under after.objects.groups rule.group) × (object_under after.objects.classifiers rule.classifier ≡ object_under state.objects.classifiers rule.classifier)
named_stay state (effects.Change change) r rule valid held = named_after state.caps.limits state.objects valid.objects r rule held change
named_stay state effects.Nothing r rule valid held = let backed = valid.objects.backed r rule held in (backed.group_held, refl)
named_stay state (effects.Use opcodes) r rule valid held = let backed = valid.objects.backed r rule held in (backed.group_held, refl)
named_stay state (effects.Caps driver) r rule valid held = let backed = valid.objects.backed r rule held in (backed.group_held, refl)
