-- A step keeps well-formed objects well formed.
use Rattle.std.proofs.Common.{◌≡◌, ◌≢◌, ℕ, ◌<◌, ◌≤◌, Bool, true, false, not, ◌&&◌, ◌||◌, cond, eqb, ltb, List, [], ◌∷◌, length, take, Option, Some, None, refl, sym, ap, ◌∙◌, ◌⊎◌, inl, inr, subst, arith, All}
use Rattle.std.specs.Prelude.{is_some, IsSome, IsSomeAnd, fold}
use Rattle.std.specs.Option.{option_map_or}
use Rattle.std.specs.Ordering.{nat_cmp}
use Rattle.std.specs.List.Sorted.{IsStrictlySortedBy}
use Rattle.std.proofs.lemmas.Bool.{not-true, and_parts}
use Rattle.std.proofs.lemmas.Bool.Decides.{nat_tests}
use Rattle.std.proofs.lemmas.List.Elements.{All-head, All-tail, All-take}
use Rattle.ff_headers.specs.SelectorParts.{SelectorParts}
use Rattle.ff_headers.specs.RuleParts.{RuleParts}
use Rattle.ff_headers.specs.Shapes.{HasShape}
use Rattle.ff_headers.specs.Matching.{key_size}
use Rattle.ff_headers.specs.Objects.{FlowObjects, no_objects, object_under, IsById, IsBacked, IsWellFormed}
use Rattle.ff_headers.specs.Changes.{put, without, has_room, is_priority_taken, is_backed, is_sound, with_change_made, CarriesShape, step, after, names_classifier}
use Rattle.ff_headers.specs.declared.limits.Limits.{Limits}
use Rattle.ff_headers.specs.declared.change.Change.{Change}
use Rattle.ff_headers.specs.declared.change.Change.TheVariants.{PutGroup, DropGroup, PutClassifier, DropClassifier, PutRule, DropRule, Close}
use Rattle.ff_headers.proofs.EntryLemmas.{object_under-put, IsById-put, length-put_le, length-put_held, object_under-without, IsById-without, length-without, fails_at_held}

-- ---- tests

apart : (q id : ℕ) → q ≢ id → eqb q id ≡ false
apart q id h = grind (arith, nat_tests)

differs : (a b : ℕ) → eqb a b ≡ false → a ≢ b
differs a b h = λ e. absurd (grind (arith, nat_tests))

pub no_ids : IsStrictlySortedBy nat_cmp []
unfolding IsStrictlySortedBy
no_ids = tt

-- ---- one map

module _ {X : Type 0} where
  -- what a map holds once an object is put: the object under its id, or what it held before
  found_after_put : (es : List (ℕ × X)) (id : ℕ) (x : X) (q : ℕ) (y : X) → object_under (put es id x) q ≡ Some y → ((q ≡ id) × (x ≡ y)) ⊎ ((q ≢ id) × (object_under es q ≡ Some y))
  found_after_put es id x q y h = by_test (eqb q id) refl (sym (object_under-put es id x q) ∙ h) where
    by_test : (b : Bool) → eqb q id ≡ b → cond b (Some x) (object_under es q) ≡ Some y → ((q ≡ id) × (x ≡ y)) ⊎ ((q ≢ id) × (object_under es q ≡ Some y))
    by_test true same is = let at : q ≡ id = grind (arith, nat_tests) in inl (at, cc)
    by_test false same is = let off : q ≢ id = (λ e. absurd (grind (arith, nat_tests))) in inr (off, is)

  same_elsewhere : (es : List (ℕ × X)) (id : ℕ) (x : X) (q : ℕ) → q ≢ id → object_under (put es id x) q ≡ object_under es q
  same_elsewhere es id x q off = object_under-put es id x q ∙ ap (λ b. cond b (Some x) (object_under es q)) (apart q id off)

  still_some : (es : List (ℕ × X)) (id : ℕ) (x : X) (q : ℕ) → IsSome (object_under es q) → IsSome (object_under (put es id x) q)
  still_some es id x q h = by_test (eqb q id) (object_under-put es id x q) where
    by_test : (b : Bool) → object_under (put es id x) q ≡ cond b (Some x) (object_under es q) → IsSome (object_under (put es id x) q)
    by_test true e = ap is_some e
    by_test false e = ap is_some e ∙ h

  found_after_drop : (es : List (ℕ × X)) (id q : ℕ) (y : X) → IsById es → object_under (without es id) q ≡ Some y → object_under es q ≡ Some y
  found_after_drop es id q y sorted h = by_test (eqb id q) (sym (object_under-without es id q sorted) ∙ h) where
    by_test : (b : Bool) → cond b None (object_under es q) ≡ Some y → object_under es q ≡ Some y
    by_test true is = absurd cc
    by_test false is = is

  same_after_drop : (es : List (ℕ × X)) (id q : ℕ) → IsById es → q ≢ id → object_under (without es id) q ≡ object_under es q
  same_after_drop es id q sorted off = object_under-without es id q sorted ∙ ap (λ b. cond b None (object_under es q)) (apart id q (λ e. off (sym e)))

  fits_after_put : (es : List (ℕ × X)) (id : ℕ) (x : X) (limit : ℕ) → IsById es → has_room es id limit ≡ true → length es ≤ limit → length (put es id x) ≤ limit
  fits_after_put es id x limit sorted room fit = by_test (is_some (object_under es id)) refl room where
    by_test : (b : Bool) → is_some (object_under es id) ≡ b → (b || ltb (length es) limit) ≡ true → length (put es id x) ≤ limit
    by_test true has r = let same = length-put_held es id x sorted has in omega arith
    by_test false has r =
        let below : length es < limit = grind (arith, nat_tests) in
        let most = length-put_le es id x in
        omega arith

  fits_after_drop : (es : List (ℕ × X)) (id limit : ℕ) → length es ≤ limit → length (without es id) ≤ limit
  fits_after_drop es id limit fit = let less = length-without es id in omega arith

-- ---- a rule that is backed

-- the tests of a rule to be put
pub backed_from_test : (objects : FlowObjects) (rule : RuleParts) → is_backed objects rule ≡ true → IsBacked objects rule
backed_from_test objects rule h =
    let p = and_parts _ _ h in
    record { group_held = p.0; key_fits = key_from_test (object_under objects.classifiers rule.classifier) p.1 } where
      key_from_test : (o : Option (List SelectorParts)) → option_map_or (λ selectors. eqb (length rule.key) (key_size selectors)) o false ≡ true → IsSomeAnd o (λ selectors. length rule.key ≡ key_size selectors)
      key_from_test None e = absurd cc
      key_from_test (Some selectors) e = grind (arith, nat_tests)

pub same_classifier : (rule : RuleParts) (o p : Option (List SelectorParts)) → o ≡ p → IsSomeAnd p (λ selectors. length rule.key ≡ key_size selectors) → IsSomeAnd o (λ selectors. length rule.key ≡ key_size selectors)
same_classifier rule o p e h = rw e h

-- ---- each kind of change

module _ (limits : Limits) (objects : FlowObjects) (was : IsWellFormed limits objects) where
  -- a rule isn't backed by a classifier that isn't held
  none_backs : {id : ℕ} (rule : RuleParts) → object_under objects.classifiers id ≡ None → rule.classifier ≡ id → IsBacked objects rule → ⊥
  none_backs {id} rule none e b =
      let at : object_under objects.classifiers rule.classifier ≡ None = ap (object_under objects.classifiers) e ∙ none in
      rw at at b.key_fits

  -- no other group has the priority of one that is put
  priority_free : (id priority other : ℕ) → is_priority_taken objects id priority ≡ false → other ≢ id → object_under objects.groups other ≡ Some priority → ⊥
  priority_free id priority other free off h =
      let fails = fails_at_held (λ (e : ℕ × ℕ). not (eqb e.0 id) && eqb e.1 priority) objects.groups other priority free h in
      absurd (grind (arith, nat_tests))

  put_group : (id priority : ℕ) → is_sound limits objects (PutGroup id priority) ≡ true → IsWellFormed limits (with_change_made objects (PutGroup id priority))
  unfolding is_sound with_change_made
  put_group id priority sound =
      let p = and_parts _ _ sound in
      let free = not-true _ p.1 in
      let sorted = was.by_id.groups_rise in
      record {
        by_id = record { groups_rise = IsById-put objects.groups id priority sorted; classifiers_rise = was.by_id.classifiers_rise; rules_rise = was.by_id.rules_rise };
        within = record { groups_fit = fits_after_put objects.groups id priority limits.groups sorted p.0 was.within.groups_fit; classifiers_fit = was.within.classifiers_fit; rules_fit = was.within.rules_fit };
        backed = λ q rule h. let b = was.backed q rule h in record { group_held = still_some objects.groups id priority rule.group b.group_held; key_fits = b.key_fits };
        shaped = was.shaped;
        one_priority = λ a b r ha hb. elim (found_after_put objects.groups id priority a r ha) [
          | inl x ↦ elim (found_after_put objects.groups id priority b r hb) [
            | inl y ↦ x.0 ∙ sym y.0
            | inr y ↦ absurd (priority_free id priority b free y.0 (y.1 ∙ ap Some (sym x.1)))
          ]
          | inr x ↦ elim (found_after_put objects.groups id priority b r hb) [
            | inl y ↦ absurd (priority_free id priority a free x.0 (x.1 ∙ ap Some (sym y.1)))
            | inr y ↦ was.one_priority a b r x.1 y.1
          ]
        ];
      }

  drop_group : (id : ℕ) → is_sound limits objects (DropGroup id) ≡ true → IsWellFormed limits (with_change_made objects (DropGroup id))
  unfolding is_sound with_change_made
  drop_group id sound =
      let unnamed = not-true _ sound in
      let sorted = was.by_id.groups_rise in
      record {
        by_id = record { groups_rise = IsById-without objects.groups id sorted; classifiers_rise = was.by_id.classifiers_rise; rules_rise = was.by_id.rules_rise };
        within = record { groups_fit = fits_after_drop objects.groups id limits.groups was.within.groups_fit; classifiers_fit = was.within.classifiers_fit; rules_fit = was.within.rules_fit };
        backed = λ q rule h.
            let b = was.backed q rule h in
            let fails = fails_at_held (λ (e : ℕ × RuleParts). eqb e.1.group id) objects.rules q rule unnamed h in
            record { group_held = ap is_some (same_after_drop objects.groups id rule.group sorted (differs _ _ fails)) ∙ b.group_held; key_fits = b.key_fits };
        shaped = was.shaped;
        one_priority = λ a b r ha hb. was.one_priority a b r (found_after_drop objects.groups id a r sorted ha) (found_after_drop objects.groups id b r sorted hb);
      }

  -- no rule names a classifier that is put, and there is room for it
  classifier_free : (id : ℕ) → cond (is_some (object_under objects.classifiers id)) (not (names_classifier objects id)) (ltb (length objects.classifiers) limits.classifiers) ≡ true → (has_room objects.classifiers id limits.classifiers ≡ true) × ((q : ℕ) (rule : RuleParts) → object_under objects.rules q ≡ Some rule → rule.classifier ≢ id)
  classifier_free id sound = by_held (object_under objects.classifiers id) refl sound where
    by_held : (o : Option (List SelectorParts)) → object_under objects.classifiers id ≡ o → cond (is_some o) (not (names_classifier objects id)) (ltb (length objects.classifiers) limits.classifiers) ≡ true → ((is_some o || ltb (length objects.classifiers) limits.classifiers) ≡ true) × ((q : ℕ) (rule : RuleParts) → object_under objects.rules q ≡ Some rule → rule.classifier ≢ id)
    by_held None none room = (room, λ q rule h e. none_backs rule none e (was.backed q rule h))
    by_held (Some s) some unnamed = (refl, λ q rule h. differs _ _ (fails_at_held (λ (e : ℕ × RuleParts). eqb e.1.classifier id) objects.rules q rule (not-true _ unnamed) h))

  put_classifier : (id : ℕ) (selectors : List SelectorParts) → HasShape selectors → is_sound limits objects (PutClassifier id selectors) ≡ true → IsWellFormed limits (with_change_made objects (PutClassifier id selectors))
  unfolding is_sound with_change_made
  put_classifier id selectors shape sound =
      let p = classifier_free id sound in
      let sorted = was.by_id.classifiers_rise in
      record {
        by_id = record { groups_rise = was.by_id.groups_rise; classifiers_rise = IsById-put objects.classifiers id selectors sorted; rules_rise = was.by_id.rules_rise };
        within = record { groups_fit = was.within.groups_fit; classifiers_fit = fits_after_put objects.classifiers id selectors limits.classifiers sorted p.0 was.within.classifiers_fit; rules_fit = was.within.rules_fit };
        backed = λ q rule h.
            let b = was.backed q rule h in
            record { group_held = b.group_held; key_fits = same_classifier rule _ _ (same_elsewhere objects.classifiers id selectors rule.classifier (p.1 q rule h)) b.key_fits };
        shaped = λ q found h. elim (found_after_put objects.classifiers id selectors q found h) [
          | inl x ↦ subst HasShape x.1 shape
          | inr x ↦ was.shaped q found x.1
        ];
        one_priority = was.one_priority;
      }

  drop_classifier : (id : ℕ) → is_sound limits objects (DropClassifier id) ≡ true → IsWellFormed limits (with_change_made objects (DropClassifier id))
  unfolding is_sound with_change_made
  drop_classifier id sound =
      let unnamed = not-true _ sound in
      let sorted = was.by_id.classifiers_rise in
      record {
        by_id = record { groups_rise = was.by_id.groups_rise; classifiers_rise = IsById-without objects.classifiers id sorted; rules_rise = was.by_id.rules_rise };
        within = record { groups_fit = was.within.groups_fit; classifiers_fit = fits_after_drop objects.classifiers id limits.classifiers was.within.classifiers_fit; rules_fit = was.within.rules_fit };
        backed = λ q rule h.
            let b = was.backed q rule h in
            let fails = fails_at_held (λ (e : ℕ × RuleParts). eqb e.1.classifier id) objects.rules q rule unnamed h in
            record { group_held = b.group_held; key_fits = same_classifier rule _ _ (same_after_drop objects.classifiers id rule.classifier sorted (differs _ _ fails)) b.key_fits };
        shaped = λ q found h. was.shaped q found (found_after_drop objects.classifiers id q found sorted h);
        one_priority = was.one_priority;
      }

  put_rule : (id : ℕ) (rule : RuleParts) → is_sound limits objects (PutRule id rule) ≡ true → IsWellFormed limits (with_change_made objects (PutRule id rule))
  unfolding is_sound with_change_made
  put_rule id rule sound =
      let p = and_parts _ _ sound in
      let backed = backed_from_test objects rule p.0 in
      let sorted = was.by_id.rules_rise in
      record {
        by_id = record { groups_rise = was.by_id.groups_rise; classifiers_rise = was.by_id.classifiers_rise; rules_rise = IsById-put objects.rules id rule sorted };
        within = record { groups_fit = was.within.groups_fit; classifiers_fit = was.within.classifiers_fit; rules_fit = fits_after_put objects.rules id rule limits.rules sorted p.1 was.within.rules_fit };
        backed = λ q found h. elim (found_after_put objects.rules id rule q found h) [
          | inl x ↦ let b = subst (IsBacked objects) x.1 backed in record { group_held = b.group_held; key_fits = b.key_fits }
          | inr x ↦ let b = was.backed q found x.1 in record { group_held = b.group_held; key_fits = b.key_fits }
        ];
        shaped = was.shaped;
        one_priority = was.one_priority;
      }

  drop_rule : (id : ℕ) → IsWellFormed limits (with_change_made objects (DropRule id))
  unfolding with_change_made
  drop_rule id =
      let sorted = was.by_id.rules_rise in
      record {
        by_id = record { groups_rise = was.by_id.groups_rise; classifiers_rise = was.by_id.classifiers_rise; rules_rise = IsById-without objects.rules id sorted };
        within = record { groups_fit = was.within.groups_fit; classifiers_fit = was.within.classifiers_fit; rules_fit = fits_after_drop objects.rules id limits.rules was.within.rules_fit };
        backed = λ q found h. let b = was.backed q found (found_after_drop objects.rules id q found sorted h) in record { group_held = b.group_held; key_fits = b.key_fits };
        shaped = was.shaped;
        one_priority = was.one_priority;
      }

  close_unsound : is_sound limits objects Close ≡ true → ⊥
  unfolding is_sound
  close_unsound h = cc

  sound_keeps : (change : Change) → CarriesShape change → is_sound limits objects change ≡ true → IsWellFormed limits (with_change_made objects change)
  sound_keeps (PutGroup id priority) shape sound = put_group id priority sound
  sound_keeps (DropGroup id) shape sound = drop_group id sound
  sound_keeps (PutClassifier id selectors) shape sound = put_classifier id selectors shape sound
  sound_keeps (DropClassifier id) shape sound = drop_classifier id sound
  sound_keeps (PutRule id rule) shape sound = put_rule id rule sound
  sound_keeps (DropRule id) shape sound = drop_rule id
  sound_keeps Close shape sound = absurd (close_unsound sound)

  pub step_keeps : (change : Change) → CarriesShape change → IsWellFormed limits (step limits objects change)
  unfolding step
  step_keeps change shape = by_test (is_sound limits objects change) (sound_keeps change shape) where
    by_test : (b : Bool) → (b ≡ true → IsWellFormed limits (with_change_made objects change)) → IsWellFormed limits (cond b (with_change_made objects change) objects)
    by_test true kept = kept refl
    by_test false kept = was

-- ---- a list of changes

pub none_are_well_formed : (limits : Limits) → IsWellFormed limits no_objects
none_are_well_formed limits = record {
  by_id = record { groups_rise = no_ids; classifiers_rise = no_ids; rules_rise = no_ids };
  within = record { groups_fit = omega arith; classifiers_fit = omega arith; rules_fit = omega arith };
  backed = λ id rule h. absurd cc;
  shaped = λ id selectors h. absurd cc;
  one_priority = λ a b priority h k. absurd cc;
}

steps_keep : (limits : Limits) (objects : FlowObjects) (changes : List Change) → IsWellFormed limits objects → All CarriesShape changes → IsWellFormed limits (fold (step limits) objects changes)
steps_keep limits objects [] was shape = was
steps_keep limits objects (c ∷ cs) was shape =
    steps_keep limits (step limits objects c) cs (step_keeps limits objects was c (All-head CarriesShape c cs shape)) (All-tail CarriesShape c cs shape)

pub after_is_well_formed : (limits : Limits) (changes : List Change) (k : ℕ) → All CarriesShape changes → IsWellFormed limits (after limits changes k)
unfolding after
after_is_well_formed limits changes k shape =
    steps_keep limits no_objects (take k changes) (none_are_well_formed limits) (All-take CarriesShape k changes shape)
