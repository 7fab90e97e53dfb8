-- What a change does to a store: the maps that hold the changed objects, with the counts of their rules, are a store again.
use Rattle.std.proofs.Common.{◌≡◌, ℕ, Bool, true, false, not, cond, eqb, ltb, List, length, Option, Some, None, refl, sym, ap, ◌∙◌, ◌||◌, ◌≤◌, subst, arith, count_by}
use Rattle.std.specs.List.{list_any}
use Rattle.std.specs.Option.{option_map_or}
use Rattle.std.specs.Prelude.{is_some}
use Rattle.std.proofs.lemmas.Bool.{and_parts, not-true}
use Rattle.std.proofs.lemmas.Bool.Decides.{nat_tests}
use Rattle.ff_headers.specs.SelectorParts.{SelectorParts}
use Rattle.ff_headers.specs.RuleParts.{RuleParts}
use Rattle.ff_headers.specs.Matching.{key_size}
use Rattle.ff_headers.specs.Objects.{FlowObjects, object_under, IsWellFormed}
use Rattle.ff_headers.specs.Changes.{put, without, has_room, is_sound, with_change_made, step, CarriesShape, names_classifier}
use Rattle.ff_headers.specs.Dependents.{rules_in_group, rules_with_classifier}
use Rattle.ff_headers.specs.declared.limits.Limits.{Limits}
use Rattle.ff_headers.specs.declared.change.Change.{Change}
use Rattle.ff_headers.specs.declared.change.Change.TheVariants.{PutGroup, DropGroup, PutClassifier, DropClassifier, PutRule, DropRule, Close}
use Rattle.ff_headers.proofs.ChangeLemmas.{step_keeps}
use Rattle.ff_store.specs.Counts.{objects_of, count_of}
use Rattle.ff_store.specs.LimitedObjects.{LimitedObjects, with_change}
use Rattle.ff_store.specs.Stores.{GroupMap, ClassifierMap, RuleMap, objects_in, IsStore}
use Rattle.ff_store.proofs.EntryLemmas.{some_counted}

-- the tests of a put of a classifier say that there is room
room_by : (is_held below unnamed : Bool) → cond is_held unnamed below ≡ true → (is_held || below) ≡ true
room_by true below unnamed h = refl
room_by false below unnamed h = h

is_some_by : {X : Type 0} (p : X → Bool) (o : Option X) → option_map_or p o false ≡ true → is_some o ≡ true
is_some_by p None h = absurd cc
is_some_by p (Some x) h = refl

module _ {X : Type 0} (p : X → Bool) (es : List (ℕ × X)) where
  -- a test that no entry passes counts none
  counts_none : not (list_any (λ e. p e.1) es) ≡ true → count_by (λ e. p e.1) es ≡ 0
  counts_none none = let test = some_counted p es ∙ not-true _ none in grind (arith, nat_tests)

-- a change that isn't sound changes nothing
pub unsound : (self : LimitedObjects) (change : Change) → is_sound self.limits self.objects change ≡ false → self ≡ with_change self change
unfolding step
unsound self change h = ap (λ b. record self { objects = cond b (with_change_made self.objects change) self.objects }) (sym h)

pub close_unsound : (self : LimitedObjects) → is_sound self.limits self.objects Close ≡ false
unfolding is_sound
close_unsound self = refl

module _ (limits : Limits) (groups : GroupMap) (classifiers : ClassifierMap) (rules : RuleMap) (was : IsStore limits groups classifiers rules) (self : LimitedObjects) where
  abbrev objects : FlowObjects
  objects = objects_in groups classifiers rules

  abbrev IsSeen : Type 0
  IsSeen = let seen : LimitedObjects = record { limits = limits; objects = objects } in seen ≡ self

  module _ (view : IsSeen) where
    -- a fact of what contracts see
    pub seen : (P : Limits → FlowObjects → Type 0) → P self.limits self.objects → P limits objects
    seen P h = subst (λ (s : LimitedObjects). P s.limits s.objects) (sym view) h

    module _ (change : Change) where
      sound_step : is_sound limits objects change ≡ true → with_change_made objects change ≡ step limits objects change
      unfolding step
      sound_step sound = ap (λ b. cond b (with_change_made objects change) objects) (sym sound)

      -- what contracts see after the change
      pub stepped : (groups' : GroupMap) (classifiers' : ClassifierMap) (rules' : RuleMap) → is_sound self.limits self.objects change ≡ true → objects_in groups' classifiers' rules' ≡ with_change_made objects change → let after : LimitedObjects = record { limits = limits; objects = objects_in groups' classifiers' rules' } in after ≡ with_change self change
      stepped groups' classifiers' rules' sound made =
          rw (← view) (ap (λ (o : FlowObjects). let s : LimitedObjects = record { limits = limits; objects = o } in s) (made ∙ sound_step (seen (λ l o. is_sound l o change ≡ true) sound)))

      -- and what is kept
      pub kept : (groups' : GroupMap) (classifiers' : ClassifierMap) (rules' : RuleMap)
          → is_sound self.limits self.objects change ≡ true → CarriesShape change
          → objects_in groups' classifiers' rules' ≡ with_change_made objects change
          → groups'.room ≡ groups.room → classifiers'.room ≡ classifiers.room → rules'.room ≡ rules.room
          → ((q : ℕ) → count_of groups'.entries q ≡ rules_in_group (objects_in groups' classifiers' rules') q)
          → ((q : ℕ) → count_of classifiers'.entries q ≡ rules_with_classifier (objects_in groups' classifiers' rules') q)
          → IsStore limits groups' classifiers' rules'
      kept groups' classifiers' rules' sound shape made groups_room classifiers_room rules_room group_counts classifier_counts = record {
        groups_room = groups_room ∙ was.groups_room;
        classifiers_room = classifiers_room ∙ was.classifiers_room;
        rules_room = rules_room ∙ was.rules_room;
        well_formed = subst (IsWellFormed limits) (sym (made ∙ sound_step (seen (λ l o. is_sound l o change ≡ true) sound))) (step_keeps limits objects was.well_formed change shape);
        group_counts = group_counts;
        classifier_counts = classifier_counts;
        counts_fit = was.counts_fit;
      }

    -- ---- the conditions of the calls on the maps

    pub group_room : (id priority : ℕ) → is_sound self.limits self.objects (PutGroup id priority) ≡ true → has_room objects.groups id groups.room ≡ true
    unfolding is_sound
    group_room id priority sound = rw was.groups_room (and_parts _ _ (seen (λ l o. is_sound l o (PutGroup id priority) ≡ true) sound)).0

    pub group_unnamed : (id : ℕ) → is_sound self.limits self.objects (DropGroup id) ≡ true → count_of groups.entries id ≡ 0
    unfolding is_sound
    group_unnamed id sound = was.group_counts id ∙ counts_none (λ (r : RuleParts). eqb r.group id) rules.entries (seen (λ l o. is_sound l o (DropGroup id) ≡ true) sound)

    pub classifier_room : (id : ℕ) (selectors : List SelectorParts) → is_sound self.limits self.objects (PutClassifier id selectors) ≡ true → has_room objects.classifiers id classifiers.room ≡ true
    unfolding is_sound
    classifier_room id selectors sound =
        let tests = seen (λ l o. is_sound l o (PutClassifier id selectors) ≡ true) sound in
        rw was.classifiers_room (room_by (is_some (object_under objects.classifiers id)) (ltb (length objects.classifiers) limits.classifiers) (not (names_classifier objects id)) tests)

    pub classifier_unnamed : (id : ℕ) → is_sound self.limits self.objects (DropClassifier id) ≡ true → count_of classifiers.entries id ≡ 0
    unfolding is_sound
    classifier_unnamed id sound = was.classifier_counts id ∙ counts_none (λ (r : RuleParts). eqb r.classifier id) rules.entries (seen (λ l o. is_sound l o (DropClassifier id) ≡ true) sound)

    -- ---- a change of one map, where the rules and so the counts stay

    module _ (groups' : GroupMap) where
      pub group_put : (id priority : ℕ) → objects_of groups'.entries ≡ put (objects_of groups.entries) id priority → objects_in groups' classifiers rules ≡ with_change_made objects (PutGroup id priority)
      unfolding with_change_made
      group_put id priority made = ap (λ es. record objects { groups = es }) made

      pub group_dropped : (id : ℕ) → objects_of groups'.entries ≡ without (objects_of groups.entries) id → objects_in groups' classifiers rules ≡ with_change_made objects (DropGroup id)
      unfolding with_change_made
      group_dropped id made = ap (λ es. record objects { groups = es }) made

      pub groups_kept : (change : Change) → is_sound self.limits self.objects change ≡ true → CarriesShape change → objects_in groups' classifiers rules ≡ with_change_made objects change → ((q : ℕ) → count_of groups'.entries q ≡ count_of groups.entries q) → groups'.room ≡ groups.room → IsStore limits groups' classifiers rules
      groups_kept change sound shape made counts room =
          kept change groups' classifiers rules sound shape made room refl refl (λ q. counts q ∙ was.group_counts q) was.classifier_counts

    module _ (classifiers' : ClassifierMap) where
      pub classifier_put : (id : ℕ) (selectors : List SelectorParts) → objects_of classifiers'.entries ≡ put (objects_of classifiers.entries) id selectors → objects_in groups classifiers' rules ≡ with_change_made objects (PutClassifier id selectors)
      unfolding with_change_made
      classifier_put id selectors made = ap (λ es. record objects { classifiers = es }) made

      pub classifier_dropped : (id : ℕ) → objects_of classifiers'.entries ≡ without (objects_of classifiers.entries) id → objects_in groups classifiers' rules ≡ with_change_made objects (DropClassifier id)
      unfolding with_change_made
      classifier_dropped id made = ap (λ es. record objects { classifiers = es }) made

      pub classifiers_kept : (change : Change) → is_sound self.limits self.objects change ≡ true → CarriesShape change → objects_in groups classifiers' rules ≡ with_change_made objects change → ((q : ℕ) → count_of classifiers'.entries q ≡ count_of classifiers.entries q) → classifiers'.room ≡ classifiers.room → IsStore limits groups classifiers' rules
      classifiers_kept change sound shape made counts room =
          kept change groups classifiers' rules sound shape made refl room refl was.group_counts (λ q. counts q ∙ was.classifier_counts q)

    -- ---- a change of the rules

    pub drop_rule_sound : (id : ℕ) → is_sound self.limits self.objects (DropRule id) ≡ true
    unfolding is_sound
    drop_rule_sound id = refl

    module _ (groups' : GroupMap) (classifiers' : ClassifierMap) (rules' : RuleMap) (same_groups : objects_of groups'.entries ≡ objects_of groups.entries) (same_classifiers : objects_of classifiers'.entries ≡ objects_of classifiers.entries) where
      pub rule_put : (id : ℕ) (rule : RuleParts) → rules'.entries ≡ put rules.entries id rule → objects_in groups' classifiers' rules' ≡ with_change_made objects (PutRule id rule)
      unfolding with_change_made
      rule_put id rule made = rw (same_groups, same_classifiers, made) refl

      pub rule_dropped : (id : ℕ) → rules'.entries ≡ without rules.entries id → objects_in groups' classifiers' rules' ≡ with_change_made objects (DropRule id)
      unfolding with_change_made
      rule_dropped id made = rw (same_groups, same_classifiers, made) refl

    module _ (id : ℕ) (rule : RuleParts) (sound : is_sound self.limits self.objects (PutRule id rule) ≡ true) where
      rule_tests : is_sound limits objects (PutRule id rule) ≡ true
      rule_tests = seen (λ l o. is_sound l o (PutRule id rule) ≡ true) sound

      pub rule_room : has_room rules.entries id rules.room ≡ true
      unfolding is_sound
      rule_room = rw was.rules_room (and_parts _ _ rule_tests).1

      pub rule_group : is_some (object_under objects.groups rule.group) ≡ true
      unfolding is_sound
      rule_group = (and_parts _ _ (and_parts _ _ rule_tests).0).0

      pub rule_classifier : is_some (object_under objects.classifiers rule.classifier) ≡ true
      unfolding is_sound
      rule_classifier = is_some_by (λ selectors. eqb (length rule.key) (key_size selectors)) (object_under objects.classifiers rule.classifier) (and_parts _ _ (and_parts _ _ rule_tests).0).1

      pub rules_fit : length (put rules.entries id rule) ≤ limits.rules
      unfolding with_change_made
      rules_fit =
          let after = subst (IsWellFormed limits) (sym (sound_step (PutRule id rule) rule_tests)) (step_keeps limits objects was.well_formed (PutRule id rule) tt) in
          after.within.rules_fit
