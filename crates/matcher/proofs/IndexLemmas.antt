-- What is kept under each id, before and after a change.
use Rattle.std.proofs.Common.{◌≡◌, ◌≢◌, ℕ, ◌+◌, ◌<◌, ◌≤◌, Bool, true, false, not, ◌||◌, take, cond, eqb, ltb, List, [], ◌∷◌, length, get_or, Option, Some, None, refl, sym, ap, ◌∙◌, subst, arith, Contains}
use Rattle.std.specs.Prelude.{IsSome, is_some, unwrap_or, slice_get}
use Rattle.std.specs.List.{list_any}
use Rattle.std.proofs.lemmas.List.Folds.{list_any-append}
use Rattle.std.proofs.lemmas.Option.{get_or_from_slice_get, slice_get_within}
use Rattle.std.specs.Option.{option_map, option_map_or}
use Rattle.std.specs.Map.{keys_of}
use Rattle.std.proofs.lemmas.Bool.Decides.{nat_tests}
use Rattle.std.proofs.lemmas.List.{get_or-map, length-map, take_more, take_all}
use Rattle.std.proofs.lemmas.Map.Entries.{length-keys_of}
use Rattle.ff_headers.specs.SelectorParts.{SelectorParts}
use Rattle.ff_headers.specs.RuleParts.{RuleParts}
use Rattle.ff_headers.specs.Objects.{FlowObjects, object_under, IsById, IsBacked, IsWellFormed, no_objects}
use Rattle.ff_headers.specs.Changes.{put, has_room, is_sound, step, with_change_made, names_classifier}
use Rattle.ff_headers.specs.declared.change.Change.{Change}
use Rattle.ff_headers.specs.declared.change.Change.TheVariants.{PutGroup, DropGroup, PutClassifier, DropClassifier, PutRule, DropRule, Close}
use Rattle.std.proofs.lemmas.Bool.{not-true, and_parts}
use Rattle.ff_headers.specs.Places.{RuleEntry}
use Rattle.ff_headers.specs.declared.limits.Limits.{Limits}
use Rattle.ff_headers.proofs.EntryLemmas.{entry_from_held, held_from_entry, object_under-put, object_under-without, fails_at_held}
use Rattle.matcher.specs.Keys.{Shape, shape_of}
use Rattle.matcher.specs.Rows.{Kept, with_kept, IsNew, AreUsed, AreHeld, held_shapes, kept_with, kept_by, kept_under, moved, moved_so_far, AreRows}
use Rattle.matcher.specs.Indexes.{IsRowIndex}
use Rattle.matcher.specs.declared.rows.Row.{Row}
use Rattle.matcher.specs.declared.index.RowIndex.{RowIndex}
use Rattle.ff_headers.proofs.ChangeLemmas.{backed_from_test}
use Rattle.matcher.proofs.RowLemmas.{same_kept, option_parts}
use Rattle.matcher.proofs.RoomLemmas.{rows_room, shapes_room, key_held, held_once_put, held_that_is_put, put_fits}

pub none_kept : AreRows (kept_under no_objects) [] []
unfolding kept_under
none_kept = record {
  apart = λ i j lt within. absurd (omega arith);
  rising = λ i j d lt within. absurd (omega arith);
  sound = λ row has. absurd (omega (arith, has.1));
  complete = λ id one is. absurd cc;
}

-- ---- one id

pub kept_once : (kept : ℕ → Option Kept) (id : ℕ) (a b : Option Kept) (q : ℕ) → with_kept (with_kept kept id a) id b q ≡ with_kept kept id b q
kept_once kept id a b q = by_test (eqb q id) where
  by_test : (t : Bool) → cond t b (cond t a (kept q)) ≡ cond t b (kept q)
  by_test true = refl
  by_test false = refl

pub kept_at : (kept : ℕ → Option Kept) (id : ℕ) (a : Option Kept) → with_kept kept id a id ≡ a
kept_at kept id a = let t : eqb id id ≡ true = grind (arith, nat_tests) in rw t refl

-- what is kept without an id was kept before
kept_before : (kept : ℕ → Option Kept) (id q : ℕ) (one : Kept) → with_kept kept id None q ≡ Some one → kept q ≡ Some one
kept_before kept id q one is = by_test (eqb q id) is where
  by_test : (t : Bool) → cond t None (kept q) ≡ Some one → kept q ≡ Some one
  by_test true h = absurd cc
  by_test false h = h

-- ---- room

pub shape_held : (objects : FlowObjects) (classifier : ℕ) (selectors : List SelectorParts) → object_under objects.classifiers classifier ≡ Some selectors → Contains (held_shapes objects) (shape_of selectors)
shape_held objects classifier selectors is =
    let has = entry_from_held objects.classifiers classifier selectors is in
    let long = length-map objects.classifiers (λ (e : ℕ × List SelectorParts). shape_of e.1) in
    (has.0, omega (arith, has.1), get_or-map (λ (e : ℕ × List SelectorParts). shape_of e.1) objects.classifiers has.0 (classifier, selectors) (shape_of selectors) has.1 ∙ ap (λ (e : ℕ × List SelectorParts). shape_of e.1) has.2)

module _ (limits : Limits) (objects : FlowObjects) (well : IsWellFormed limits objects) (kept : ℕ → Option Kept) (held : AreHeld objects kept) (shapes : List (List SelectorParts)) (rows : List Row) (id : ℕ) (was : AreRows (with_kept kept id None) shapes rows) where
  pub row_fits : (rule : RuleParts) → has_room objects.rules id limits.rules ≡ true → length rows < limits.rules
  row_fits rule room =
      let long = length-keys_of (put objects.rules id rule) in
      let fits = put_fits objects.rules id rule limits.rules well.by_id.rules_rise room well.within.rules_fit in
      let most = rows_room (with_kept kept id None) shapes rows was id (keys_of (put objects.rules id rule)) (kept_at kept id None) (λ q one is. key_held (put objects.rules id rule) q (held_once_put objects.rules id rule q (held q one (kept_before kept id q one is)).0)) (key_held (put objects.rules id rule) id (held_that_is_put objects.rules id rule)) in
      omega arith

module _ (limits : Limits) (objects : FlowObjects) (well : IsWellFormed limits objects) (kept : ℕ → Option Kept) (held : AreHeld objects kept) (shapes : List (List SelectorParts)) (rows : List Row) (was : AreRows kept shapes rows) where
  pub shape_fits : (classifier : ℕ) (selectors : List SelectorParts) → object_under objects.classifiers classifier ≡ Some selectors → IsNew shapes selectors → AreUsed shapes rows → length shapes < limits.classifiers
  shape_fits classifier selectors is new used =
      let long = length-map objects.classifiers (λ (e : ℕ × List SelectorParts). shape_of e.1) in
      let fits = well.within.classifiers_fit in
      let most = shapes_room kept shapes rows was selectors (held_shapes objects) new used (λ q one is. (held q one is).1) (shape_held objects classifier selectors is) in
      omega arith

-- ---- what is kept of held rules is held

pub held_by : (objects : FlowObjects) (priority : RuleParts → ℕ) (id : ℕ) (one : Kept) → option_map_or (λ (rule : RuleParts). kept_by objects (priority rule) (id, rule)) (object_under objects.rules id) None ≡ Some one → IsSome (object_under objects.rules id) × Contains (held_shapes objects) one.shape
held_by objects priority id one is = by (object_under objects.rules id) is where
  by : (o : Option RuleParts) → option_map_or (λ (rule : RuleParts). kept_by objects (priority rule) (id, rule)) o None ≡ Some one → IsSome o × Contains (held_shapes objects) one.shape
  by None h = absurd cc
  by (Some rule) h =
      let p = option_parts (kept_with (priority rule) (id, rule)) (object_under objects.classifiers rule.classifier) one h in
      (refl, subst (λ (shape : Shape). Contains (held_shapes objects) shape) (ap (λ (k : Kept). k.shape) p.2) (shape_held objects rule.classifier p.0 p.1))

pub kept_are_held : (objects : FlowObjects) → AreHeld objects (kept_under objects)
unfolding kept_under
kept_are_held objects id one is = held_by objects (λ rule. unwrap_or (object_under objects.groups rule.group) 0) id one is

-- ---- what each change leaves

pub stepped : (limits : Limits) (objects : FlowObjects) (change : Change) → is_sound limits objects change ≡ true → with_change_made objects change ≡ step limits objects change
unfolding step
stepped limits objects change sound = rw sound refl

pub unchanged : (limits : Limits) (objects : FlowObjects) (change : Change) → is_sound limits objects change ≡ false → objects ≡ step limits objects change
unfolding step
unchanged limits objects change unsound = rw unsound refl

pub rule_put : (objects : FlowObjects) (id : ℕ) (rule : RuleParts) (q : ℕ) → with_kept (kept_under objects) id (kept_by objects (unwrap_or (object_under objects.groups rule.group) 0) (id, rule)) q ≡ kept_under (with_change_made objects (PutRule id rule)) q
unfolding kept_under with_change_made
rule_put objects id rule q =
    by_test (eqb q id) refl ∙ sym (ap (λ (o : Option RuleParts). option_map_or (λ (r : RuleParts). kept_by objects (unwrap_or (object_under objects.groups r.group) 0) (q, r)) o None) (object_under-put objects.rules id rule q)) where
      by_test : (b : Bool) → eqb q id ≡ b → cond b (kept_by objects (unwrap_or (object_under objects.groups rule.group) 0) (id, rule)) (kept_under objects q) ≡ option_map_or (λ (r : RuleParts). kept_by objects (unwrap_or (object_under objects.groups r.group) 0) (q, r)) (cond b (Some rule) (object_under objects.rules q)) None
      by_test true e =
          let same : q ≡ id = grind (arith, nat_tests) in
          ap (λ (n : ℕ). kept_by objects (unwrap_or (object_under objects.groups rule.group) 0) (n, rule)) (sym same)
      by_test false e = refl

pub rule_dropped : (objects : FlowObjects) (id q : ℕ) → IsById objects.rules → with_kept (kept_under objects) id None q ≡ kept_under (with_change_made objects (DropRule id)) q
unfolding kept_under with_change_made
rule_dropped objects id q sorted =
    let t : eqb q id ≡ eqb id q = grind (arith, nat_tests) in
    ap (λ b. cond b None (kept_under objects q)) t ∙ by_test (eqb id q) ∙ sym (ap (λ (o : Option RuleParts). option_map_or (λ (r : RuleParts). kept_by objects (unwrap_or (object_under objects.groups r.group) 0) (q, r)) o None) (object_under-without objects.rules id q sorted)) where
      by_test : (b : Bool) → cond b None (kept_under objects q) ≡ option_map_or (λ (r : RuleParts). kept_by objects (unwrap_or (object_under objects.groups r.group) 0) (q, r)) (cond b None (object_under objects.rules q)) None
      by_test true = refl
      by_test false = refl

-- what is kept of a rule looks at its group's priority and its classifier alone
same_kept_by : (rule : RuleParts) (q : ℕ) (a b : Option ℕ) (s t : Option (List SelectorParts)) → a ≡ b → s ≡ t → option_map (kept_with (unwrap_or a 0) (q, rule)) s ≡ option_map (kept_with (unwrap_or b 0) (q, rule)) t
same_kept_by rule q a b s t e f = rw (e, f) refl

-- other rules, other lookups
same_rules : (objects : FlowObjects) (f g : RuleParts → Option Kept) (q : ℕ) → ((rule : RuleParts) → object_under objects.rules q ≡ Some rule → f rule ≡ g rule) → option_map_or f (object_under objects.rules q) None ≡ option_map_or g (object_under objects.rules q) None
same_rules objects f g q each = by (object_under objects.rules q) refl where
  by : (o : Option RuleParts) → object_under objects.rules q ≡ o → option_map_or f o None ≡ option_map_or g o None
  by None is = refl
  by (Some rule) is = each rule is

pub group_dropped : (limits : Limits) (objects : FlowObjects) (id q : ℕ) → IsWellFormed limits objects → is_sound limits objects (DropGroup id) ≡ true → kept_under objects q ≡ kept_under (with_change_made objects (DropGroup id)) q
unfolding kept_under with_change_made is_sound
group_dropped limits objects id q well sound =
    same_rules objects _ _ q (λ rule is.
    let fails = fails_at_held (λ (e : ℕ × RuleParts). eqb e.1.group id) objects.rules q rule (not-true _ sound) is in
    let off : eqb id rule.group ≡ false = grind (arith, nat_tests) in
    same_kept_by rule q _ _ _ _ (sym (object_under-without objects.groups id rule.group well.by_id.groups_rise ∙ ap (λ b. cond b None (object_under objects.groups rule.group)) off)) refl)

pub classifier_dropped : (limits : Limits) (objects : FlowObjects) (id q : ℕ) → IsWellFormed limits objects → is_sound limits objects (DropClassifier id) ≡ true → kept_under objects q ≡ kept_under (with_change_made objects (DropClassifier id)) q
unfolding kept_under with_change_made is_sound
classifier_dropped limits objects id q well sound =
    same_rules objects _ _ q (λ rule is.
    let fails = fails_at_held (λ (e : ℕ × RuleParts). eqb e.1.classifier id) objects.rules q rule (not-true _ sound) is in
    let off : eqb id rule.classifier ≡ false = grind (arith, nat_tests) in
    same_kept_by rule q (object_under objects.groups rule.group) _ _ _ refl (sym (object_under-without objects.classifiers id rule.classifier well.by_id.classifiers_rise ∙ ap (λ b. cond b None (object_under objects.classifiers rule.classifier)) off)))

-- a rule's classifier isn't the one that is put
other_classifier : (limits : Limits) (objects : FlowObjects) (id q : ℕ) (selectors : List SelectorParts) (rule : RuleParts) → IsWellFormed limits objects → is_sound limits objects (PutClassifier id selectors) ≡ true → object_under objects.rules q ≡ Some rule → eqb rule.classifier id ≡ false
unfolding is_sound
other_classifier limits objects id q selectors rule well sound is = by_held (object_under objects.classifiers id) refl sound where
  by_held : (o : Option (List SelectorParts)) → object_under objects.classifiers id ≡ o → cond (is_some o) (not (names_classifier objects id)) (ltb (length objects.classifiers) limits.classifiers) ≡ true → eqb rule.classifier id ≡ false
  by_held (Some s) some unnamed = fails_at_held (λ (e : ℕ × RuleParts). eqb e.1.classifier id) objects.rules q rule (not-true _ unnamed) is
  by_held None none room = by (eqb rule.classifier id) refl where
    by : (b : Bool) → eqb rule.classifier id ≡ b → eqb rule.classifier id ≡ false
    by false e = e
    by true e =
        let same : rule.classifier ≡ id = grind (arith, nat_tests) in
        let nothing : object_under objects.classifiers rule.classifier ≡ None = ap (object_under objects.classifiers) same ∙ none in
        let fits = rw nothing at (well.backed q rule is).key_fits in
        absurd fits

pub classifier_put : (limits : Limits) (objects : FlowObjects) (id q : ℕ) (selectors : List SelectorParts) → IsWellFormed limits objects → is_sound limits objects (PutClassifier id selectors) ≡ true → kept_under objects q ≡ kept_under (with_change_made objects (PutClassifier id selectors)) q
unfolding kept_under with_change_made
classifier_put limits objects id q selectors well sound =
    same_rules objects _ _ q (λ rule is.
    let off = other_classifier limits objects id q selectors rule well sound is in
    same_kept_by rule q (object_under objects.groups rule.group) _ _ _ refl (sym (object_under-put objects.classifiers id selectors rule.classifier ∙ ap (λ b. cond b (Some selectors) (object_under objects.classifiers rule.classifier)) off)))

pub same_index : (limits : Limits) (kept other : ℕ → Option Kept) (index : RowIndex) → ((q : ℕ) → kept q ≡ other q) → IsRowIndex limits kept index → IsRowIndex limits other index
same_index limits kept other index same was = record {
  rows = same_kept kept other index.shapes.items index.rows.items same was.rows;
  rows_room = was.rows_room;
  shapes_room = was.shapes_room;
}

-- what soundness says of a rule that is put
pub rule_sound : (limits : Limits) (objects : FlowObjects) (id : ℕ) (rule : RuleParts) → is_sound limits objects (PutRule id rule) ≡ true → IsBacked objects rule × (has_room objects.rules id limits.rules ≡ true)
unfolding is_sound
rule_sound limits objects id rule sound = let p = and_parts _ _ sound in (backed_from_test objects rule p.0, p.1)

-- there is room for a rule that is held
pub held_has_room : (rules : List (ℕ × RuleParts)) (id limit : ℕ) (rule : RuleParts) → object_under rules id ≡ Some rule → has_room rules id limit ≡ true
held_has_room rules id limit rule is = rw is refl

-- the entry at a place is held
pub held_at : (limits : Limits) (objects : FlowObjects) (at : ℕ) (entry : RuleEntry) → IsWellFormed limits objects → slice_get objects.rules at ≡ Some entry → object_under objects.rules entry.0 ≡ Some entry.1
held_at limits objects at entry well is =
    held_from_entry objects.rules entry well.by_id.rules_rise (at, slice_get_within objects.rules at entry is, get_or_from_slice_get objects.rules at entry entry is)

-- ---- a group's rules take another priority

module _ (objects : FlowObjects) (group priority : ℕ) where
  moved_in : (q : ℕ) (rule : RuleParts) → object_under objects.rules q ≡ Some rule → eqb rule.group group ≡ true → kept_by objects priority (q, rule) ≡ kept_under (with_change_made objects (PutGroup group priority)) q
  unfolding kept_under with_change_made
  moved_in q rule is named =
      sym (ap (λ (o : Option RuleParts). option_map_or (λ (r : RuleParts). option_map (kept_with (unwrap_or (object_under (put objects.groups group priority) r.group) 0) (q, r)) (object_under objects.classifiers r.classifier)) o None) is ∙ same_kept_by rule q (object_under (put objects.groups group priority) rule.group) (Some priority) (object_under objects.classifiers rule.classifier) _ (object_under-put objects.groups group priority rule.group ∙ ap (λ b. cond b (Some priority) (object_under objects.groups rule.group)) named) refl)

  moved_out : (q : ℕ) (rule : RuleParts) → object_under objects.rules q ≡ Some rule → eqb rule.group group ≡ false → kept_under objects q ≡ kept_under (with_change_made objects (PutGroup group priority)) q
  unfolding kept_under with_change_made
  moved_out q rule is other =
      same_rules objects _ _ q (λ r at.
      let same : r ≡ rule = some_rule (object_under objects.rules q) r rule at is in
      let off : eqb r.group group ≡ false = ap (λ (x : RuleParts). eqb x.group group) same ∙ other in
      same_kept_by r q _ _ (object_under objects.classifiers r.classifier) _ (sym (object_under-put objects.groups group priority r.group ∙ ap (λ b. cond b (Some priority) (object_under objects.groups r.group)) off)) refl) where
        some_rule : (o : Option RuleParts) (a b : RuleParts) → o ≡ Some a → o ≡ Some b → a ≡ b
        some_rule o a b h k = cc

  still_none : (q : ℕ) → object_under objects.rules q ≡ None → kept_under objects q ≡ kept_under (with_change_made objects (PutGroup group priority)) q
  unfolding kept_under with_change_made
  still_none q none = rw none refl

  abbrev after_all : ℕ → Option Kept
  after_all q = kept_under (with_change_made objects (PutGroup group priority)) q

  pub moved_yes : (entry : RuleEntry) (kept : ℕ → Option Kept) (q : ℕ) → entry.1.group ≡ group → moved objects group priority entry kept q ≡ with_kept kept entry.0 (kept_by objects priority entry) q
  moved_yes entry kept q named = let t : eqb entry.1.group group ≡ true = grind (arith, nat_tests) in rw t refl

  pub moved_no : (entry : RuleEntry) (kept : ℕ → Option Kept) (q : ℕ) → entry.1.group ≢ group → moved objects group priority entry kept q ≡ kept q
  moved_no entry kept q other = let t : eqb entry.1.group group ≡ false = grind (arith, nat_tests) in rw t refl

  pub moved_none : (q : ℕ) → kept_under objects q ≡ moved_so_far objects group priority 0 q
  moved_none q = refl

  pub moved_all : (n q : ℕ) → length objects.rules ≤ n → moved_so_far objects group priority n q ≡ kept_under (with_change_made objects (PutGroup group priority)) q
  moved_all n q all =
      ap (λ (rules : List RuleEntry). cond (list_any (λ (e : RuleEntry). eqb e.0 q) rules) (after_all q) (kept_under objects q)) (take_all n objects.rules all) ∙ by_test (list_any (λ (e : RuleEntry). eqb e.0 q) objects.rules) refl (object_under objects.rules q) refl where
        by_test : (b : Bool) → list_any (λ (e : RuleEntry). eqb e.0 q) objects.rules ≡ b → (o : Option RuleParts) → object_under objects.rules q ≡ o → cond b (after_all q) (kept_under objects q) ≡ after_all q
        by_test true e o is = refl
        by_test false e None is = still_none q is
        by_test false e (Some rule) is =
            let t : eqb q q ≡ true = grind (arith, nat_tests) in
            let off = fails_at_held (λ (x : RuleEntry). eqb x.0 q) objects.rules q rule e is in
            absurd cc

  pub moved_once : (limits : Limits) (at : ℕ) (entry : RuleEntry) → IsWellFormed limits objects → slice_get objects.rules at ≡ Some entry → (q : ℕ) → moved objects group priority entry (moved_so_far objects group priority at) q ≡ moved_so_far objects group priority (at + 1) q
  moved_once limits at entry well is q =
      by (list_any p (take at objects.rules)) (eqb entry.0 q) (eqb q entry.0) (eqb entry.1.group group) refl refl refl ∙ sym (ap (λ b. cond b (after_all q) (kept_under objects q)) more) where
        p : RuleEntry → Bool
        p e = eqb e.0 q

        within : at < length objects.rules
        within = slice_get_within objects.rules at entry is

        more : list_any (λ (e : RuleEntry). eqb e.0 q) (take (at + 1) objects.rules) ≡ (list_any (λ (e : RuleEntry). eqb e.0 q) (take at objects.rules) || (eqb entry.0 q || false))
        more = ap (list_any (λ (e : RuleEntry). eqb e.0 q)) (take_more objects.rules at entry within) ∙ list_any-append (λ (e : RuleEntry). eqb e.0 q) (take at objects.rules) (get_or objects.rules at entry ∷ []) ∙ ap (λ (e : RuleEntry). list_any (λ (e : RuleEntry). eqb e.0 q) (take at objects.rules) || (eqb e.0 q || false)) (get_or_from_slice_get objects.rules at entry entry is)

        moved_here : q ≡ entry.0 → eqb entry.1.group group ≡ true → kept_by objects priority entry ≡ after_all q
        moved_here same named = moved_in entry.0 entry.1 (held_at limits objects at entry well is) named ∙ ap after_all (sym same)

        all_true : (a : Bool) → cond (a || true) (after_all q) (kept_under objects q) ≡ after_all q
        all_true true = refl
        all_true false = refl

        by : (a b c t : Bool) → eqb entry.0 q ≡ b → eqb q entry.0 ≡ c → eqb entry.1.group group ≡ t → cond t (cond c (kept_by objects priority entry) (cond a (after_all q) (kept_under objects q))) (cond a (after_all q) (kept_under objects q)) ≡ cond (a || (b || false)) (after_all q) (kept_under objects q)
        by true false false true e f g = refl
        by true false false false e f g = refl
        by false false false true e f g = refl
        by false false false false e f g = refl
        by a true false t e f g = absurd (grind (arith, nat_tests))
        by a false true t e f g = absurd (grind (arith, nat_tests))
        by a true true true e f g =
            let same : q ≡ entry.0 = grind (arith, nat_tests) in
            moved_here same g ∙ sym (all_true a)
        by true true true false e f g = refl
        by false true true false e f g =
            let same : q ≡ entry.0 = grind (arith, nat_tests) in
            moved_out q entry.1 (ap (object_under objects.rules) same ∙ held_at limits objects at entry well is) g

  moved_is_held : (q : ℕ) (one : Kept) → after_all q ≡ Some one → IsSome (object_under objects.rules q) × Contains (held_shapes objects) one.shape
  unfolding kept_under with_change_made
  moved_is_held q one is = held_by objects (λ rule. unwrap_or (object_under (put objects.groups group priority) rule.group) 0) q one is

  pub moved_are_held : (at : ℕ) → AreHeld objects (moved_so_far objects group priority at)
  moved_are_held at q one is = by (list_any (λ (e : RuleEntry). eqb e.0 q) (take at objects.rules)) is where
    by : (b : Bool) → cond b (after_all q) (kept_under objects q) ≡ Some one → IsSome (object_under objects.rules q) × Contains (held_shapes objects) one.shape
    by true h = moved_is_held q one h
    by false h = kept_are_held objects q one h

-- a sound change is made
pub index_stepped : (limits : Limits) (objects : FlowObjects) (change : Change) (index : RowIndex) → is_sound limits objects change ≡ true → IsRowIndex limits (kept_under (with_change_made objects change)) index → IsRowIndex limits (kept_under (step limits objects change)) index
index_stepped limits objects change index sound was =
    same_index limits _ _ index (λ q. ap (λ (o : FlowObjects). kept_under o q) (stepped limits objects change sound)) was

close_unsound : (limits : Limits) (objects : FlowObjects) → is_sound limits objects Close ≡ true → ⊥
unfolding is_sound
close_unsound limits objects h = cc

pub index_closed : (limits : Limits) (objects : FlowObjects) (index : RowIndex) → is_sound limits objects Close ≡ true → IsRowIndex limits (kept_under (step limits objects Close)) index
index_closed limits objects index sound = absurd (close_unsound limits objects sound)
