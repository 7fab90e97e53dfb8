-- The creates of rules are obeyed, one after another.
use Rattle.std.proofs.Common.{◌≡◌, ℕ, ◌+◌, ◌-◌, ◌*◌, ◌/◌, ◌%◌, ◌<◌, ◌≤◌, Bool, true, false, not, ◌&&◌, cond, eqb, List, [], ◌∷◌, ◌++◌, map, length, Option, Some, refl, sym, ap, ◌∙◌, arith, subst, append_assoc, length-append}
use Rattle.std.specs.Prelude.{count_by, is_some, ◌==◌}
use Rattle.std.specs.List.{AllByRecursion, enumerate_from}
use Rattle.std.specs.Option.{option_map_or}
use Rattle.std.proofs.Math.Nat.{div-add-mod, div-mul-le_self}
use Rattle.std.proofs.lemmas.Bool.{eq-eqb, eqb-true, le-ltb, lt-leb}
use Rattle.std.proofs.lemmas.Bool.Decides.{nat_tests}
use Rattle.std.proofs.lemmas.List.{append-nil}
use Rattle.std.proofs.lemmas.List.Sums.{sum_by-append, sum_by-cons}
use Rattle.ff_headers.specs.Changes.{with_change_made}
use Rattle.ff_headers.specs.Matching.{key_size}
use Rattle.ff_headers.specs.Objects.{FlowObjects}
use Rattle.ff_headers.specs.Places.{RuleEntry}
use Rattle.ff_headers.specs.RuleParts.{rule_with}
use Rattle.ff_headers.specs.declared.change.Change.TheVariants.{PutRule}
use Rattle.ff_headers.specs.declared.rule.RuleAction.{RuleAction}
use Rattle.ff_headers.specs.declared.rule.RuleAction.TheVariants as rule_action
use Rattle.admin_wire.specs.Codes.{queue_action, rule_type}
use Rattle.admin_wire.specs.declared.command.ObjData.TheVariants.{Rule}
use Rattle.admin_wire.specs.declared.command.RawKey.TheVariants as raw_key
use Rattle.admin_wire.specs.declared.command.RawRule.{RawRule}
use Rattle.cap_table.specs.Answers.{action_of_byte}
use Rattle.cap_table.specs.Caps.{CapsParts, is_action_set, same_as}
use Rattle.cap_table.specs.States.{is_receive_queue}
use Rattle.cap_table.specs.Verdicts.{rule_faults}
use Rattle.cap_table.proofs.RowLemmas.{IsSoundContent, no_rule_row}
use Rattle.ntuple_text.specs.Spellable.{IsActionOf}
use Rattle.ntuple_text.specs.declared.spec.Spec.{Spec}
use Rattle.ntuple_text.specs.declared.spec.TableDo.{TableDo}
use Rattle.ntuple_text.specs.declared.spec.TableDo.TheVariants.{Drop, Queue}
use Rattle.ntuple_compile.specs.Compiled.{SelectorList, action_byte, action_of_spec, create_head, create_rule, shape_number, spec_rule, virtqueue_of}
use Rattle.ntuple_compile.specs.Selected.{key_for}
use Rattle.ntuple_compile.proofs.KeyLemmas.{key_sized}
use Rattle.ntuple_compile.proofs.LastEntries.{AreBelow, below_next, not_held, put_last}
use Rattle.ntuple_compile.proofs.PutGroups.{groups_from}
use Rattle.ntuple_compile.proofs.Reaching.{Creates, Reaches}
use Rattle.ntuple_compile.proofs.RuleOrder.{group_is_held, rules_from}
use Rattle.ntuple_compile.proofs.ShapeNumbers.{HasClassifier}

-- groups, classifiers and rules
abbrev pub with_rules : List (ℕ × ℕ) → List (ℕ × SelectorList) → List RuleEntry → FlowObjects
with_rules groups classifiers rules = record { groups = groups; classifiers = classifiers; rules = rules }

-- ---- the action

byte_is_read : (action : RuleAction) → action_of_byte (action_byte action) ≡ action
byte_is_read rule_action.Drop = refl
byte_is_read rule_action.Queue = refl

action_is_set : (caps : CapsParts) (what : TableDo) → is_action_set (same_as caps) (action_byte (action_of_spec what)) ≡ true
action_is_set caps Drop = refl
action_is_set caps (Queue queue) = refl

even_queue : (pairs queue : ℕ) → queue < pairs → is_receive_queue pairs (2 * queue) ≡ true
even_queue pairs queue within = grind (arith, nat_tests)

queue_is_right : (pairs : ℕ) (what : TableDo) → IsActionOf pairs what → ((action_byte (action_of_spec what) == queue_action) && not (is_receive_queue pairs (virtqueue_of what))) ≡ false
queue_is_right pairs Drop within = refl
queue_is_right pairs (Queue queue) within = ap not (even_queue pairs queue within)

-- ---- the rules of a group

-- the rules in a group, where one more stands behind others
one_more_in_group : (rules : List RuleEntry) (entry : RuleEntry) (group : ℕ) → count_by (λ e. eqb e.1.group group) (rules ++ entry ∷ []) ≡ count_by (λ e. eqb e.1.group group) rules + cond (eqb entry.1.group group) 1 0
one_more_in_group rules entry group =
    let count : RuleEntry → ℕ = λ e. cond (eqb e.1.group group) 1 0 in
    let both = sum_by-append count rules (entry ∷ []) in
    let last = sum_by-cons count entry [] in
    omega (arith, both, last)

-- those of another id are some of them
others_are_some : (id group : ℕ) (rules : List RuleEntry) → count_by (λ e. not (eqb e.0 id) && eqb e.1.group group) rules ≤ count_by (λ e. eqb e.1.group group) rules
others_are_some id group [] = omega arith
others_are_some id group (entry ∷ rules) =
    let others = sum_by-cons (λ (e : RuleEntry). cond (not (eqb e.0 id) && eqb e.1.group group) 1 0) entry rules in
    let all = sum_by-cons (λ (e : RuleEntry). cond (eqb e.1.group group) 1 0) entry rules in
    let rest = others_are_some id group rules in
    let here = fewer (not (eqb entry.0 id)) (eqb entry.1.group group) in
    omega (arith, others, all, rest, here) where
      fewer : (a b : Bool) → cond (a && b) 1 0 ≤ cond b 1 0
      fewer true true = omega arith
      fewer true false = omega arith
      fewer false true = omega arith
      fewer false false = omega arith

-- groups are filled one after another: a group has no more rules than stand behind its first number
abbrev pub AreSpread : ℕ → ℕ → List RuleEntry → Type 0
AreSpread size from rules = (group : ℕ) → count_by (λ e. eqb e.1.group group) rules ≤ from - group * size

spread_next : (size from : ℕ) (rules : List RuleEntry) (entry : RuleEntry) → entry.1.group ≡ from / size → AreSpread size from rules → AreSpread size (from + 1) (rules ++ entry ∷ [])
spread_next size from rules entry placed spread group = by_test (eqb entry.1.group group) refl where
  by_test : (b : Bool) → eqb entry.1.group group ≡ b → count_by (λ e. eqb e.1.group group) (rules ++ entry ∷ []) ≤ (from + 1) - group * size
  by_test true test =
      let is : group ≡ from / size = sym (eqb-true entry.1.group group test) ∙ placed in
      let low : group * size ≤ from = rw is (div-mul-le_self from size) in
      let count = one_more_in_group rules entry group ∙ ap (λ b. count_by (λ e. eqb e.1.group group) rules + cond b 1 0) test in
      omega (arith, low, count, spread group)
  by_test false test =
      let count = one_more_in_group rules entry group ∙ ap (λ b. count_by (λ e. eqb e.1.group group) rules + cond b 1 0) test in
      omega (arith, count, spread group)

-- there is room for one more in the group of the next rule
group_has_room : (size from limit : ℕ) (rules : List RuleEntry) → 0 < size → size ≤ limit → AreSpread size from rules → count_by (λ e. not (eqb e.0 from) && eqb e.1.group (from / size)) rules < limit
group_has_room size from limit rules some small spread =
    let others = others_are_some from (from / size) rules in
    let parts = div-add-mod from size in
    omega (arith, others, parts, spread (from / size), small)

-- ---- the creates

module _ (caps : CapsParts) (count size : ℕ) (shapes : List SelectorList) (some : 0 < size) (priorities : size ≤ caps.limits.last_priority + 1) (fit : size ≤ caps.limits.per_group) where
  abbrev holding : List RuleEntry → FlowObjects
  holding rules = with_rules (groups_from 0 count) (enumerate_from 0 shapes) rules

  abbrev raw_rule : ℕ → Spec → RawRule
  raw_rule id spec = record {
    group = id / size;
    classifier = shape_number shapes spec;
    priority = id % size;
    action = action_byte (action_of_spec spec.action);
    vq = virtqueue_of spec.action;
    key = raw_key.Good (record { items = key_for spec });
  }

  content_is_sound : (done : List RuleEntry) (id : ℕ) (spec : Spec) → AreSpread size id done → id / size < count → IsActionOf caps.pairs spec.action → HasClassifier shapes spec → IsSoundContent (rule_faults caps (same_as caps) (holding done) id (raw_rule id spec))
  content_is_sound done id spec spread grouped action held = record {
    key_good = refl;
    group_held = ap (λ (o : Option ℕ). not (is_some o)) (group_is_held 0 count (id / size) (omega arith) (omega (arith, grouped)));
    classifier_held = ap (λ (o : Option SelectorList). not (is_some o)) held;
    priority_within = le-ltb caps.limits.last_priority (id % size) (omega (arith, priorities, some));
    key_fits = ap (λ (o : Option SelectorList). not (length (key_for spec) == option_map_or key_size o 0)) held ∙ ap not (eq-eqb _ _ (key_sized spec));
    action_set = ap not (action_is_set caps spec.action);
    queue_right = queue_is_right caps.pairs spec.action action;
    room_in_group = lt-leb caps.limits.per_group _ (group_has_room size id caps.limits.per_group done some fit spread);
  }

  -- one more rule
  rule_put : (done : List RuleEntry) (id : ℕ) (spec : Spec) → AreBelow id done → length done < caps.limits.rules → AreSpread size id done → id / size < count → IsActionOf caps.pairs spec.action → HasClassifier shapes spec → Creates caps (holding done) (create_head rule_type id) (Rule (raw_rule id spec)) (holding (done ++ (id, spec_rule size shapes id spec) ∷ []))
  unfolding with_change_made
  rule_put done id spec below room spread grouped action held = record {
    clear = record {
      no_flags = refl;
      known = refl;
      own_opcodes = refl;
      in_time = refl;
      settable = refl;
      new = ap is_some (not_held done id below);
      room = lt-leb caps.limits.rules (length done) room;
      held = refl;
      unneeded = refl;
      content = no_rule_row (rule_faults caps (same_as caps) (holding done) id (raw_rule id spec)) (content_is_sound done id spec spread grouped action held);
    };
    change = PutRule id (spec_rule size shapes id spec);
    puts = ap (λ a. Some (PutRule id (rule_with (id / size) (shape_number shapes spec) (id % size) a (virtqueue_of spec.action) (key_for spec)))) (byte_is_read (action_of_spec spec.action));
    leaves = ap holding (put_last done id (spec_rule size shapes id spec) below);
  }

  -- all rules, behind those that are there
  pub rules_put : (done : List RuleEntry) (from : ℕ) (specs : List Spec) → AreBelow from done → length done ≡ from → from + length specs ≤ caps.limits.rules → AreSpread size from done → ((k : ℕ) → k < from + length specs → k / size < count) → AllByRecursion (λ spec. IsActionOf caps.pairs spec.action) specs → AllByRecursion (HasClassifier shapes) specs → Reaches caps (holding done) (map create_rule (rules_from size shapes from specs)) (holding (done ++ rules_from size shapes from specs))
  rules_put done from [] below long room spread grouped actions held = ap holding (sym (append-nil done))
  rules_put done from (spec ∷ specs) below long room spread grouped actions held =
      let entry : RuleEntry = (from, spec_rule size shapes from spec) in
      let last : List RuleEntry = entry ∷ [] in
      let one = rule_put done from spec below (omega (arith, long, room)) spread (grouped from (omega arith)) actions.0 held.0 in
      let longer : length (done ++ last) ≡ from + 1 = omega (arith, length-append done last, long) in
      let rest = rules_put (done ++ last) (from + 1) specs (below_next done from (spec_rule size shapes from spec) below) longer (omega (arith, room)) (spread_next size from done entry refl spread) (λ k inside. grouped k (omega (arith, inside))) actions.1 held.1 in
      let joined_number : (done ++ last) ++ rules_from size shapes (from + 1) specs ≡ done ++ rules_from size shapes from (spec ∷ specs) = append_assoc done last (rules_from size shapes (from + 1) specs) in
      (holding (done ++ last), one, subst (λ (rules : List RuleEntry). Reaches caps (holding (done ++ last)) (map create_rule (rules_from size shapes (from + 1) specs)) (holding rules)) joined_number rest)
