-- A destroy right behind a create gives the state before it.
use Rattle.std.proofs.Common.{◌≡◌, ℕ, suc, ◌≤◌, Bool, true, false, not, eqb, List, [], ◌∷◌, Option, Some, None, Ok, refl, sym, ap, ◌∙◌, subst, arith}
use Rattle.std.specs.Prelude.{is_some, Contains}
use Rattle.std.specs.List.{list_any}
use Rattle.ff_headers.specs.RuleParts.{RuleParts}
use Rattle.ff_headers.specs.SelectorParts.{SelectorParts}
use Rattle.ff_headers.specs.Objects.{FlowObjects, object_under, IsBacked, IsWellFormed}
use Rattle.ff_headers.specs.Changes.{is_sound, names_group, names_classifier, with_change_made}
use Rattle.ff_headers.specs.declared.limits.Limits.{Limits}
use Rattle.ff_headers.specs.declared.change.Change.{Change}
use Rattle.ff_headers.specs.declared.change.Change.TheVariants.{PutGroup, DropGroup, PutClassifier, DropClassifier, PutRule, DropRule}
use Rattle.ff_headers.proofs.EntryLemmas.{held_from_entry}
use Rattle.admin_wire.specs.declared.command.Command.TheVariants.{Create, Destroy}
use Rattle.admin_wire.specs.declared.command.ObjHead.{ObjHead}
use Rattle.admin_wire.specs.declared.command.ObjData.{ObjData}
use Rattle.admin_wire.specs.declared.command.ObjData.TheVariants.{Group, Classifier, Rule, Other}
use Rattle.admin_wire.specs.Wire.{command_of}
use Rattle.cap_table.specs.States.{DeviceState, IsValid, is_opcode_in}
use Rattle.cap_table.specs.Verdicts.{first_verdict, command_rows, type_of, is_object_type, is_held, is_named_by_rule, selectors_in}
use Rattle.cap_table.specs.Answers.{put_of, drop_of, rule_parts, effect_with}
use Rattle.cap_table.specs.Steps.{status_of, reply_of, with_effect, next_state}
use Rattle.cap_table.proofs.AcceptedChanges.{not_false, none_from_test, some_is, accepted_change}
use Rattle.cap_table.proofs.RowLemmas.{clear, no_row_if_clear}
use Rattle.cap_table.proofs.ReadCommands.{created_typed}
use Rattle.cap_table.proofs.ObeyedCommands.{none_if_obeyed, command_none, none_in_use, next_is}
use Rattle.cap_table.proofs.ObjectRuns.{apart, step_sound, without-put, under_put_same}

-- a test that fails at each element fails on the list
pub fails_everywhere : {A : Type 0} (p : A → Bool) (xs : List A) → ((x : A) → Contains xs x → p x ≡ false) → list_any p xs ≡ false
fails_everywhere p [] each = refl
fails_everywhere p (x ∷ xs) each = rw (each x (0, omega arith, refl)) (fails_everywhere p xs (λ y has. each y (suc has.0, omega arith, has.2)))

module _ (limits : Limits) (objects : FlowObjects) (was : IsWellFormed limits objects) where
  other_group : (id : ℕ) (rule : RuleParts) → is_some (object_under objects.groups id) ≡ false → IsBacked objects rule → eqb rule.group id ≡ false
  other_group id rule none backed = apart rule.group id (λ at.
      let held : is_some (object_under objects.groups id) ≡ true = subst (λ (i : ℕ). is_some (object_under objects.groups i) ≡ true) at backed.group_held in
      let both : true ≡ false = sym held ∙ none in absurd cc)

  other_classifier : (id : ℕ) (rule : RuleParts) → object_under objects.classifiers id ≡ None → IsBacked objects rule → eqb rule.classifier id ≡ false
  other_classifier id rule none backed = apart rule.classifier id (λ at.
      let here : object_under objects.classifiers rule.classifier ≡ None = ap (object_under objects.classifiers) at ∙ none in
      rw here at backed.key_fits)

  -- no rule names what isn't held
  unnamed_group : (id : ℕ) → is_some (object_under objects.groups id) ≡ false → names_group objects id ≡ false
  unnamed_group id none = fails_everywhere (λ (e : ℕ × RuleParts). eqb e.1.group id) objects.rules
      (λ e has. other_group id e.1 none (was.backed e.0 e.1 (held_from_entry objects.rules e was.by_id.rules_rise has)))

  unnamed_classifier : (id : ℕ) → is_some (object_under objects.classifiers id) ≡ false → names_classifier objects id ≡ false
  unnamed_classifier id none = fails_everywhere (λ (e : ℕ × RuleParts). eqb e.1.classifier id) objects.rules
      (λ e has. other_classifier id e.1 (none_from_test _ none) (was.backed e.0 e.1 (held_from_entry objects.rules e was.by_id.rules_rise has)))

  -- the drop that undoes a put under a new id
  record IsUndone (id : ℕ) (object : ObjData) (change : Change) : Type 0 where
    pub held : is_held (with_change_made objects change) (type_of object) id ≡ true
    pub unnamed : is_named_by_rule (with_change_made objects change) (type_of object) id ≡ false
    pub drop : Change
    pub drops : drop_of (type_of object) id ≡ Some drop
    pub sound : is_sound limits (with_change_made objects change) drop ≡ true
    pub gone : with_change_made (with_change_made objects change) drop ≡ objects

  undone : (id : ℕ) (object : ObjData) (change : Change) → is_held objects (type_of object) id ≡ false → put_of id object ≡ Some change → IsUndone id object change
  unfolding is_sound with_change_made
  undone id (Group priority) change new is = subst (IsUndone id (Group priority)) (some_is is) (record {
    held = ap is_some (under_put_same objects.groups id priority);
    unnamed = unnamed_group id new;
    drop = DropGroup id;
    drops = refl;
    sound = ap not (unnamed_group id new);
    gone = ap (λ (es : List (ℕ × ℕ)). record objects { groups = es }) (without-put objects.groups id priority (none_from_test _ new));
  })
  undone id (Classifier list) change new is = subst (IsUndone id (Classifier list)) (some_is is) (record {
    held = ap is_some (under_put_same objects.classifiers id (selectors_in list));
    unnamed = unnamed_classifier id new;
    drop = DropClassifier id;
    drops = refl;
    sound = ap not (unnamed_classifier id new);
    gone = ap (λ (es : List (ℕ × List SelectorParts)). record objects { classifiers = es }) (without-put objects.classifiers id (selectors_in list) (none_from_test _ new));
  })
  undone id (Rule rule) change new is = subst (IsUndone id (Rule rule)) (some_is is) (record {
    held = ap is_some (under_put_same objects.rules id (rule_parts rule));
    unnamed = refl;
    drop = DropRule id;
    drops = refl;
    sound = refl;
    gone = ap (λ (es : List (ℕ × RuleParts)). record objects { rules = es }) (without-put objects.rules id (rule_parts rule) (none_from_test _ new));
  })
  undone id Other change new is = absurd cc

-- data of a known type makes a put
pub put_there : (id : ℕ) (object : ObjData) → is_object_type (type_of object) ≡ true → (change : Change) × (put_of id object ≡ Some change)
put_there id (Group priority) known = (PutGroup id priority, refl)
put_there id (Classifier list) known = (PutClassifier id (selectors_in list), refl)
put_there id (Rule rule) known = (PutRule id (rule_parts rule), refl)
put_there id Other known = absurd cc

-- an accepted change is made
pub put_made : (state : DeviceState) (change : Change) → is_sound state.caps.limits state.objects change ≡ true → (put : Option Change) → put ≡ Some change → with_effect state (effect_with put) ≡ record state { objects = with_change_made state.objects change }
put_made state change sound put is =
    ap (λ (o : Option Change). with_effect state (effect_with o)) is ∙ ap (λ (o : FlowObjects). record state { objects = o }) (step_sound state.caps.limits state.objects change sound)

-- a destroy right behind an accepted create gives the state before it
pub undone_create : (state : DeviceState) (create destroy : List ℕ) (room later : ℕ) (head : ObjHead) (object : ObjData) → IsValid state → command_of create ≡ Ok (Create head object) → command_of destroy ≡ Ok (Destroy head) → 8 ≤ room → 8 ≤ later → status_of (reply_of state create room) ≡ 0 → is_opcode_in state.in_use 13 ≡ true → next_state (next_state state create room) destroy later ≡ state
undone_create state create destroy room later head object valid created destroyed enough still done used =
    let none = none_if_obeyed state create room enough done in
    let rows = command_none state create (Create head object) created none in
    let is = clear state.caps state.driver state.objects (Create head object) rows in
    let known = not_false _ is.known in
    let typed = created_typed create head object created known in
    let change = put_there head.id object known in
    let accepted = accepted_change state.caps state.driver state.objects valid.limits (Create head object) rows change.0 change.1 in
    let after : next_state state create room ≡ record state { objects = with_change_made state.objects change.0 } = next_is state create (Create head object) created room enough none ∙ put_made state change.0 accepted.sound (put_of head.id object) change.1 in
    let made : DeviceState = record state { objects = with_change_made state.objects change.0 } in
    let back = undone state.caps.limits state.objects valid.objects head.id object change.0 is.new change.1 in
    let free : first_verdict (command_rows made.caps made.driver made.objects (Destroy head)) ≡ None = no_row_if_clear made.caps made.driver made.objects (Destroy head) (record {
      no_flags = refl;
      known = ap not (subst (λ (t : ℕ). is_object_type t ≡ true) typed known);
      own_opcodes = refl;
      in_time = refl;
      settable = refl;
      new = refl;
      room = refl;
      held = ap not (subst (λ (t : ℕ). is_held made.objects t head.id ≡ true) typed back.held);
      unneeded = subst (λ (t : ℕ). is_named_by_rule made.objects t head.id ≡ false) typed back.unnamed;
      content = tt;
    }) in
    let drops : drop_of head.type_code head.id ≡ Some back.drop = subst (λ (t : ℕ). drop_of t head.id ≡ Some back.drop) typed back.drops in
    let gone : next_state made destroy later ≡ record made { objects = with_change_made made.objects back.drop } = next_is made destroy (Destroy head) destroyed later still (none_in_use made destroy (Destroy head) destroyed used free) ∙ put_made made back.drop back.sound (drop_of head.type_code head.id) drops in
    ap (λ (s : DeviceState). next_state s destroy later) after ∙ (gone ∙ ap (λ (o : FlowObjects). record state { objects = o }) back.gone)
