-- A query gives back what was put last.
use Rattle.std.proofs.Common.{◌≡◌, ◌≢◌, ℕ, ◌≤◌, Bool, true, false, not, cond, ltb, List, [], ◌∷◌, Option, Some, None, Result, Ok, Err, refl, sym, ap, ◌∙◌, subst, inl, inr, eqb-true}
use Rattle.std.specs.Prelude.{is_some, ◌==◌}
use Rattle.std.specs.Option.{option_map_or}
use Rattle.ff_headers.specs.SelectorParts.{SelectorParts}
use Rattle.ff_headers.specs.RuleParts.{RuleParts}
use Rattle.ff_headers.specs.Objects.{FlowObjects, object_under, AreById}
use Rattle.ff_headers.specs.Changes.{is_sound, with_change_made, step}
use Rattle.ff_headers.specs.declared.rule.RuleAction.TheVariants as rule_action
use Rattle.ff_headers.specs.declared.limits.Limits.{Limits}
use Rattle.ff_headers.specs.declared.change.Change.{Change}
use Rattle.ff_headers.specs.declared.change.Change.TheVariants.{PutGroup, DropGroup, PutClassifier, DropClassifier, PutRule, DropRule, Close}
use Rattle.admin_wire.specs.declared.command.Command.{Command}
use Rattle.admin_wire.specs.declared.command.Command.TheVariants.{ListQuery, ListUse, CapIds, CapGet, CapSet, Create, Modify, Query, Destroy}
use Rattle.admin_wire.specs.declared.command.ObjHead.{ObjHead}
use Rattle.admin_wire.specs.declared.command.ObjData.{ObjData}
use Rattle.admin_wire.specs.declared.command.ObjData.TheVariants.{Group, Classifier, Rule, Other}
use Rattle.admin_wire.specs.declared.command.RawKey.{RawKey}
use Rattle.admin_wire.specs.declared.command.RawKey.TheVariants as raw_key
use Rattle.admin_wire.specs.declared.command.RawList.TheVariants as raw_list
use Rattle.admin_wire.specs.declared.command.RawRule.{RawRule}
use Rattle.admin_wire.specs.declared.error.WireErr.{WireErr}
use Rattle.admin_wire.specs.Codes.{group_type, classifier_type, rule_type, drop_action, queue_action}
use Rattle.admin_wire.specs.Fields.{written}
use Rattle.admin_wire.specs.Layouts.{key_bytes, object_fields}
use Rattle.admin_wire.specs.Replies.{reply_bytes}
use Rattle.admin_wire.specs.Wire.{command_of, Reads}
use Rattle.cap_table.specs.Caps.{CapsParts, DriverParts, is_action_set}
use Rattle.cap_table.specs.States.{DeviceState, IsValid, is_opcode_in}
use Rattle.cap_table.specs.Verdicts.{first_verdict, verdict_rows, command_rows, content_rows, rule_faults, is_key_odd, is_unknown, type_of, is_object_type, is_held}
use Rattle.cap_table.specs.Answers.{answer_of, verdict_of, accepted, refused_or, put_of, drop_of, change_of, effect_for, effect_with, rule_parts, action_of_byte, byte_of_action, classifier_data, rule_data, object_data, telling}
use Rattle.cap_table.specs.Steps.{status_of, reply_of, effect_in, effect_of, with_effect, next_state, state_after, Puts, IsAbout, LeavesObject, RunLeaves}
use Rattle.cap_table.specs.declared.verdict.Verdict.{Verdict}
use Rattle.cap_table.specs.declared.answer.Answer.{Answer}
use Rattle.cap_table.specs.declared.answer.Effect.{Effect}
use Rattle.cap_table.proofs.RowLemmas.{NoneHolds, clear, no_row_if_clear, sound_content}
use Rattle.cap_table.proofs.AcceptedChanges.{not_false, some_is, accepted_change}
use Rattle.cap_table.proofs.ReadCommands.{created_typed, modified_typed}
use Rattle.cap_table.proofs.ObeyedCommands.{reply_is, none_if_obeyed, command_none, none_in_use, answer_is, next_is}
use Rattle.cap_table.proofs.ObjectRuns.{under_put_same, under_put_other, under_without_other}
use Rattle.cap_table.proofs.EveryAnswer.{refused_stays, silent_stays}
use Rattle.cap_table.proofs.UndoneCreates.{put_there, put_made}
use Rattle.cap_table.proofs.ValidSteps.{valid_with_effect}

-- ---- what a put leaves under its id

-- an action that is set has its byte back, and so has a key that isn't odd
action_back : (driver : DriverParts) (action : ℕ) → is_action_set driver action ≡ true → byte_of_action (action_of_byte action) ≡ action
action_back driver action set = by_test (action == drop_action) (action == queue_action) refl refl set where
  by_test : (b c : Bool) → (action == drop_action) ≡ b → (action == queue_action) ≡ c → cond b driver.drops (cond c driver.queues false) ≡ true → byte_of_action (cond b rule_action.Drop rule_action.Queue) ≡ action
  by_test true c is other set = sym (eqb-true action drop_action is)
  by_test false true is other set = sym (eqb-true action queue_action other)
  by_test false false is other set = absurd cc

key_back : (key : RawKey) → is_key_odd key ≡ false → raw_key.Good (record { items = key_bytes key }) ≡ key
key_back (raw_key.Good key) good = refl
key_back raw_key.Odd good = absurd cc

rule_back : (driver : DriverParts) (rule : RawRule) → is_key_odd rule.key ≡ false → is_action_set driver rule.action ≡ true → rule_data (rule_parts rule) ≡ Rule rule
rule_back driver rule good set =
    ap (λ (n : ℕ). Rule (record { group = rule.group; classifier = rule.classifier; priority = rule.priority; action = n; vq = rule.vq; key = raw_key.Good (record { items = key_bytes rule.key }) })) (action_back driver rule.action set)
    ∙ ap (λ (k : RawKey). Rule (record { group = rule.group; classifier = rule.classifier; priority = rule.priority; action = rule.action; vq = rule.vq; key = k })) (key_back rule.key good)

data_put : (caps : CapsParts) (driver : DriverParts) (objects : FlowObjects) (id : ℕ) (object : ObjData) (change : Change) → NoneHolds (content_rows caps driver objects id object) → put_of id object ≡ Some change → object_data (with_change_made objects change) (type_of object) id ≡ object
unfolding with_change_made
data_put caps driver objects id (Group priority) change none is =
    subst (λ (c : Change). object_data (with_change_made objects c) group_type id ≡ Group priority) (some_is is) (ap (λ (o : Option ℕ). option_map_or (λ p. Group p) o Other) (under_put_same objects.groups id priority))
data_put caps driver objects id (Classifier (raw_list.Good list)) change none is =
    subst (λ (c : Change). object_data (with_change_made objects c) classifier_type id ≡ Classifier (raw_list.Good list)) (some_is is) (ap (λ (o : Option (List SelectorParts)). option_map_or classifier_data o Other) (under_put_same objects.classifiers id list.items))
data_put caps driver objects id (Classifier raw_list.Odd) change none is = absurd (let odd = none.0 in cc)
data_put caps driver objects id (Rule rule) change none is =
    let sound = sound_content (rule_faults caps driver objects id rule) none in
    subst (λ (c : Change). object_data (with_change_made objects c) rule_type id ≡ Rule rule) (some_is is) (ap (λ (o : Option RuleParts). option_map_or rule_data o Other) (under_put_same objects.rules id (rule_parts rule)) ∙ rule_back driver rule sound.key_good (not_false _ sound.action_set))
data_put caps driver objects id Other change none is = absurd cc

-- ---- what a change of another object leaves

-- the change is that of another object than this one
abbrev Spares : ℕ → ℕ → Change → Type 0
Spares type_code id (PutGroup other priority) = type_code ≡ group_type → id ≢ other
Spares type_code id (DropGroup other) = type_code ≡ group_type → id ≢ other
Spares type_code id (PutClassifier other selectors) = type_code ≡ classifier_type → id ≢ other
Spares type_code id (DropClassifier other) = type_code ≡ classifier_type → id ≢ other
Spares type_code id (PutRule other rule) = type_code ≡ rule_type → id ≢ other
Spares type_code id (DropRule other) = type_code ≡ rule_type → id ≢ other
Spares type_code id Close = Unit {0}

if_so : {A : Type 0} (b : Bool) (x y z : A) → (b ≡ true → x ≡ y) → cond b x z ≡ cond b y z
if_so true x y z same = same refl
if_so false x y z same = refl

module _ (objects : FlowObjects) (by_id : AreById objects) (type_code id : ℕ) where
  of_groups : (groups : List (ℕ × ℕ)) → (type_code ≡ group_type → object_under groups id ≡ object_under objects.groups id) → object_data (record objects { groups = groups }) type_code id ≡ object_data objects type_code id
  of_groups groups same = if_so (type_code == group_type) _ _ _ (λ is. ap (λ (o : Option ℕ). option_map_or (λ p. Group p) o Other) (same (eqb-true type_code group_type is)))

  of_classifiers : (classifiers : List (ℕ × List SelectorParts)) → (type_code ≡ classifier_type → object_under classifiers id ≡ object_under objects.classifiers id) → object_data (record objects { classifiers = classifiers }) type_code id ≡ object_data objects type_code id
  of_classifiers classifiers same = ap (λ (d : ObjData). cond (type_code == group_type) (option_map_or (λ p. Group p) (object_under objects.groups id) Other) d) (if_so (type_code == classifier_type) _ _ _ (λ is. ap (λ (o : Option (List SelectorParts)). option_map_or classifier_data o Other) (same (eqb-true type_code classifier_type is))))

  of_rules : (rules : List (ℕ × RuleParts)) → (type_code ≡ rule_type → object_under rules id ≡ object_under objects.rules id) → object_data (record objects { rules = rules }) type_code id ≡ object_data objects type_code id
  of_rules rules same = ap (λ (d : ObjData). cond (type_code == group_type) (option_map_or (λ p. Group p) (object_under objects.groups id) Other) (cond (type_code == classifier_type) (option_map_or classifier_data (object_under objects.classifiers id) Other) d)) (if_so (type_code == rule_type) _ _ _ (λ is. ap (λ (o : Option RuleParts). option_map_or rule_data o Other) (same (eqb-true type_code rule_type is))))

  data_kept : (change : Change) → Spares type_code id change → object_data (with_change_made objects change) type_code id ≡ object_data objects type_code id
  unfolding with_change_made
  data_kept (PutGroup other priority) off = of_groups _ (λ is. under_put_other objects.groups other priority id (off is))
  data_kept (DropGroup other) off = of_groups _ (λ is. under_without_other objects.groups other id by_id.groups_rise (off is))
  data_kept (PutClassifier other selectors) off = of_classifiers _ (λ is. under_put_other objects.classifiers other selectors id (off is))
  data_kept (DropClassifier other) off = of_classifiers _ (λ is. under_without_other objects.classifiers other id by_id.classifiers_rise (off is))
  data_kept (PutRule other rule) off = of_rules _ (λ is. under_put_other objects.rules other rule id (off is))
  data_kept (DropRule other) off = of_rules _ (λ is. under_without_other objects.rules other id by_id.rules_rise (off is))
  data_kept Close off = refl

  data_after : (limits : Limits) (change : Change) → Spares type_code id change → object_data (step limits objects change) type_code id ≡ object_data objects type_code id
  unfolding step
  data_after limits change off = by_test (is_sound limits objects change) where
    by_test : (b : Bool) → object_data (cond b (with_change_made objects change) objects) type_code id ≡ object_data objects type_code id
    by_test true = data_kept change off
    by_test false = refl

-- ---- the change of a command

-- the put of an object that another command is about
spared_put : (type_code id : ℕ) (head : ObjHead) (object : ObjData) → type_of object ≡ head.type_code → ¬ ((head.type_code ≡ type_code) × (head.id ≡ id)) → (change : Change) → put_of head.id object ≡ Some change → Spares type_code id change
spared_put type_code id head (Group priority) typed off change is = subst (Spares type_code id) (some_is is) (λ at same. off (sym typed ∙ sym at, sym same))
spared_put type_code id head (Classifier list) typed off change is = subst (Spares type_code id) (some_is is) (λ at same. off (sym typed ∙ sym at, sym same))
spared_put type_code id head (Rule rule) typed off change is = subst (Spares type_code id) (some_is is) (λ at same. off (sym typed ∙ sym at, sym same))
spared_put type_code id head Other typed off change is = absurd cc

spared_drop : (type_code id : ℕ) (head : ObjHead) → ¬ ((head.type_code ≡ type_code) × (head.id ≡ id)) → (change : Change) → drop_of head.type_code head.id ≡ Some change → Spares type_code id change
spared_drop type_code id head off change is = by_type (head.type_code == group_type) (head.type_code == classifier_type) (head.type_code == rule_type) refl refl refl is where
  by_type : (b c d : Bool) → (head.type_code == group_type) ≡ b → (head.type_code == classifier_type) ≡ c → (head.type_code == rule_type) ≡ d → cond b (Some (DropGroup head.id)) (cond c (Some (DropClassifier head.id)) (cond d (Some (DropRule head.id)) None)) ≡ Some change → Spares type_code id change
  by_type true c d first second third is = subst (Spares type_code id) (some_is is) (λ at same. off (eqb-true head.type_code group_type first ∙ sym at, sym same))
  by_type false true d first second third is = subst (Spares type_code id) (some_is is) (λ at same. off (eqb-true head.type_code classifier_type second ∙ sym at, sym same))
  by_type false false true first second third is = subst (Spares type_code id) (some_is is) (λ at same. off (eqb-true head.type_code rule_type third ∙ sym at, sym same))
  by_type false false false first second third is = absurd cc

spared : (bytes : List ℕ) (type_code id : ℕ) (command : Command) → Reads bytes command → is_unknown command ≡ false → ¬ IsAbout type_code id command → (change : Change) → change_of command ≡ Some change → Spares type_code id change
spared bytes type_code id (Create head object) read known off change is = spared_put type_code id head object (created_typed bytes head object read (not_false _ known)) off change is
spared bytes type_code id (Modify head object) read known off change is = spared_put type_code id head object (modified_typed bytes head object read (not_false _ known)) off change is
spared bytes type_code id (Destroy head) read known off change is = spared_drop type_code id head off change is
spared bytes type_code id ListQuery read known off change is = absurd cc
spared bytes type_code id (ListUse bitmap) read known off change is = absurd cc
spared bytes type_code id CapIds read known off change is = absurd cc
spared bytes type_code id (CapGet cap) read known off change is = absurd cc
spared bytes type_code id (CapSet cap) read known off change is = absurd cc
spared bytes type_code id (Query head) read known off change is = absurd cc

-- the effect of a command leaves the data of an object that it isn't about
abbrev Leaves : DeviceState → ℕ → ℕ → Effect → Type 0
Leaves state type_code id effect = object_data (with_effect state effect).objects type_code id ≡ object_data state.objects type_code id

module _ (state : DeviceState) (valid : IsValid state) (bytes : List ℕ) (type_code id : ℕ) (off : (command : Command) → Reads bytes command → ¬ IsAbout type_code id command) where
  leaves_change : (command : Command) → Reads bytes command → first_verdict (command_rows state.caps state.driver state.objects command) ≡ None → (put : Option Change) → change_of command ≡ put → Leaves state type_code id (effect_with put)
  leaves_change command read none None is = refl
  leaves_change command read none (Some change) is =
      let none_of = clear state.caps state.driver state.objects command none in
      data_after state.objects valid.objects.by_id type_code id state.caps.limits change (spared bytes type_code id command read none_of.known (off command read) change is)

  leaves_command : (command : Command) → Reads bytes command → first_verdict (command_rows state.caps state.driver state.objects command) ≡ None → Leaves state type_code id (effect_for state.driver command)
  leaves_command ListQuery read none = refl
  leaves_command (ListUse bitmap) read none = refl
  leaves_command CapIds read none = refl
  leaves_command (CapGet cap) read none = refl
  leaves_command (CapSet cap) read none = refl
  leaves_command (Create head object) read none = leaves_change (Create head object) read none _ refl
  leaves_command (Modify head object) read none = leaves_change (Modify head object) read none _ refl
  leaves_command (Query head) read none = refl
  leaves_command (Destroy head) read none = leaves_change (Destroy head) read none _ refl

  leaves_read : (read : Result Command WireErr) → command_of bytes ≡ read → first_verdict (verdict_rows state bytes) ≡ None → Leaves state type_code id (accepted state read).effect
  leaves_read (Ok command) is none = leaves_command command is (command_none state bytes command is none)
  leaves_read (Err fault) is none = refl

  leaves_answer : Leaves state type_code id (answer_of state bytes).effect
  unfolding answer_of
  leaves_answer = by_verdict (first_verdict (verdict_rows state bytes)) refl where
    by_verdict : (o : Option Verdict) → first_verdict (verdict_rows state bytes) ≡ o → Leaves state type_code id (refused_or o (accepted state (command_of bytes))).effect
    by_verdict (Some verdict) is = refl
    by_verdict None is = leaves_read (command_of bytes) refl is

  data_next : (room : ℕ) → object_data (next_state state bytes room).objects type_code id ≡ object_data state.objects type_code id
  unfolding verdict_of
  data_next room = by_test (ltb room 8) where
    by_test : (b : Bool) → Leaves state type_code id (effect_in (cond b None (Some (answer_of state bytes))))
    by_test true = refl
    by_test false = leaves_answer

-- a command that leaves an object leaves its data
data_left : (state : DeviceState) (sent : List ℕ × ℕ) (type_code id : ℕ) → IsValid state → LeavesObject state type_code id sent → object_data (next_state state sent.0 sent.1).objects type_code id ≡ object_data state.objects type_code id
data_left state sent type_code id valid (inl off) = data_next state valid sent.0 type_code id off sent.1
data_left state sent type_code id valid (inr (inl refused)) = ap (λ (s : DeviceState). object_data s.objects type_code id) (refused_stays state sent.0 sent.1 refused)
data_left state sent type_code id valid (inr (inr silent)) = ap (λ (s : DeviceState). object_data s.objects type_code id) (silent_stays state sent.0 sent.1 silent)

data_stays : (state : DeviceState) (commands : List (List ℕ × ℕ)) (type_code id : ℕ) → IsValid state → RunLeaves state type_code id commands → object_data (state_after state commands).objects type_code id ≡ object_data state.objects type_code id
unfolding state_after
data_stays state [] type_code id valid off = refl
data_stays state (sent ∷ commands) type_code id valid off =
    let next = next_state state sent.0 sent.1 in
    data_stays next commands type_code id (valid_with_effect state valid (effect_of state sent.0 sent.1) (sent.0, sent.1, refl)) off.1
    ∙ data_left state sent type_code id valid off.0

-- ---- the query

-- an object whose data is of a known type is held
held_by_data : (objects : FlowObjects) (type_code id : ℕ) (object : ObjData) → object_data objects type_code id ≡ object → is_object_type (type_of object) ≡ true → is_held objects type_code id ≡ true
held_by_data objects type_code id object is known = by_type (type_code == group_type) (type_code == classifier_type) (type_code == rule_type) (object_under objects.groups id) (object_under objects.classifiers id) (object_under objects.rules id) (subst (λ (o : ObjData). is_object_type (type_of o) ≡ true) (sym is) known) where
  by_type : (b c d : Bool) (group : Option ℕ) (classifier : Option (List SelectorParts)) (rule : Option RuleParts) → is_object_type (type_of (cond b (option_map_or (λ p. Group p) group Other) (cond c (option_map_or classifier_data classifier Other) (cond d (option_map_or rule_data rule Other) Other)))) ≡ true → cond b (is_some group) (cond c (is_some classifier) (cond d (is_some rule) false)) ≡ true
  by_type true c d None classifier rule is = absurd cc
  by_type true c d (Some priority) classifier rule is = refl
  by_type false true d group None rule is = absurd cc
  by_type false true d group (Some selectors) rule is = refl
  by_type false false true group classifier None is = absurd cc
  by_type false false true group classifier (Some parts) is = refl
  by_type false false false group classifier rule is = absurd cc

-- a query of an object that is held is told its data
told : (state : DeviceState) (query : List ℕ) (asked : ℕ) (head : ObjHead) (object : ObjData) → Reads query (Query head) → is_opcode_in state.in_use 12 ≡ true → not (head.flags == 0) ≡ false → type_of object ≡ head.type_code → is_object_type (type_of object) ≡ true → object_data state.objects head.type_code head.id ≡ object → reply_of state query asked ≡ reply_bytes (telling (written (object_fields object))) asked
told state query asked head object read used flags typed known is =
    let free : first_verdict (command_rows state.caps state.driver state.objects (Query head)) ≡ None = no_row_if_clear state.caps state.driver state.objects (Query head) (record {
      no_flags = flags;
      known = ap not (subst (λ (t : ℕ). is_object_type t ≡ true) typed known);
      own_opcodes = refl;
      in_time = refl;
      settable = refl;
      new = refl;
      room = refl;
      held = ap not (held_by_data state.objects head.type_code head.id object is known);
      unneeded = refl;
      content = tt;
    }) in
    let answer = answer_is state query (Query head) read (none_in_use state query (Query head) read used free) in
    reply_is state query asked ∙ (ap (λ (a : Answer). reply_bytes a.reply asked) answer ∙ ap (λ (d : ObjData). reply_bytes (telling (written (object_fields d))) asked) is)

-- ---- an accepted put

-- what an accepted put says of its object
record IsPut (state next : DeviceState) (head : ObjHead) (object : ObjData) : Type 0 where
  pub no_flags : not (head.flags == 0) ≡ false
  pub known : is_object_type (type_of object) ≡ true
  pub typed : type_of object ≡ head.type_code
  pub kept : object_data next.objects head.type_code head.id ≡ object

put_leaves : (state : DeviceState) (head : ObjHead) (object : ObjData) (change : Change) → NoneHolds (content_rows state.caps state.driver state.objects head.id object) → put_of head.id object ≡ Some change → type_of object ≡ head.type_code → (next : DeviceState) → next ≡ record state { objects = with_change_made state.objects change } → object_data next.objects head.type_code head.id ≡ object
put_leaves state head object change none is typed next after =
    ap (λ (s : DeviceState). object_data s.objects head.type_code head.id) after
    ∙ subst (λ (t : ℕ). object_data (with_change_made state.objects change) t head.id ≡ object) typed (data_put state.caps state.driver state.objects head.id object change none is)

module _ (state : DeviceState) (put : List ℕ) (room : ℕ) (head : ObjHead) (object : ObjData) (valid : IsValid state) (enough : 8 ≤ room) (done : status_of (reply_of state put room) ≡ 0) where
  -- the put of a command that is no other than this object's
  put_by : (command : Command) → Reads put command → first_verdict (verdict_rows state put) ≡ None → effect_for state.driver command ≡ effect_with (put_of head.id object) → change_of command ≡ put_of head.id object → NoneHolds (content_rows state.caps state.driver state.objects head.id object) → is_object_type (type_of object) ≡ true → type_of object ≡ head.type_code → object_data (next_state state put room).objects head.type_code head.id ≡ object
  put_by command read none effect makes content known typed =
      let change = put_there head.id object known in
      let rows = command_none state put command read none in
      let accepted = accepted_change state.caps state.driver state.objects valid.limits command rows change.0 (makes ∙ change.1) in
      let after : next_state state put room ≡ record state { objects = with_change_made state.objects change.0 } = next_is state put command read room enough none ∙ (ap (with_effect state) effect ∙ put_made state change.0 accepted.sound (put_of head.id object) change.1) in
      put_leaves state head object change.0 content change.1 typed _ after

  created : Reads put (Create head object) → IsPut state (next_state state put room) head object
  created read =
      let none = none_if_obeyed state put room enough done in
      let is = clear state.caps state.driver state.objects (Create head object) (command_none state put (Create head object) read none) in
      let known = not_false _ is.known in
      let typed = created_typed put head object read known in
      record { no_flags = is.no_flags; known = known; typed = typed; kept = put_by (Create head object) read none refl refl is.content known typed }

  modified : Reads put (Modify head object) → IsPut state (next_state state put room) head object
  modified read =
      let none = none_if_obeyed state put room enough done in
      let is = clear state.caps state.driver state.objects (Modify head object) (command_none state put (Modify head object) read none) in
      let known = not_false _ is.known in
      let typed = modified_typed put head object read known in
      record { no_flags = is.no_flags; known = known; typed = typed; kept = put_by (Modify head object) read none refl refl is.content known typed }

  either : Puts put head object → IsPut state (next_state state put room) head object
  either (inl read) = created read
  either (inr read) = modified read

  -- after an accepted create or modify of an object, and any commands that leave it, a query gives it back
  pub given_back : Puts put head object → (commands : List (List ℕ × ℕ)) → RunLeaves (next_state state put room) head.type_code head.id commands → (query : List ℕ) (asked : ℕ) → Reads query (Query head) → is_opcode_in (state_after (next_state state put room) commands).in_use 12 ≡ true → reply_of (state_after (next_state state put room) commands) query asked ≡ reply_bytes (telling (written (object_fields object))) asked
  given_back puts commands off query asked read used =
      let next = next_state state put room in
      let valid_next = valid_with_effect state valid (effect_of state put room) (put, room, refl) in
      let is = either puts in
      told (state_after next commands) query asked head object read used is.no_flags is.typed is.known (data_stays next commands head.type_code head.id valid_next off ∙ is.kept)
