-- A command against which no row holds makes a change that is sound: a put of a group, of a classifier of good shape or of a rule
-- that goes to a receive queue, or a drop of what no rule names.
use Rattle.std.proofs.Common.{◌≡◌, ℕ, ◌≤◌, Bool, true, false, not, ◌&&◌, cond, List, length, Option, Some, None, refl, ap, subst, arith}
use Rattle.std.specs.Prelude.{is_some, nat_le, nat_lt, ◌==◌}
use Rattle.std.specs.Option.{option_map_or}
use Rattle.std.proofs.lemmas.Bool.{or_left, or_right, and_from}
use Rattle.std.proofs.lemmas.Bool.Decides.{nat_tests}
use Rattle.ff_headers.specs.SelectorParts.{SelectorParts}
use Rattle.ff_headers.specs.RuleParts.{RuleParts}
use Rattle.ff_headers.specs.Matching.{key_size}
use Rattle.ff_headers.specs.Objects.{FlowObjects, object_under}
use Rattle.ff_headers.specs.Changes.{has_room, is_sound, is_backed, names_group, names_classifier, CarriesShape}
use Rattle.ff_headers.specs.Shapes.{shape_fault}
use Rattle.ff_headers.specs.declared.change.Change.{Change}
use Rattle.ff_headers.specs.declared.change.Change.TheVariants.{PutRule, DropGroup, DropClassifier, DropRule}
use Rattle.ff_headers.specs.declared.rule.RuleAction.TheVariants.{Drop, Queue}
use Rattle.ff_headers.proofs.ShapeLemmas.{shape_from_no_fault}
use Rattle.admin_wire.specs.declared.command.Command.{Command}
use Rattle.admin_wire.specs.declared.command.Command.TheVariants.{Create, Modify, Destroy}
use Rattle.admin_wire.specs.declared.command.ObjHead.{ObjHead}
use Rattle.admin_wire.specs.declared.command.ObjData.{ObjData}
use Rattle.admin_wire.specs.declared.command.ObjData.TheVariants as objs
use Rattle.admin_wire.specs.declared.command.RawRule.{RawRule}
use Rattle.admin_wire.specs.Codes.{drop_action, queue_action, group_type, classifier_type, rule_type}
use Rattle.admin_wire.specs.Layouts.{key_bytes}
use Rattle.cap_table.specs.Caps.{CapsParts, DriverParts, AtMost, is_action_set}
use Rattle.cap_table.specs.States.{QueuesWithin, is_receive_queue}
use Rattle.cap_table.specs.Verdicts.{first_verdict, command_rows, content_rows, rule_faults, selectors_in, is_named_by_rule}
use Rattle.cap_table.specs.Answers.{change_of, put_of, drop_of, rule_parts, action_of_byte}
use Rattle.cap_table.proofs.RowLemmas.{NoneHolds, IsSoundContent, sound_content, IsClear, clear}

pub not_false : (b : Bool) → not b ≡ false → b ≡ true
not_false true h = refl
not_false false h = absurd cc

pub none_from_test : {X : Type 0} (o : Option X) → is_some o ≡ false → o ≡ None
none_from_test None h = refl
none_from_test (Some x) h = absurd cc

-- a limit that is below another leaves room below that other
room_below : (count small limit : ℕ) → small ≤ limit → nat_le small count ≡ false → nat_lt count limit ≡ true
room_below count small limit le h = grind (arith, nat_tests)

room_for_one : {X : Type 0} (es : List (ℕ × X)) (id small limit : ℕ) → small ≤ limit → nat_le small (length es) ≡ false → has_room es id limit ≡ true
room_for_one es id small limit le h = or_right (is_some (object_under es id)) (nat_lt (length es) limit) (room_below (length es) small limit le h)

room_if_held : {X : Type 0} (es : List (ℕ × X)) (id limit : ℕ) → not (is_some (object_under es id)) ≡ false → has_room es id limit ≡ true
room_if_held es id limit held = or_left (is_some (object_under es id)) (nat_lt (length es) limit) (not_false _ held)

-- what is asked of an id that is held
if_held : (is_held other room : Bool) → not is_held ≡ false → other ≡ true → cond is_held other room ≡ true
if_held true other room held free = free
if_held false other room held free = absurd cc

-- what is asked of a new id
if_new : (is_held other room : Bool) → is_held ≡ false → room ≡ true → cond is_held other room ≡ true
if_new true other room new free = absurd cc
if_new false other room new free = free

-- the key has the size of the classifier that is held
key_right : (o : Option (List SelectorParts)) (size : ℕ) → not (is_some o) ≡ false → not (size == option_map_or key_size o 0) ≡ false → option_map_or (λ selectors. size == key_size selectors) o false ≡ true
key_right None size there right = absurd cc
key_right (Some selectors) size there right = not_false _ right

-- an action that is set and isn't the drop is the queue
queue_byte : (driver : DriverParts) (action : ℕ) → is_action_set driver action ≡ true → action_of_byte action ≡ Queue → (action == queue_action) ≡ true
queue_byte driver action set is = by_test (action == drop_action) (action == queue_action) set is where
  by_test : (b c : Bool) → cond b driver.drops (cond c driver.queues false) ≡ true → cond b Drop Queue ≡ Queue → c ≡ true
  by_test true c set is = absurd cc
  by_test false true set is = refl
  by_test false false set is = absurd cc

receive_queue : (queues right : Bool) → (queues && not right) ≡ false → queues ≡ true → right ≡ true
receive_queue true true h is = refl
receive_queue true false h is = absurd cc
receive_queue false right h is = absurd cc

-- what the change of an accepted command is
pub record IsAccepted (caps : CapsParts) (objects : FlowObjects) (change : Change) : Type 0 where
  pub sound : is_sound caps.limits objects change ≡ true
  pub shaped : CarriesShape change
  pub queues : (id : ℕ) (rule : RuleParts) → change ≡ PutRule id rule → QueuesWithin caps.pairs (id, rule)

pub some_is : {a b : Change} → Some a ≡ Some b → a ≡ b
some_is h = cc

rule_is : {i j : ℕ} {r s : RuleParts} → PutRule i r ≡ PutRule j s → r ≡ s
rule_is h = cc

module _ (caps : CapsParts) (driver : DriverParts) (objects : FlowObjects) where
  rule_backed : (id : ℕ) (rule : RawRule) → IsSoundContent (rule_faults caps driver objects id rule) → is_backed objects (rule_parts rule) ≡ true
  rule_backed id rule sound = and_from _ _ (not_false _ sound.group_held) (key_right (object_under objects.classifiers rule.classifier) (length (key_bytes rule.key)) sound.classifier_held sound.key_fits)

  rule_queues : (id : ℕ) (rule : RawRule) → IsSoundContent (rule_faults caps driver objects id rule) → QueuesWithin caps.pairs (id, rule_parts rule)
  rule_queues id rule sound act =
      receive_queue (rule.action == queue_action) (is_receive_queue caps.pairs rule.vq) sound.queue_right (queue_byte driver rule.action (not_false _ sound.action_set) act)

  -- there is a place for the object: its id is held, and no rule names a classifier there, or there is room
  abbrev HasPlace : ℕ → ObjData → Type 0
  HasPlace id (objs.Group priority) = has_room objects.groups id caps.limits.groups ≡ true
  HasPlace id (objs.Classifier list) =
      cond (is_some (object_under objects.classifiers id)) (not (names_classifier objects id)) (nat_lt (length objects.classifiers) caps.limits.classifiers) ≡ true
  HasPlace id (objs.Rule rule) = has_room objects.rules id caps.limits.rules ≡ true
  HasPlace id objs.Other = Unit {0}

  put_accepted : (id : ℕ) (object : ObjData) → HasPlace id object → NoneHolds (content_rows caps driver objects id object) → (change : Change) → put_of id object ≡ Some change → IsAccepted caps objects change
  unfolding is_sound
  put_accepted id (objs.Group priority) place none change put = subst (IsAccepted caps objects) (some_is put) (record {
    sound = and_from _ _ place (ap not none.0);
    shaped = tt;
    queues = λ id rule e. absurd cc;
  })
  put_accepted id (objs.Classifier list) place none change put = subst (IsAccepted caps objects) (some_is put) (record {
    sound = place;
    shaped = shape_from_no_fault (selectors_in list) (none_from_test (shape_fault (selectors_in list)) none.1.0);
    queues = λ id rule e. absurd cc;
  })
  put_accepted id (objs.Rule rule) place none change put =
      let sound = sound_content (rule_faults caps driver objects id rule) none in
      subst (IsAccepted caps objects) (some_is put) (record {
        sound = and_from _ _ (rule_backed id rule sound) place;
        shaped = tt;
        queues = λ at other e. subst (λ (r : RuleParts). QueuesWithin caps.pairs (at, r)) (rule_is e) (rule_queues id rule sound);
      })
  put_accepted id objs.Other place none change put = absurd cc

  drop_accepted : (type_code id : ℕ) → is_named_by_rule objects type_code id ≡ false → (change : Change) → drop_of type_code id ≡ Some change → IsAccepted caps objects change
  unfolding is_sound
  drop_accepted type_code id unnamed change drops = by_type (type_code == group_type) (type_code == classifier_type) (type_code == rule_type) unnamed drops where
    by_type : (group classifier rule : Bool) → cond group (names_group objects id) (cond classifier (names_classifier objects id) false) ≡ false → cond group (Some (DropGroup id)) (cond classifier (Some (DropClassifier id)) (cond rule (Some (DropRule id)) None)) ≡ Some change → IsAccepted caps objects change
    by_type true classifier rule free is = subst (IsAccepted caps objects) (some_is is) (record { sound = ap not free; shaped = tt; queues = λ id rule e. absurd cc })
    by_type false true rule free is = subst (IsAccepted caps objects) (some_is is) (record { sound = ap not free; shaped = tt; queues = λ id rule e. absurd cc })
    by_type false false true free is = subst (IsAccepted caps objects) (some_is is) (record { sound = refl; shaped = tt; queues = λ id rule e. absurd cc })
    by_type false false false free is = absurd cc

  module _ (at_most : AtMost driver.limits caps.limits) where
    new_place : (head : ObjHead) (object : ObjData) → IsClear caps driver objects (Create head object) → HasPlace head.id object
    new_place head (objs.Group priority) none = room_for_one objects.groups head.id driver.limits.groups caps.limits.groups at_most.groups none.room
    new_place head (objs.Classifier list) none =
        if_new _ _ _ none.new (room_below (length objects.classifiers) driver.limits.classifiers caps.limits.classifiers at_most.classifiers none.room)
    new_place head (objs.Rule rule) none = room_for_one objects.rules head.id driver.limits.rules caps.limits.rules at_most.rules none.room
    new_place head objs.Other none = tt

    held_place : (head : ObjHead) (object : ObjData) → IsClear caps driver objects (Modify head object) → HasPlace head.id object
    held_place head (objs.Group priority) none = room_if_held objects.groups head.id caps.limits.groups none.held
    held_place head (objs.Classifier list) none = if_held _ _ _ none.held (ap not none.unneeded)
    held_place head (objs.Rule rule) none = room_if_held objects.rules head.id caps.limits.rules none.held
    held_place head objs.Other none = tt

    accepted_if_clear : (command : Command) → IsClear caps driver objects command → (change : Change) → change_of command ≡ Some change → IsAccepted caps objects change
    accepted_if_clear (Create head object) none change put = put_accepted head.id object (new_place head object none) none.content change put
    accepted_if_clear (Modify head object) none change put = put_accepted head.id object (held_place head object none) none.content change put
    accepted_if_clear (Destroy head) none change drops = drop_accepted head.type_code head.id none.unneeded change drops
    accepted_if_clear _ none change put = absurd cc

    -- a command against which no row holds makes such a change
    pub accepted_change : (command : Command) → first_verdict (command_rows caps driver objects command) ≡ None → (change : Change) → change_of command ≡ Some change → IsAccepted caps objects change
    accepted_change command none change is = accepted_if_clear command (clear caps driver objects command none) change is
