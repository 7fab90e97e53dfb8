-- The commands that a table of specs is compiled to, and why a table can't be. The commands create resource objects of
-- the Virtio 1.4 draft's flow filters; which groups, classifiers and rules stand for a table, their numbers, and the
-- refusals with their order are this project's own.
use Rattle.std.specs.Prelude.{◌≡◌, ⊤, ℕ, ◌+◌, ◌*◌, ◌/◌, ◌%◌, min, Bool, not, ◌&&◌, nat_lt, if◌then◌else◌, List, [], ◌∷◌, ◌++◌, map, length, Option, Some, None, Result, Ok, Err}
use Rattle.std.specs.Prelude.{find, filter, option_map, bytes_eq}
use Rattle.std.specs.List.{list_all, enumerate_from, range_with_len, zip, position_or_len}
use Rattle.std.specs.Int.{div_ceil}
use Rattle.std.specs.Option.{option_map_or}
use Rattle.ff_headers.specs.Objects.{FlowObjects}
use Rattle.ff_headers.specs.RuleParts.{RuleParts, rule_with}
use Rattle.ff_headers.specs.SelectorParts.{SelectorParts}
use Rattle.ff_headers.specs.Shapes.{codes_of}
use Rattle.ff_headers.specs.declared.kind.Kind.{Kind}
use Rattle.ff_headers.specs.declared.limits.Limits.{Limits}
use Rattle.ff_headers.specs.declared.rule.RuleAction.{RuleAction}
use Rattle.ff_headers.specs.declared.rule.RuleAction.TheVariants as rule_action
use Rattle.admin_wire.specs.Codes.{group_type, classifier_type, rule_type, drop_action, queue_action}
use Rattle.admin_wire.specs.declared.command.Command.{Command}
use Rattle.admin_wire.specs.declared.command.Command.TheVariants.{Create}
use Rattle.admin_wire.specs.declared.command.ObjData.TheVariants.{Group, Classifier, Rule}
use Rattle.admin_wire.specs.declared.command.ObjHead.{ObjHead}
use Rattle.admin_wire.specs.declared.command.RawKey.TheVariants as raw_key
use Rattle.admin_wire.specs.declared.command.RawList.TheVariants as raw_list
use Rattle.admin_wire.specs.declared.command.RawRule.{RawRule}
use Rattle.cap_table.specs.Caps.{CapsParts, is_supported}
use Rattle.ntuple_text.specs.TableMaps.{TableMap}
use Rattle.ntuple_text.specs.declared.spec.Spec.{Spec}
use Rattle.ntuple_text.specs.declared.spec.TableDo.{TableDo}
use Rattle.ntuple_text.specs.declared.spec.TableDo.TheVariants.{Drop, Queue}
use Rattle.ntuple_compile.specs.SpecFits.{specs_of}
use Rattle.ntuple_compile.specs.Selected.{selectors_of, key_for}
use Rattle.ntuple_compile.specs.declared.error.CompileErr.{CompileErr}
use Rattle.ntuple_compile.specs.declared.error.CompileErr.TheVariants.{Unsupported, Rules, Classifiers, Levels, PerGroup, Memory}

-- ---- classifiers

-- the selectors of a classifier, in order
abbrev pub SelectorList : Type 0
SelectorList = List SelectorParts

-- two lists of masks are the same
abbrev pub same_masks : SelectorList → SelectorList → Bool
same_masks a b = list_all (λ p. bytes_eq p.0.mask p.1.mask) (zip a b)

-- two lists of selectors have the same kinds and masks
abbrev pub same_shape : SelectorList → SelectorList → Bool
same_shape a b = bytes_eq (codes_of a) (codes_of b) && same_masks a b

-- the shapes, each once, in the order of their first use
abbrev pub each_once : List SelectorList → List SelectorList
each_once [] = []
each_once (shape ∷ shapes) = shape ∷ filter (λ other. not (same_shape shape other)) (each_once shapes)

-- the classifiers that specs share, from number 0 up
abbrev pub shapes_of : List Spec → List SelectorList
shapes_of specs = each_once (map selectors_of specs)

-- the number of a spec's classifier
abbrev pub shape_number : List SelectorList → Spec → ℕ
shape_number shapes spec = position_or_len (same_shape (selectors_of spec)) shapes

-- ---- groups and rules

-- how many rules stand in a group: each has a priority of its own, up to the last one, and there are no more than the
-- limit per group
abbrev pub rules_per_group : Limits → ℕ
rules_per_group limits = min (limits.last_priority + 1) limits.per_group

-- what a spec does, as the action of a rule
abbrev pub action_of_spec : TableDo → RuleAction
action_of_spec Drop = rule_action.Drop
action_of_spec (Queue queue) = rule_action.Queue

-- its virtqueue index: the receive queue q is virtqueue 2 q; a drop has none, and 0 stands for it
abbrev pub virtqueue_of : TableDo → ℕ
virtqueue_of Drop = 0
virtqueue_of (Queue queue) = 2 * queue

-- the rule of the spec with number i: groups are filled one after another, so that an earlier spec has an earlier place
abbrev pub spec_rule : ℕ → List SelectorList → ℕ → Spec → RuleParts
spec_rule size shapes i spec =
    rule_with (i / size) (shape_number shapes spec) (i % size) (action_of_spec spec.action) (virtqueue_of spec.action)
    (key_for spec)

-- ---- objects and commands

-- the objects that stand for specs by rising location, for a device with these limits: a group has its id as priority,
-- and the rule of a spec has the spec's number as id
unfoldable pub objects_of : Limits → List Spec → FlowObjects
objects_of limits specs = record {
  groups = map (λ g. (g, g)) (range_with_len 0 (div_ceil (length specs) (rules_per_group limits)));
  classifiers = enumerate_from 0 (shapes_of specs);
  rules = map (λ e. (e.0, spec_rule (rules_per_group limits) (shapes_of specs) e.0 e.1)) (enumerate_from 0 specs);
}

-- the head of a create of an object, without flags
abbrev pub create_head : ℕ → ℕ → ObjHead
create_head type id = record { type_code = type; id = id; flags = 0 }

-- a create of a group, a classifier and a rule
abbrev pub create_group : ℕ × ℕ → Command
create_group group = Create (create_head group_type group.0) (Group group.1)

abbrev pub create_classifier : ℕ × SelectorList → Command
create_classifier classifier =
    Create (create_head classifier_type classifier.0) (Classifier (raw_list.Good (record { items = classifier.1 })))

-- the action byte
abbrev pub action_byte : RuleAction → ℕ
action_byte rule_action.Drop = drop_action
action_byte rule_action.Queue = queue_action

-- a rule as a command lays it out
abbrev pub raw_rule : RuleParts → RawRule
raw_rule rule = record {
  group = rule.group;
  classifier = rule.classifier;
  priority = rule.priority;
  action = action_byte rule.action;
  vq = rule.vq;
  key = raw_key.Good (record { items = rule.key });
}

abbrev pub create_rule : ℕ × RuleParts → Command
create_rule rule = Create (create_head rule_type rule.0) (Rule (raw_rule rule.1))

-- the commands that create objects: all groups, then all classifiers, then all rules, each by rising id
unfoldable pub creates_of : FlowObjects → List Command
creates_of objects =
    map create_group objects.groups ++ (map create_classifier objects.classifiers ++ map create_rule objects.rules)

-- ---- refusals

-- the kind of the first selector of a spec that the device's capability doesn't have
abbrev pub unsupported_kind : CapsParts → Spec → Option Kind
unsupported_kind caps spec =
    option_map (λ p. p.1.kind)
    (find (λ p. not (is_supported caps.limits.selectors caps.selectors p.0 p.1)) (enumerate_from 0 (selectors_of spec)))

-- a spec with such a selector, by its location
abbrev pub spec_fault : CapsParts → Spec → Option CompileErr
spec_fault caps spec = option_map (λ kind. Unsupported spec.loc kind) (unsupported_kind caps spec)

-- a number that is above its limit
abbrev pub above : (ℕ → CompileErr) → ℕ → ℕ → Option CompileErr
above fault number limit = if nat_lt limit number then Some (fault number) else None

-- the first fault of a list
abbrev pub first_fault : List (Option CompileErr) → Option CompileErr
first_fault [] = None
first_fault (None ∷ faults) = first_fault faults
first_fault (Some fault ∷ faults) = Some fault

-- what is wrong with the specs one by one, from the least location up
abbrev pub specs_fault : CapsParts → List Spec → Option CompileErr
specs_fault caps specs = first_fault (map (spec_fault caps) specs)

-- what is wrong with the numbers of rules and of classifiers: more rules than their limit, more classifiers, more rules
-- than the groups have priorities for, and than may stand in the groups
abbrev pub count_faults : Limits → ℕ → ℕ → List (Option CompileErr)
count_faults limits rules classifiers =
    above Rules rules limits.rules
    ∷ above Classifiers classifiers limits.classifiers
    ∷ above Levels rules (limits.groups * (limits.last_priority + 1))
    ∷ above PerGroup rules (limits.groups * limits.per_group)
    ∷ []

-- what is wrong with specs by rising location: first a selector that the device doesn't have, then their numbers
unfoldable pub compile_fault : CapsParts → List Spec → Option CompileErr
compile_fault caps specs =
    first_fault (specs_fault caps specs ∷ count_faults caps.limits (length specs) (length (shapes_of specs)))

-- the commands for specs by rising location, or what is wrong with these
unfoldable pub compiled_specs : CapsParts → List Spec → Result (List Command) CompileErr
compiled_specs caps specs =
    option_map_or (λ fault. Err fault) (compile_fault caps specs) (Ok (creates_of (objects_of caps.limits specs)))

-- the commands for a table, or what is wrong with it
abbrev pub compiled : TableMap → CapsParts → Result (List Command) CompileErr
compiled table caps = compiled_specs caps (specs_of table)

-- the error says what is wrong with the table, unless memory ran out
abbrev pub IsCompileFault : Result (List Command) CompileErr → CompileErr → Type 0
IsCompileFault spelled Memory = ⊤
IsCompileFault spelled err = spelled ≡ Err err
