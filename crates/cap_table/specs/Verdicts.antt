-- The verdict on a command: one list of rows over its bytes and the state, of which the first that holds decides. The
-- commands are the Virtio 1.4 draft's (group administration commands, device capabilities, resource objects); the rows
-- and their order are this project's own.
use Rattle.std.specs.Prelude.{ℕ, Bool, true, false, not, ◌&&◌, ◌||◌, ◌==◌, if◌then◌else◌, nat_lt, nat_le, bit_and, is_some, List, [], ◌∷◌, ◌++◌, length}
use Rattle.std.specs.Prelude.{Option, Some, None, Result, Ok, Err}
use Rattle.std.specs.Option.{option_map_or}
use Rattle.ff_headers.specs.SelectorParts.{SelectorParts}
use Rattle.ff_headers.specs.Shapes.{shape_fault}
use Rattle.ff_headers.specs.Matching.{key_size}
use Rattle.ff_headers.specs.Objects.{FlowObjects, object_under}
use Rattle.ff_headers.specs.Dependents.{other_rules_in_group}
use Rattle.ff_headers.specs.Changes.{is_priority_taken, names_group, names_classifier}
use Rattle.admin_wire.specs.declared.command.Command.{Command}
use Rattle.admin_wire.specs.declared.command.Command.TheVariants.{ListUse, CapGet, CapSet, Create, Modify, Query, Destroy}
use Rattle.admin_wire.specs.declared.command.ObjData.{ObjData}
use Rattle.admin_wire.specs.declared.command.ObjData.TheVariants.{Group, Classifier, Rule, Other}
use Rattle.admin_wire.specs.declared.command.RawList.{RawList}
use Rattle.admin_wire.specs.declared.command.RawList.TheVariants as raw_list
use Rattle.admin_wire.specs.declared.command.RawRule.{RawRule}
use Rattle.admin_wire.specs.declared.command.RawKey.{RawKey}
use Rattle.admin_wire.specs.declared.command.RawKey.TheVariants as raw_key
use Rattle.admin_wire.specs.declared.error.WireErr.{WireErr}
use Rattle.admin_wire.specs.declared.error.WireErr.TheVariants as wire_err
use Rattle.admin_wire.specs.Codes.{queue_action, group_type, classifier_type, rule_type}
use Rattle.admin_wire.specs.Headers.{opcode_of}
use Rattle.admin_wire.specs.Layouts.{key_bytes}
use Rattle.admin_wire.specs.Wire.{command_of}
use Rattle.cap_table.specs.Caps.{CapsParts, DriverParts, are_supported, is_action_set}
use Rattle.cap_table.specs.CapSets.{is_id_unknown, cap_fault}
use Rattle.cap_table.specs.CapResults.{is_cap}
use Rattle.cap_table.specs.States.{DeviceState, all_opcodes, is_opcode_in, is_receive_queue}
use Rattle.cap_table.specs.Statuses.{invalid_command, invalid_opcode, invalid_field, invalid_group, invalid_member}
use Rattle.cap_table.specs.Statuses.{already_there, no_space, no_object, busy}
use Rattle.cap_table.specs.declared.verdict.Verdict.{Verdict}

-- ---- rows

-- a condition, and the verdict where it holds
abbrev pub Row : Type 0
Row = Bool × Verdict

-- the verdict of the first row that holds
abbrev pub first_verdict : List Row → Option Verdict
first_verdict [] = None
first_verdict (row ∷ rows) = if row.0 then Some row.1 else first_verdict rows

-- what is asked for, unless there is a verdict against it
abbrev pub ok_unless : {X : Type 0} → Option Verdict → X → Result X Verdict
ok_unless None asked = Ok asked
ok_unless (Some verdict) asked = Err verdict

-- what is asked for, unless a row holds
abbrev pub unless_refused : {X : Type 0} → List Row → X → Result X Verdict
unless_refused rows asked = ok_unless (first_verdict rows) asked

-- ---- bytes that lay out no command that is in use

-- the bytes end within the header
abbrev pub is_header_cut : Result Command WireErr → Bool
is_header_cut (Err wire_err.ShortHeader) = true
is_header_cut _ = false

-- the device has no such opcode
abbrev pub is_opcode_unknown : Result Command WireErr → Bool
is_opcode_unknown (Err (wire_err.Opcode _)) = true
is_opcode_unknown _ = false

-- the opcode isn't in use
abbrev pub is_opcode_unused : ℕ → Option ℕ → Bool
is_opcode_unused in_use None = false
is_opcode_unused in_use (Some opcode) = not (is_opcode_in in_use opcode)

-- the group type isn't the one of a device that is its own member
abbrev pub is_group_other : Result Command WireErr → Bool
is_group_other (Err (wire_err.Group _)) = true
is_group_other _ = false

-- the member isn't the device itself
abbrev pub is_member_other : Result Command WireErr → Bool
is_member_other (Err (wire_err.Member _)) = true
is_member_other _ = false

-- the bytes end within the data that the command needs
abbrev pub is_data_cut : Result Command WireErr → Bool
is_data_cut (Err wire_err.ShortData) = true
is_data_cut _ = false

-- the rows on bytes that lay out no command that is in use, by their opcode and what they are read as
abbrev pub layout_rows : ℕ → Option ℕ → Result Command WireErr → List Row
layout_rows in_use opcode read =
    (is_header_cut read, invalid_command)
    ∷ (is_opcode_unknown read || is_opcode_unused in_use opcode, invalid_opcode)
    ∷ (is_group_other read, invalid_group)
    ∷ (is_member_other read, invalid_member)
    ∷ (is_data_cut read, invalid_command)
    ∷ []

-- ---- what no state of the device allows

-- there are flags, and none is defined
abbrev pub has_flags : Command → Bool
has_flags (Create head object) = not (head.flags == 0)
has_flags (Modify head object) = not (head.flags == 0)
has_flags (Query head) = not (head.flags == 0)
has_flags _ = false

-- the device has objects of this type
abbrev pub is_object_type : ℕ → Bool
is_object_type type_code = (type_code == group_type) || (type_code == classifier_type) || (type_code == rule_type)

-- the type of an object's data; one that isn't known counts as 0, which is no type
abbrev pub type_of : ObjData → ℕ
type_of (Group _) = group_type
type_of (Classifier _) = classifier_type
type_of (Rule _) = rule_type
type_of Other = 0

-- the type of the object, or the id of the capability, is none that the device has
abbrev pub is_unknown : Command → Bool
is_unknown (CapGet id) = not (is_cap id)
is_unknown (CapSet cap) = is_id_unknown cap
is_unknown (Create head object) = not (is_object_type (type_of object))
is_unknown (Modify head object) = not (is_object_type (type_of object))
is_unknown (Query head) = not (is_object_type head.type_code)
is_unknown (Destroy head) = not (is_object_type head.type_code)
is_unknown _ = false

-- the bitmap has a bit that is none of the device's opcodes
abbrev pub has_other_opcode : Command → Bool
has_other_opcode (ListUse bitmap) = not (bit_and bitmap all_opcodes == bitmap)
has_other_opcode _ = false

-- ---- a capability that is to be set

-- there is an object of some type
abbrev pub is_any_held : FlowObjects → Bool
is_any_held objects =
    not ((length objects.groups == 0) && (length objects.classifiers == 0) && (length objects.rules == 0))

-- a capability is set only before there are objects
abbrev pub is_set_late : FlowObjects → Command → Bool
is_set_late objects (CapSet cap) = is_any_held objects
is_set_late objects _ = false

-- the device doesn't let its driver set the capability
abbrev pub is_set_refused : CapsParts → Command → Bool
is_set_refused caps (CapSet cap) = is_some (cap_fault caps cap)
is_set_refused caps _ = false

-- ---- an object by its type and id

-- an object of the type is held under the id
abbrev pub is_held : FlowObjects → ℕ → ℕ → Bool
is_held objects type_code id =
    if type_code == group_type then is_some (object_under objects.groups id)
    else if type_code == classifier_type then is_some (object_under objects.classifiers id)
    else if type_code == rule_type then is_some (object_under objects.rules id)
    else false

-- a rule names the group or the classifier with the id; no object names a rule
abbrev pub is_named_by_rule : FlowObjects → ℕ → ℕ → Bool
is_named_by_rule objects type_code id =
    if type_code == group_type then names_group objects id
    else if type_code == classifier_type then names_classifier objects id
    else false

-- a create of an object that is held
abbrev pub is_id_taken : FlowObjects → Command → Bool
is_id_taken objects (Create head object) = is_held objects (type_of object) head.id
is_id_taken objects _ = false

-- a create where there are at least as many objects of the type as the driver's limit
abbrev pub is_limit_reached : DriverParts → FlowObjects → Command → Bool
is_limit_reached driver objects (Create head (Group _)) = nat_le driver.limits.groups (length objects.groups)
is_limit_reached driver objects (Create head (Classifier _)) =
    nat_le driver.limits.classifiers (length objects.classifiers)
is_limit_reached driver objects (Create head (Rule _)) = nat_le driver.limits.rules (length objects.rules)
is_limit_reached driver objects _ = false

-- a modify, a query or a destroy of an object that isn't held
abbrev pub is_missing : FlowObjects → Command → Bool
is_missing objects (Modify head object) = not (is_held objects (type_of object) head.id)
is_missing objects (Query head) = not (is_held objects head.type_code head.id)
is_missing objects (Destroy head) = not (is_held objects head.type_code head.id)
is_missing objects _ = false

-- a destroy of a group or a classifier, or a modify of a classifier, that a rule names
abbrev pub is_needed : FlowObjects → Command → Bool
is_needed objects (Modify head (Classifier list)) = names_classifier objects head.id
is_needed objects (Destroy head) = is_named_by_rule objects head.type_code head.id
is_needed objects _ = false

-- ---- the content of an object that a create or a modify gives

-- the list has too many entries, or one that is no selector
abbrev pub is_list_odd : RawList → Bool
is_list_odd (raw_list.Good _) = false
is_list_odd raw_list.Odd = true

-- the selectors of a list; one that is odd has none
abbrev pub selectors_in : RawList → List SelectorParts
selectors_in (raw_list.Good list) = list.items
selectors_in raw_list.Odd = []

-- content of a classifier: a list of good shape, of selectors that the driver's capability has.
abbrev pub classifier_rows : DriverParts → RawList → List Row
classifier_rows driver list =
    (is_list_odd list, invalid_field)
    ∷ (is_some (shape_fault (selectors_in list)), invalid_field)
    ∷ (not (are_supported driver.limits.selectors driver.selectors (selectors_in list)), invalid_field)
    ∷ []

-- the key has more bytes than any classifier's
abbrev pub is_key_odd : RawKey → Bool
is_key_odd (raw_key.Good _) = false
is_key_odd raw_key.Odd = true

-- the key has another length than the key size of the classifier that the rule names
abbrev pub is_key_wrong : FlowObjects → RawRule → Bool
is_key_wrong objects rule =
    not (length (key_bytes rule.key) == option_map_or key_size (object_under objects.classifiers rule.classifier) 0)

-- an action that queues goes to no receive virtqueue
abbrev pub is_queue_wrong : ℕ → RawRule → Bool
is_queue_wrong pairs rule = (rule.action == queue_action) && not (is_receive_queue pairs rule.vq)

-- what may be wrong with the content of a rule, in the order in which it is looked at
pub record RuleFaults : Type 0 where
  pub key_odd : Bool
  pub group_missing : Bool
  pub classifier_missing : Bool
  pub priority_too_great : Bool
  pub key_wrong : Bool
  pub action_unset : Bool
  pub queue_wrong : Bool
  pub group_full : Bool

-- of the rule that is to be held under an id
abbrev pub rule_faults : CapsParts → DriverParts → FlowObjects → ℕ → RawRule → RuleFaults
rule_faults caps driver objects id rule = record {
  key_odd = is_key_odd rule.key;
  group_missing = not (is_some (object_under objects.groups rule.group));
  classifier_missing = not (is_some (object_under objects.classifiers rule.classifier));
  priority_too_great = nat_lt driver.limits.last_priority rule.priority;
  key_wrong = is_key_wrong objects rule;
  action_unset = not (is_action_set driver rule.action);
  queue_wrong = is_queue_wrong caps.pairs rule;
  group_full = nat_le driver.limits.per_group (other_rules_in_group objects id rule.group);
}

abbrev pub rule_rows : RuleFaults → List Row
rule_rows faults =
    (faults.key_odd, invalid_field)
    ∷ (faults.group_missing, no_object)
    ∷ (faults.classifier_missing, no_object)
    ∷ (faults.priority_too_great, invalid_field)
    ∷ (faults.key_wrong, invalid_field)
    ∷ (faults.action_unset, invalid_field)
    ∷ (faults.queue_wrong, invalid_field)
    ∷ (faults.group_full, no_space)
    ∷ []

-- Content of a group: another has its priority.
abbrev pub group_rows : FlowObjects → ℕ → ℕ → List Row
group_rows objects id priority = (is_priority_taken objects id priority, invalid_field) ∷ []

-- the content of the object that is to be held under an id
abbrev pub content_rows : CapsParts → DriverParts → FlowObjects → ℕ → ObjData → List Row
content_rows caps driver objects id (Group priority) = group_rows objects id priority
content_rows caps driver objects id (Classifier list) = classifier_rows driver list
content_rows caps driver objects id (Rule rule) = rule_rows (rule_faults caps driver objects id rule)
content_rows caps driver objects id Other = []

-- the content of the object that a create or a modify gives
abbrev pub given_rows : CapsParts → DriverParts → FlowObjects → Command → List Row
given_rows caps driver objects (Create head object) = content_rows caps driver objects head.id object
given_rows caps driver objects (Modify head object) = content_rows caps driver objects head.id object
given_rows caps driver objects _ = []

-- ---- the table

-- the rows on a command that is laid out
abbrev pub command_rows : CapsParts → DriverParts → FlowObjects → Command → List Row
command_rows caps driver objects command =
    (has_flags command, invalid_field)
    ∷ (is_unknown command, invalid_field)
    ∷ (has_other_opcode command, invalid_field)
    ∷ (is_set_late objects command, busy)
    ∷ (is_set_refused caps command, invalid_field)
    ∷ (is_id_taken objects command, already_there)
    ∷ (is_limit_reached driver objects command, no_space)
    ∷ (is_missing objects command, no_object)
    ∷ (is_needed objects command, busy)
    ∷ given_rows caps driver objects command

-- the rows on the command that was read, if one was
abbrev pub read_rows : DeviceState → Result Command WireErr → List Row
read_rows state (Ok command) = command_rows state.caps state.driver state.objects command
read_rows state (Err _) = []

-- the rows on bytes in a state
abbrev pub verdict_rows : DeviceState → List ℕ → List Row
verdict_rows state bytes =
    layout_rows state.in_use (opcode_of bytes) (command_of bytes) ++ read_rows state (command_of bytes)
