-- What a command is answered with where no row of the verdict table holds, and what it changes. Results are those of
-- the Virtio 1.4 draft's commands (group administration commands, device capabilities, resource objects); an object's
-- bytes are laid out as in the command that creates it.
use Rattle.std.specs.Prelude.{⊤, ℕ, ◌==◌, if◌then◌else◌, nat_lt, List, [], Option, Some, None, Result, Ok, Err}
use Rattle.std.specs.List.{flat_map}
use Rattle.std.specs.Option.{option_map_or}
use Rattle.std.specs.Int.{w64, to_le_bytes}
use Rattle.std.specs.Int.Bits.{bit_or}
use Rattle.ff_headers.specs.SelectorParts.{SelectorParts}
use Rattle.ff_headers.specs.RuleParts.{RuleParts}
use Rattle.ff_headers.specs.Objects.{FlowObjects, object_under}
use Rattle.ff_headers.specs.declared.rule.RuleAction.{RuleAction}
use Rattle.ff_headers.specs.declared.rule.RuleAction.TheVariants.{Drop, Queue}
use Rattle.ff_headers.specs.declared.change.Change.{Change}
use Rattle.ff_headers.specs.declared.change.Change.TheVariants.{PutGroup, DropGroup, PutClassifier, DropClassifier, PutRule, DropRule}
use Rattle.admin_wire.specs.declared.command.Command.{Command}
use Rattle.admin_wire.specs.declared.command.Command.TheVariants.{ListQuery, ListUse, CapIds, CapGet, CapSet, Create, Modify, Query, Destroy}
use Rattle.admin_wire.specs.declared.command.ObjHead.{ObjHead}
use Rattle.admin_wire.specs.declared.command.ObjData.{ObjData}
use Rattle.admin_wire.specs.declared.command.ObjData.TheVariants.{Group, Classifier, Rule, Other}
use Rattle.admin_wire.specs.declared.command.RawRule.{RawRule}
use Rattle.admin_wire.specs.declared.command.RawList.TheVariants as raw_list
use Rattle.admin_wire.specs.declared.command.RawKey.TheVariants as raw_key
use Rattle.admin_wire.specs.declared.error.WireErr.{WireErr}
use Rattle.admin_wire.specs.declared.reply.Reply.{Reply}
use Rattle.admin_wire.specs.Codes.{drop_action, queue_action, group_type, classifier_type, rule_type}
use Rattle.admin_wire.specs.Fields.{written}
use Rattle.admin_wire.specs.Layouts.{key_bytes, object_fields}
use Rattle.admin_wire.specs.Wire.{command_of}
use Rattle.cap_table.specs.Caps.{CapsParts, DriverParts}
use Rattle.cap_table.specs.CapSets.{with_cap}
use Rattle.cap_table.specs.CapResults.{list_words, cap_result}
use Rattle.cap_table.specs.States.{DeviceState, all_opcodes, first_opcodes}
use Rattle.cap_table.specs.Verdicts.{first_verdict, read_rows, verdict_rows, selectors_in}
use Rattle.cap_table.specs.declared.verdict.Verdict.{Verdict}
use Rattle.cap_table.specs.declared.answer.Answer.{Answer}
use Rattle.cap_table.specs.declared.answer.Effect.{Effect}
use Rattle.cap_table.specs.declared.answer.Effect.TheVariants as effects

-- ---- changes

-- the action of an action byte that is set
abbrev pub action_of_byte : ℕ → RuleAction
action_of_byte action = if action == drop_action then Drop else Queue

-- the rule that is laid out
abbrev pub rule_parts : RawRule → RuleParts
rule_parts rule = record {
  group = rule.group;
  classifier = rule.classifier;
  priority = rule.priority;
  action = action_of_byte rule.action;
  vq = rule.vq;
  key = key_bytes rule.key;
}

-- the put of an object under an id
abbrev pub put_of : ℕ → ObjData → Option Change
put_of id (Group priority) = Some (PutGroup id priority)
put_of id (Classifier list) = Some (PutClassifier id (selectors_in list))
put_of id (Rule rule) = Some (PutRule id (rule_parts rule))
put_of id Other = None

-- the drop of the object of a type and id
abbrev pub drop_of : ℕ → ℕ → Option Change
drop_of type_code id =
    if type_code == group_type then Some (DropGroup id)
    else if type_code == classifier_type then Some (DropClassifier id)
    else if type_code == rule_type then Some (DropRule id)
    else None

-- the change to the objects that a command makes where no row holds
abbrev pub change_of : Command → Option Change
change_of (Create head object) = put_of head.id object
change_of (Modify head object) = put_of head.id object
change_of (Destroy head) = drop_of head.type_code head.id
change_of _ = None

-- the command creates, modifies or destroys an object
abbrev pub ChangesObjects : Command → Type 0
ChangesObjects (Create head object) = ⊤
ChangesObjects (Modify head object) = ⊤
ChangesObjects (Destroy head) = ⊤
ChangesObjects _ = ⊥

-- the change as an effect
abbrev pub effect_with : Option Change → Effect
effect_with None = effects.Nothing
effect_with (Some change) = effects.Change change

-- the opcodes that are in use after a list use: those of its bitmap, and the two that always are
abbrev pub opcodes_used : ℕ → ℕ
opcodes_used bitmap = bit_or bitmap first_opcodes

-- what a command changes where no row holds
abbrev pub effect_for : DriverParts → Command → Effect
effect_for driver (ListUse bitmap) = effects.Use (opcodes_used bitmap)
effect_for driver (CapSet cap) = effects.Caps (with_cap driver cap)
effect_for driver command = effect_with (change_of command)

-- ---- results

-- the byte of an action
abbrev pub byte_of_action : RuleAction → ℕ
byte_of_action Drop = drop_action
byte_of_action Queue = queue_action

-- a classifier, and a rule, as the data that lays it out
abbrev pub classifier_data : List SelectorParts → ObjData
classifier_data selectors = Classifier (raw_list.Good (record { items = selectors }))

abbrev pub rule_data : RuleParts → ObjData
rule_data rule = Rule (record {
  group = rule.group;
  classifier = rule.classifier;
  priority = rule.priority;
  action = byte_of_action rule.action;
  vq = rule.vq;
  key = raw_key.Good (record { items = rule.key });
})

-- the data of the object that is held under an id
abbrev pub object_data : FlowObjects → ℕ → ℕ → ObjData
object_data objects type_code id =
    if type_code == group_type then option_map_or (λ priority. Group priority) (object_under objects.groups id) Other
    else if type_code == classifier_type then option_map_or classifier_data (object_under objects.classifiers id) Other
    else if type_code == rule_type then option_map_or rule_data (object_under objects.rules id) Other
    else Other

-- the bytes of that object, with 0 in reserved ones
abbrev pub object_bytes : FlowObjects → ObjHead → List ℕ
object_bytes objects head = written (object_fields (object_data objects head.type_code head.id))

-- the bytes of the capability with an id
abbrev pub cap_bytes : CapsParts → ℕ → List ℕ
cap_bytes caps id = option_map_or (λ bytes. bytes.items) (cap_result caps id) []

-- what a command is told where no row holds
abbrev pub result_for : CapsParts → FlowObjects → Command → List ℕ
result_for caps objects ListQuery = to_le_bytes w64 all_opcodes
result_for caps objects CapIds = flat_map (to_le_bytes w64) list_words
result_for caps objects (CapGet id) = cap_bytes caps id
result_for caps objects (Query head) = object_bytes objects head
result_for caps objects _ = []

-- ---- answers

-- a reply that has no result
abbrev pub bare_reply : ℕ → ℕ → Reply
bare_reply status qualifier = record { status = status; qualifier = qualifier; result = record { items = [] } }

-- a refusal has no result and no effect
abbrev pub refused : Verdict → Answer
refused verdict = record { reply = bare_reply verdict.status verdict.qualifier; effect = effects.Nothing }

-- the reply to a command that is obeyed: status and qualifier are 0, and the result is what it is told
abbrev pub telling : List ℕ → Reply
telling told = record { status = 0; qualifier = 0; result = record { items = told } }

-- a command is obeyed
abbrev pub obeyed : List ℕ → Effect → Answer
obeyed told effect = record { reply = telling told; effect = effect }

-- the answer to a command against which no row holds
abbrev pub obeyed_command : CapsParts → DriverParts → FlowObjects → Command → Answer
obeyed_command caps driver objects command = obeyed (result_for caps objects command) (effect_for driver command)

-- the answer where no row holds
abbrev pub accepted : DeviceState → Result Command WireErr → Answer
accepted state (Ok command) = obeyed_command state.caps state.driver state.objects command
accepted state (Err _) = obeyed [] effects.Nothing

-- the verdict, or else another answer
abbrev pub refused_or : Option Verdict → Answer → Answer
refused_or (Some verdict) answer = refused verdict
refused_or None answer = answer

-- the answer to a command that is laid out and whose opcode is in use
abbrev pub answer_to : DeviceState → Command → Answer
answer_to state command = refused_or (first_verdict (read_rows state (Ok command))) (accepted state (Ok command))

-- the answer to bytes, whatever room there is for it
unfoldable pub answer_of : DeviceState → List ℕ → Answer
answer_of state bytes = refused_or (first_verdict (verdict_rows state bytes)) (accepted state (command_of bytes))

-- the verdict on bytes: no answer where the room holds none
unfoldable pub verdict_of : DeviceState → List ℕ → ℕ → Option Answer
verdict_of state bytes room = if nat_lt room 8 then None else Some (answer_of state bytes)
