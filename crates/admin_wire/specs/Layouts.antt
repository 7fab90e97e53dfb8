-- The layout of a command the other way round, from the command to its bytes, field by field (Virtio 1.4 draft, "Group
-- administration commands", "Device resource objects" and "Flow filters"; linux/virtio_net_ff.h).
use Rattle.std.specs.Prelude.{ℕ, List, [], ◌∷◌, ◌++◌, length, if◌then◌else◌}
use Rattle.std.specs.List.{flat_map}
use Rattle.std.specs.Int.{w8, w16, w32, w64}
use Rattle.ff_headers.specs.Kinds.{kind_code}
use Rattle.ff_headers.specs.SelectorParts.{SelectorParts}
use Rattle.ff_headers.specs.declared.limits.Limits.{Limits}
use Rattle.admin_wire.specs.declared.command.CapData.{CapData}
use Rattle.admin_wire.specs.declared.command.CapData.TheVariants as caps
use Rattle.admin_wire.specs.declared.command.Command.{Command}
use Rattle.admin_wire.specs.declared.command.Command.TheVariants.{ListQuery, ListUse, CapIds, CapGet, CapSet, Create, Modify, Query, Destroy}
use Rattle.admin_wire.specs.declared.command.ObjData.{ObjData}
use Rattle.admin_wire.specs.declared.command.ObjData.TheVariants.{Group, Classifier, Rule, Other}
use Rattle.admin_wire.specs.declared.command.ObjHead.{ObjHead}
use Rattle.admin_wire.specs.declared.command.RawActions.{RawActions}
use Rattle.admin_wire.specs.declared.command.RawKey.{RawKey}
use Rattle.admin_wire.specs.declared.command.RawKey.TheVariants as keys
use Rattle.admin_wire.specs.declared.command.RawList.{RawList}
use Rattle.admin_wire.specs.declared.command.RawList.TheVariants as lists
use Rattle.admin_wire.specs.declared.command.RawRule.{RawRule}
use Rattle.admin_wire.specs.declared.opcode.Opcode.{Opcode}
use Rattle.admin_wire.specs.declared.opcode.Opcode.TheVariants as opcodes
use Rattle.admin_wire.specs.Codes.{self_group, self_member, limits_cap, selectors_cap, actions_cap, drop_action, queue_action}
use Rattle.admin_wire.specs.Fields.{Field, number, reserved, raw, written}
use Rattle.admin_wire.specs.Opcodes.{code_of}

-- the opcode of a command
abbrev pub opcode_for : Command → Opcode
opcode_for ListQuery = opcodes.ListQuery
opcode_for (ListUse bitmap) = opcodes.ListUse
opcode_for CapIds = opcodes.CapIds
opcode_for (CapGet id) = opcodes.CapGet
opcode_for (CapSet cap) = opcodes.CapSet
opcode_for (Create head object) = opcodes.Create
opcode_for (Modify head object) = opcodes.Modify
opcode_for (Query head) = opcodes.Query
opcode_for (Destroy head) = opcodes.Destroy

-- the header: opcode, group type, member id
abbrev pub header_fields : Opcode → List Field
header_fields opcode = number w16 (code_of opcode) ∷ number w16 self_group ∷ reserved 12 ∷ number w64 self_member ∷ []

-- ---- selectors

-- type, flags, length and mask
abbrev pub selector_fields : SelectorParts → List Field
selector_fields s =
    number w8 (kind_code s.kind) ∷ number w8 s.flags ∷ reserved 2 ∷ number w8 (length s.mask) ∷ reserved 3
    ∷ raw s.mask ∷ []

-- count and selectors; an odd list has no layout of its own
abbrev pub list_fields : RawList → List Field
list_fields (lists.Good list) = number w8 (length list.items) ∷ reserved 7 ∷ flat_map selector_fields list.items
list_fields lists.Odd = []

-- ---- resource objects

-- type, id, flags; and the same without flags
abbrev pub head_fields : ObjHead → List Field
head_fields head = number w16 head.type_code ∷ reserved 2 ∷ number w32 head.id ∷ number w64 head.flags ∷ []

abbrev pub bare_head_fields : ObjHead → List Field
bare_head_fields head = number w16 head.type_code ∷ reserved 2 ∷ number w32 head.id ∷ []

-- a rule's fields before its key, and the key
abbrev pub rule_fields : RawRule → List ℕ → List Field
rule_fields rule key =
    number w32 rule.group ∷ number w32 rule.classifier ∷ number w8 rule.priority ∷ number w8 (length key)
    ∷ number w8 rule.action ∷ reserved 1 ∷ number w16 rule.vq ∷ reserved 2 ∷ raw key ∷ []

-- the bytes of a key; an odd key has none of its own
abbrev pub key_bytes : RawKey → List ℕ
key_bytes (keys.Good key) = key.items
key_bytes keys.Odd = []

-- the data of an object
abbrev pub object_fields : ObjData → List Field
object_fields (Group priority) = number w16 priority ∷ []
object_fields (Classifier list) = list_fields list
object_fields (Rule rule) = rule_fields rule (key_bytes rule.key)
object_fields Other = []

-- ---- capabilities

-- the id of the capability that is set
abbrev pub cap_id : CapData → ℕ
cap_id (caps.Limits limits) = limits_cap
cap_id (caps.Selectors list) = selectors_cap
cap_id (caps.Actions actions) = actions_cap
cap_id (caps.Other id) = id

abbrev pub cap_head_fields : ℕ → List Field
cap_head_fields id = number w16 id ∷ reserved 6 ∷ []

-- groups, classifiers, rules, rules per group, last rule priority, selectors per classifier
abbrev pub limits_fields : Limits → List Field
limits_fields limits =
    number w32 limits.groups ∷ number w32 limits.classifiers ∷ number w32 limits.rules ∷ number w32 limits.per_group
    ∷ number w8 limits.last_priority ∷ number w8 limits.selectors ∷ []

-- count and action bytes
abbrev pub actions_fields : List ℕ → List Field
actions_fields given = number w8 (length given) ∷ reserved 7 ∷ raw given ∷ []

-- the action bytes that are written: drop before queue (this project's own)
abbrev pub action_bytes : RawActions → List ℕ
action_bytes actions =
    (if actions.drop then drop_action ∷ [] else []) ++ (if actions.queue then queue_action ∷ [] else [])

-- the data of a capability
abbrev pub cap_fields : CapData → List Field
cap_fields (caps.Limits limits) = limits_fields limits
cap_fields (caps.Selectors list) = list_fields list
cap_fields (caps.Actions actions) = actions_fields (action_bytes actions)
cap_fields (caps.Other id) = []

-- ---- commands

-- what follows the header
abbrev pub data_fields : Command → List Field
data_fields ListQuery = []
data_fields (ListUse bitmap) = number w64 bitmap ∷ []
data_fields CapIds = []
data_fields (CapGet id) = cap_head_fields id
data_fields (CapSet cap) = cap_head_fields (cap_id cap) ++ cap_fields cap
data_fields (Create head object) = head_fields head ++ object_fields object
data_fields (Modify head object) = head_fields head ++ object_fields object
data_fields (Query head) = head_fields head
data_fields (Destroy head) = bare_head_fields head

abbrev pub command_fields : Command → List Field
command_fields command = header_fields (opcode_for command) ++ data_fields command

-- the bytes of a command, with 0 in reserved bytes and nothing behind its data
abbrev pub command_bytes : Command → List ℕ
command_bytes command = written (command_fields command)
