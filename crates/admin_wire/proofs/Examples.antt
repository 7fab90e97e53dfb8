-- Bytes and what they read as, worked out by hand from the layouts.
use Rattle.std.proofs.Common.{◌≡◌, ℕ, true, false, List, [], ◌∷◌, ◌++◌, Some, None, Ok, Err, refl, replicate}
use Rattle.byte_numbers.specs.Numbers.{le16_at, le32_at, le64_at}
use Rattle.ff_headers.specs.declared.kind.Kind.TheVariants.{Eth}
use Rattle.ff_headers.specs.declared.limits.Limits.{Limits}
use Rattle.admin_wire.specs.declared.command.CapData.TheVariants as caps
use Rattle.admin_wire.specs.declared.command.Command.{Command}
use Rattle.admin_wire.specs.declared.command.Command.TheVariants.{ListQuery, ListUse, CapIds, CapGet, CapSet, Create, Modify, Query, Destroy}
use Rattle.admin_wire.specs.declared.command.ObjData.TheVariants.{Group, Classifier, Rule, Other}
use Rattle.admin_wire.specs.declared.command.ObjHead.{ObjHead}
use Rattle.admin_wire.specs.declared.command.RawKey.TheVariants as keys
use Rattle.admin_wire.specs.declared.command.RawList.TheVariants as lists
use Rattle.admin_wire.specs.declared.error.WireErr.TheVariants as faults
use Rattle.admin_wire.specs.Capabilities.{limits_of, selectors_data, raw_actions, actions_of, cap_data_of, cap_of}
use Rattle.admin_wire.specs.Headers.{opcode_of, command_header}
use Rattle.admin_wire.specs.Layouts.{command_bytes}
use Rattle.admin_wire.specs.Lists.{whole_entry, entries_of, selector_of, raw_list, list_of}
use Rattle.admin_wire.specs.Objects.{head_of, bare_head_of, group_of, classifier_of, raw_key, rule_of, object_of, head_and_object}
use Rattle.admin_wire.specs.Replies.{whole_reply, reply_bytes, reply_spelled}
use Rattle.admin_wire.specs.Wire.{list_use_of, cap_get_of, query_of, destroy_of, data_of, command_of, Reads, IsBad}

-- ---- parts

-- an opcode, group type 0, member 0
abbrev header : ℕ → List ℕ
header opcode = opcode ∷ replicate 23 0

-- the head of an object of type 0x200 + n and id i
abbrev bare_head : ℕ → ℕ → List ℕ
bare_head n i = n ∷ 2 ∷ 0 ∷ 0 ∷ i ∷ 0 ∷ 0 ∷ 0 ∷ []

-- the same with no flags
abbrev head : ℕ → ℕ → List ℕ
head n i = bare_head n i ++ replicate 8 0

abbrev object_head : ℕ → ℕ → ObjHead
object_head n i = record { type_code = n; id = i; flags = 0 }

-- a selector of type ETH with 14 mask bytes
abbrev entry : List ℕ → List ℕ
entry mask = 1 ∷ 0 ∷ 0 ∷ 0 ∷ 14 ∷ 0 ∷ 0 ∷ 0 ∷ mask

-- whole type field of the Ethernet header
abbrev type_mask : List ℕ
type_mask = replicate 12 0 ++ (255 ∷ 255 ∷ [])

-- group 1 with priority 5
abbrev group : Command
group = Create (object_head 0x200 1) (Group 5)

abbrev group_bytes : List ℕ
group_bytes = header 0xa ++ head 0 1 ++ (5 ∷ 0 ∷ [])

-- classifier 7 with one selector
abbrev classifier : Command
classifier = Create (object_head 0x201 7)
    (Classifier (lists.Good (record { items = record { kind = Eth; flags = 0; mask = type_mask } ∷ [] })))

abbrev classifier_bytes : List ℕ
classifier_bytes = header 0xa ++ head 1 7 ++ (1 ∷ replicate 7 0) ++ entry type_mask

-- rule 9 of group 1 and classifier 7, priority 0, that sends frames of type 0x0800 to virtqueue 2
abbrev rule : Command
rule = Create (object_head 0x202 9)
    (Rule (record {
      group = 1;
      classifier = 7;
      priority = 0;
      action = 2;
      vq = 2;
      key = keys.Good (record { items = replicate 12 0 ++ (8 ∷ 0 ∷ []) });
    }))

abbrev rule_bytes : List ℕ
rule_bytes =
    header 0xa ++ head 2 9 ++ (1 ∷ 0 ∷ 0 ∷ 0 ∷ 7 ∷ 0 ∷ 0 ∷ 0 ∷ 0 ∷ 14 ∷ 2 ∷ 0 ∷ 2 ∷ 0 ∷ 0 ∷ 0 ∷ replicate 12 0) ++ (8 ∷ 0 ∷ [])

abbrev few : Limits
few = record { groups = 2; classifiers = 4; rules = 0x0108; per_group = 8; last_priority = 15; selectors = 3 }

abbrev few_bytes : List ℕ
few_bytes = 2 ∷ 0 ∷ 0 ∷ 0 ∷ 4 ∷ 0 ∷ 0 ∷ 0 ∷ 8 ∷ 1 ∷ 0 ∷ 0 ∷ 8 ∷ 0 ∷ 0 ∷ 0 ∷ 15 ∷ 3 ∷ []

-- capability id 0x800 + n
abbrev cap : ℕ → List ℕ
cap n = n ∷ 8 ∷ replicate 6 0

-- ---- commands

list_query : Reads (header 0) ListQuery
unfolding command_of command_header opcode_of data_of le16_at le64_at
list_query = refl

list_use : Reads (header 1 ++ (0x83 ∷ 0x3f ∷ replicate 6 0)) (ListUse 0x3f83)
unfolding command_of command_header opcode_of data_of list_use_of le16_at le64_at
list_use = refl

cap_ids : Reads (header 7) CapIds
unfolding command_of command_header opcode_of data_of le16_at le64_at
cap_ids = refl

cap_get : Reads (header 8 ++ cap 1) (CapGet 0x801)
unfolding command_of command_header opcode_of data_of cap_get_of le16_at le64_at
cap_get = refl

-- 18 bytes of limits are enough
set_limits : Reads (header 9 ++ cap 0 ++ few_bytes) (CapSet (caps.Limits few))
unfolding command_of command_header opcode_of data_of cap_of cap_data_of limits_of le16_at le32_at le64_at
set_limits = refl

set_selectors : Reads (header 9 ++ cap 1 ++ (1 ∷ replicate 7 0) ++ entry type_mask)
    (CapSet (caps.Selectors (lists.Good (record { items = record { kind = Eth; flags = 0; mask = type_mask } ∷ [] }))))
unfolding command_of command_header opcode_of data_of cap_of cap_data_of selectors_data list_of whole_entry entries_of raw_list selector_of le16_at le64_at
set_selectors = refl

-- actions in any order, and a byte that is none
set_actions : Reads (header 9 ++ cap 2 ++ (2 ∷ replicate 7 0) ++ (2 ∷ 1 ∷ []))
    (CapSet (caps.Actions (record { drop = true; queue = true; other = false })))
unfolding command_of command_header opcode_of data_of cap_of cap_data_of actions_of raw_actions le16_at le64_at
set_actions = refl

other_action : actions_of (2 ∷ replicate 7 0 ++ (1 ∷ 3 ∷ [])) ≡ Ok (caps.Actions (record { drop = true; queue = false; other = true }))
unfolding actions_of raw_actions
other_action = refl

-- an unknown capability ends with its id
set_other : Reads (header 9 ++ cap 3) (CapSet (caps.Other 0x803))
unfolding command_of command_header opcode_of data_of cap_of cap_data_of le16_at le64_at
set_other = refl

create_group : Reads group_bytes group
unfolding command_of command_header opcode_of data_of head_and_object head_of object_of group_of le16_at le32_at le64_at
create_group = refl

create_classifier : Reads classifier_bytes classifier
unfolding command_of command_header opcode_of data_of head_and_object head_of object_of classifier_of list_of whole_entry entries_of raw_list selector_of le16_at le32_at le64_at
create_classifier = refl

create_rule : Reads rule_bytes rule
unfolding command_of command_header opcode_of data_of head_and_object head_of object_of rule_of raw_key le16_at le32_at le64_at
create_rule = refl

modify_group : Reads (header 0xb ++ head 0 1 ++ (5 ∷ 0 ∷ [])) (Modify (object_head 0x200 1) (Group 5))
unfolding command_of command_header opcode_of data_of head_and_object head_of object_of group_of le16_at le32_at le64_at
modify_group = refl

-- a query has flags
query_rule : Reads (header 0xc ++ bare_head 2 9 ++ (1 ∷ replicate 7 0)) (Query (record { type_code = 0x202; id = 9; flags = 1 }))
unfolding command_of command_header opcode_of data_of query_of head_of le16_at le32_at le64_at
query_rule = refl

-- a destroy has none, whatever follows its head
destroy_rule : Reads (header 0xd ++ bare_head 2 9 ++ (1 ∷ replicate 7 0)) (Destroy (object_head 0x202 9))
unfolding command_of command_header opcode_of data_of destroy_of bare_head_of le16_at le32_at le64_at
destroy_rule = refl

-- an object of unknown type ends with its flags
create_other : Reads (header 0xa ++ head 3 1) (Create (object_head 0x203 1) Other)
unfolding command_of command_header opcode_of data_of head_and_object head_of object_of le16_at le32_at le64_at
create_other = refl

-- numbers take all their bytes, and reserved bytes and what follows count for nothing
create_numbers : Reads
    ((10 ∷ 0 ∷ 0 ∷ 0 ∷ replicate 12 255 ++ replicate 8 0)
    ++ (0 ∷ 2 ∷ 255 ∷ 255 ∷ 1 ∷ 2 ∷ 3 ∷ 4 ∷ [] ++ (1 ∷ 2 ∷ 3 ∷ 4 ∷ 5 ∷ 6 ∷ 7 ∷ 8 ∷ []))
    ++ (1 ∷ 2 ∷ 255 ∷ 255 ∷ []))
    (Create (record { type_code = 0x200; id = 0x04030201; flags = 0x0807060504030201 }) (Group 0x0201))
unfolding command_of command_header opcode_of data_of head_and_object head_of object_of group_of le16_at le32_at le64_at
create_numbers = refl

-- ---- the bytes that are written

group_written : command_bytes group ≡ group_bytes
group_written = refl

classifier_written : command_bytes classifier ≡ classifier_bytes
classifier_written = refl

rule_written : command_bytes rule ≡ rule_bytes
rule_written = refl

limits_written : command_bytes (CapSet (caps.Limits few)) ≡ header 9 ++ cap 0 ++ few_bytes
limits_written = refl

-- drop before queue
actions_written : command_bytes (CapSet (caps.Actions (record { drop = true; queue = true; other = false })))
    ≡ header 9 ++ cap 2 ++ (2 ∷ replicate 7 0) ++ (1 ∷ 2 ∷ [])
actions_written = refl

destroy_written : command_bytes (Destroy (object_head 0x202 9)) ≡ header 0xd ++ bare_head 2 9
destroy_written = refl

-- ---- faults

-- a header that lacks one byte, whatever its opcode
short_header : IsBad (replicate 23 255) faults.ShortHeader
unfolding command_of command_header opcode_of
short_header = refl

-- the opcode comes before the group type, and that before the member id
unknown_opcode : IsBad (2 ∷ replicate 23 255) (faults.Opcode 0xff02)
unfolding command_of command_header opcode_of le16_at
unknown_opcode = refl

no_sixth_opcode : IsBad (header 6) (faults.Opcode 6)
unfolding command_of command_header opcode_of le16_at
no_sixth_opcode = refl

other_group : IsBad (13 ∷ 0 ∷ replicate 22 255) (faults.Group 0xffff)
unfolding command_of command_header opcode_of le16_at
other_group = refl

other_member : IsBad (0 ∷ replicate 15 0 ++ replicate 8 255) (faults.Member 0xffff_ffff_ffff_ffff)
unfolding command_of command_header opcode_of le16_at le64_at
other_member = refl

-- one byte is missing
short_limits : IsBad (header 9 ++ cap 0 ++ replicate 17 0) faults.ShortData
unfolding command_of command_header opcode_of data_of cap_of cap_data_of limits_of le16_at le64_at
short_limits = refl

short_cap : IsBad (header 9 ++ (3 ∷ 8 ∷ replicate 5 0)) faults.ShortData
unfolding command_of command_header opcode_of data_of cap_of le16_at le64_at
short_cap = refl

short_flags : IsBad (header 0xc ++ replicate 15 0) faults.ShortData
unfolding command_of command_header opcode_of data_of query_of le16_at le64_at
short_flags = refl

short_head : IsBad (header 0xd ++ replicate 7 0) faults.ShortData
unfolding command_of command_header opcode_of data_of destroy_of le16_at le64_at
short_head = refl

short_group : IsBad (header 0xa ++ head 0 1 ++ (5 ∷ [])) faults.ShortData
unfolding command_of command_header opcode_of data_of head_and_object head_of object_of group_of le16_at le32_at le64_at
short_group = refl

-- ---- lists, keys

-- a list that is cut is cut, also where it has too many entries or one of unknown type
short_list : list_of (1 ∷ replicate 7 0 ++ entry (replicate 13 0)) ≡ Err faults.ShortData
unfolding list_of whole_entry entries_of
short_list = refl

short_odd_list : list_of (6 ∷ replicate 7 0 ++ replicate 47 0) ≡ Err faults.ShortData
unfolding list_of whole_entry entries_of
short_odd_list = refl

-- six entries of unknown type and no mask
odd_list : list_of (6 ∷ replicate 7 0 ++ replicate 48 0) ≡ Ok lists.Odd
unfolding list_of whole_entry entries_of raw_list
odd_list = refl

-- a mask that is shorter than the header of its type
odd_mask : list_of (1 ∷ replicate 7 0 ++ (1 ∷ 0 ∷ 0 ∷ 0 ∷ 13 ∷ 0 ∷ 0 ∷ 0 ∷ replicate 13 0)) ≡ Ok lists.Odd
unfolding list_of whole_entry entries_of raw_list selector_of
odd_mask = refl

-- a list of no entries is good
empty_list : list_of (replicate 8 0) ≡ Ok (lists.Good (record { items = [] }))
unfolding list_of whole_entry entries_of raw_list
empty_list = refl

-- 75 key bytes must be there, and are too many
short_odd_key : rule_of (replicate 9 0 ++ (75 ∷ replicate 6 0) ++ replicate 74 0) ≡ Err faults.ShortData
unfolding rule_of
short_odd_key = refl

odd_key : raw_key (replicate 75 0) ≡ keys.Odd
unfolding raw_key
odd_key = refl

-- ---- replies

-- a reply with one byte of result, whole, cut, and where it has no room
reply_whole : reply_bytes (record { status = 22; qualifier = 3; result = record { items = 9 ∷ [] } }) 10
    ≡ 22 ∷ 0 ∷ 3 ∷ 0 ∷ 0 ∷ 0 ∷ 0 ∷ 0 ∷ 9 ∷ []
unfolding whole_reply
reply_whole = refl

reply_cut : reply_bytes (record { status = 0; qualifier = 0; result = record { items = 9 ∷ [] } }) 8 ≡ replicate 8 0
unfolding whole_reply
reply_cut = refl

reply_none : reply_bytes (record { status = 0; qualifier = 0; result = record { items = 9 ∷ [] } }) 7 ≡ []
reply_none = refl

-- reserved bytes count for nothing
reply_read : reply_spelled (22 ∷ 0 ∷ 3 ∷ 0 ∷ replicate 4 255 ++ (9 ∷ []))
    ≡ Some (record { status = 22; qualifier = 3; result = record { items = 9 ∷ [] } })
unfolding reply_spelled le16_at
reply_read = refl

too_few : reply_spelled (replicate 7 0) ≡ None
unfolding reply_spelled
too_few = refl

too_many : reply_spelled (replicate 273 0) ≡ None
unfolding reply_spelled
too_many = refl
