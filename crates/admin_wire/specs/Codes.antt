-- The numbers that a command's fields hold, and how many bytes each part of a layout takes (Virtio 1.4 draft, "Group
-- administration commands", "Device resource objects" and "Flow filters"; linux/virtio_net_ff.h). The sizes of the
-- parts of flow filters are this project's own.
use Rattle.std.specs.Prelude.{ℕ}

-- VIRTIO_ADMIN_GROUP_TYPE_SELF: the group of a device that is its own and only member
abbrev pub self_group : ℕ
self_group = 0x0000

-- the id of that member
abbrev pub self_member : ℕ
self_member = 0

-- VIRTIO_NET_RESOURCE_OBJ_FF_GROUP, .._CLASSIFIER and .._RULE: the types of resource objects
abbrev pub group_type : ℕ
group_type = 0x0200

abbrev pub classifier_type : ℕ
classifier_type = 0x0201

abbrev pub rule_type : ℕ
rule_type = 0x0202

-- VIRTIO_NET_FF_RESOURCE_CAP, VIRTIO_NET_FF_SELECTOR_CAP and VIRTIO_NET_FF_ACTION_CAP: the ids of capabilities
abbrev pub limits_cap : ℕ
limits_cap = 0x0800

abbrev pub selectors_cap : ℕ
selectors_cap = 0x0801

abbrev pub actions_cap : ℕ
actions_cap = 0x0802

-- VIRTIO_NET_FF_ACTION_DROP and VIRTIO_NET_FF_ACTION_RX_VQ: the action bytes
abbrev pub drop_action : ℕ
drop_action = 1

abbrev pub queue_action : ℕ
queue_action = 2

-- a command before its data: le16 opcode, le16 group type, 12 reserved bytes, le64 member id
abbrev pub header_size : ℕ
header_size = 24

-- the bitmap of opcodes that the driver is to use
abbrev pub bitmap_size : ℕ
bitmap_size = 8

-- a capability's id and 6 reserved bytes
abbrev pub cap_head_size : ℕ
cap_head_size = 8

-- a resource object's head: le16 type, 2 reserved bytes, le32 id; and with le64 flags
abbrev pub bare_head_size : ℕ
bare_head_size = 8

abbrev pub head_size : ℕ
head_size = 16

-- a set of limits: four le32 and two u8; the two reserved bytes behind them aren't needed
abbrev pub limits_size : ℕ
limits_size = 18

-- a list before its first entry: u8 count and 7 reserved bytes
abbrev pub list_head_size : ℕ
list_head_size = 8

-- a selector before its mask: u8 type, u8 flags, 2 reserved bytes, u8 length, 3 reserved bytes
abbrev pub entry_head_size : ℕ
entry_head_size = 8

-- a group: le16 priority
abbrev pub group_size : ℕ
group_size = 2

-- a rule before its key
abbrev pub rule_head_size : ℕ
rule_head_size = 16

-- the most selectors that a list can have: one of each type
abbrev pub most_selectors : ℕ
most_selectors = 5

-- the most bytes of a key, that of an Ethernet, an IPv6 and a TCP header
abbrev pub most_key_bytes : ℕ
most_key_bytes = 74

-- the most bytes of a command that this project's driver writes
abbrev pub most_command_bytes : ℕ
most_command_bytes = 256

-- a reply before its result: le16 status, le16 qualifier, 4 reserved bytes
abbrev pub reply_head_size : ℕ
reply_head_size = 8

-- the most bytes of a result, those of 33 le64; and of a reply with it
abbrev pub most_result_bytes : ℕ
most_result_bytes = 264

abbrev pub most_reply_bytes : ℕ
most_reply_bytes = 272
