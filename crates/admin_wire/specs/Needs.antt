-- How many bytes of data a command needs, and when each fault comes. Numbers that are cut count as 0 here, which never
-- hides that the data is cut (the order of faults is this project's own).
use Rattle.std.specs.Prelude.{◌≡◌, ◌≢◌, ℕ, zero, suc, ◌+◌, ◌<◌, List, length, drop, slice_index, Some, ◌==◌, if◌then◌else◌, Contains}
use Rattle.byte_numbers.specs.Numbers.{le16_at, le64_at}
use Rattle.admin_wire.specs.declared.error.WireErr.{WireErr}
use Rattle.admin_wire.specs.declared.error.WireErr.TheVariants as faults
use Rattle.admin_wire.specs.declared.opcode.Opcode.{Opcode}
use Rattle.admin_wire.specs.declared.opcode.Opcode.TheVariants.{ListQuery, ListUse, CapIds, CapGet, CapSet, Create, Modify, Query, Destroy}
use Rattle.admin_wire.specs.Codes.{header_size, self_group, self_member, bitmap_size, cap_head_size, head_size, bare_head_size, limits_cap, selectors_cap, actions_cap, limits_size, list_head_size, group_type, classifier_type, rule_type, group_size, rule_head_size}
use Rattle.admin_wire.specs.Headers.{opcode_of}
use Rattle.admin_wire.specs.Lists.{entry_len}
use Rattle.admin_wire.specs.Opcodes.{code_of, opcode_codes}

-- so many entries, each as long as its own length byte says
abbrev pub entries_size : ℕ → List ℕ → ℕ
entries_size zero bytes = 0
entries_size (suc count) bytes = entry_len bytes + entries_size count (drop (entry_len bytes) bytes)

-- a list of selectors, with as many entries as its count byte says
abbrev pub list_size : List ℕ → ℕ
list_size bytes = list_head_size + entries_size (slice_index bytes 0) (drop list_head_size bytes)

-- a list of actions
abbrev pub actions_size : List ℕ → ℕ
actions_size bytes = list_head_size + slice_index bytes 0

-- a rule with its key
abbrev pub rule_size : List ℕ → ℕ
rule_size bytes = rule_head_size + slice_index bytes 9

-- the data of a capability with this id, and of an object of this type
abbrev pub cap_size : ℕ → List ℕ → ℕ
cap_size id bytes =
    if id == limits_cap then limits_size
    else if id == selectors_cap then list_size bytes
    else if id == actions_cap then actions_size bytes
    else 0

abbrev pub object_size : ℕ → List ℕ → ℕ
object_size type_code bytes =
    if type_code == group_type then group_size
    else if type_code == classifier_type then list_size bytes
    else if type_code == rule_type then rule_size bytes
    else 0

-- a head with its flags, and the object's data
abbrev pub object_needs : List ℕ → ℕ
object_needs bytes = head_size + object_size (le16_at bytes 0) (drop head_size bytes)

-- how many bytes behind the header a command needs, by its opcode
abbrev pub needs : Opcode → List ℕ → ℕ
needs ListQuery bytes = 0
needs ListUse bytes = bitmap_size
needs CapIds bytes = 0
needs CapGet bytes = cap_head_size
needs CapSet bytes = cap_head_size + cap_size (le16_at bytes 0) (drop cap_head_size bytes)
needs Create bytes = object_needs bytes
needs Modify bytes = object_needs bytes
needs Query bytes = head_size
needs Destroy bytes = bare_head_size

-- there is a header, and it has this opcode
abbrev pub HasOpcode : List ℕ → Opcode → Type 0
HasOpcode bytes opcode = opcode_of bytes ≡ Some (code_of opcode)

-- its group type and its member id are those of the device itself
abbrev pub IsForSelf : List ℕ → Type 0
IsForSelf bytes = (le16_at bytes 2 ≡ self_group) × (le64_at bytes 16 ≡ self_member)

-- when each fault is the first
abbrev pub IsFault : List ℕ → WireErr → Type 0
IsFault bytes faults.ShortHeader = length bytes < header_size
IsFault bytes (faults.Opcode n) = (opcode_of bytes ≡ Some n) × ¬ Contains opcode_codes n
IsFault bytes (faults.Group n) = (opcode : Opcode) × HasOpcode bytes opcode × (le16_at bytes 2 ≡ n) × (n ≢ self_group)
IsFault bytes (faults.Member n) =
    (opcode : Opcode) × HasOpcode bytes opcode × (le16_at bytes 2 ≡ self_group)
    × (le64_at bytes 16 ≡ n) × (n ≢ self_member)
IsFault bytes faults.ShortData =
    (opcode : Opcode) × HasOpcode bytes opcode × IsForSelf bytes
    × (length (drop header_size bytes) < needs opcode (drop header_size bytes))
