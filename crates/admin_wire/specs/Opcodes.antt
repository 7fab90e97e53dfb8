-- The opcodes (Virtio 1.4 draft, "Group administration commands" and "Device resource objects").
use Rattle.std.specs.Prelude.{ℕ, List, [], ◌∷◌, Option, map, ◌==◌}
use Rattle.std.specs.List.{find}
use Rattle.admin_wire.specs.declared.opcode.Opcode.{Opcode}
use Rattle.admin_wire.specs.declared.opcode.Opcode.TheVariants.{ListQuery, ListUse, CapIds, CapGet, CapSet, Create, Modify, Query, Destroy}

-- the number of each: VIRTIO_ADMIN_CMD_LIST_QUERY, .._LIST_USE, .._CAP_ID_LIST_QUERY, .._DEVICE_CAP_GET,
-- .._DRIVER_CAP_SET, .._RESOURCE_OBJ_CREATE, .._RESOURCE_OBJ_MODIFY, .._RESOURCE_OBJ_QUERY, .._RESOURCE_OBJ_DESTROY
abbrev pub code_of : Opcode → ℕ
code_of ListQuery = 0x0
code_of ListUse = 0x1
code_of CapIds = 0x7
code_of CapGet = 0x8
code_of CapSet = 0x9
code_of Create = 0xa
code_of Modify = 0xb
code_of Query = 0xc
code_of Destroy = 0xd

-- all nine, and their numbers
abbrev pub opcodes : List Opcode
opcodes = ListQuery ∷ ListUse ∷ CapIds ∷ CapGet ∷ CapSet ∷ Create ∷ Modify ∷ Query ∷ Destroy ∷ []

abbrev pub opcode_codes : List ℕ
opcode_codes = map code_of opcodes

-- the opcode with this number
abbrev pub opcode_with : ℕ → Option Opcode
opcode_with code = find (λ opcode. code == code_of opcode) opcodes
