-- The header of a command (Virtio 1.4 draft, "Group administration commands"): le16 opcode, le16 group type, 12
-- reserved bytes, le64 member id. Which groups and members are accepted is this project's own.
use Rattle.std.specs.Prelude.{ℕ, List, length, Option, Some, None, Result, Ok, Err, ◌==◌, not, nat_lt, if◌then◌else◌}
use Rattle.std.specs.Option.{ok_or}
use Rattle.byte_numbers.specs.Numbers.{le16_at, le64_at}
use Rattle.admin_wire.specs.declared.opcode.Opcode.{Opcode}
use Rattle.admin_wire.specs.declared.error.WireErr.{WireErr}
use Rattle.admin_wire.specs.declared.error.WireErr.TheVariants as faults
use Rattle.admin_wire.specs.Codes.{header_size, self_group, self_member}
use Rattle.admin_wire.specs.Faults.{◌>>=◌}
use Rattle.admin_wire.specs.Opcodes.{opcode_with}

-- the number of the opcode, where there is a whole header
unfoldable pub opcode_of : List ℕ → Option ℕ
opcode_of bytes = if nat_lt (length bytes) header_size then None else Some (le16_at bytes 0)

-- the opcode that a header gives, or the header's first fault: it is cut, its opcode is none of the nine, its group
-- type or its member id isn't 0
unfoldable pub command_header : List ℕ → Result Opcode WireErr
command_header bytes = do
  code ← ok_or (opcode_of bytes) faults.ShortHeader
  opcode ← ok_or (opcode_with code) (faults.Opcode code)
  if not (le16_at bytes 2 == self_group) then Err (faults.Group (le16_at bytes 2))
      else if not (le64_at bytes 16 == self_member) then Err (faults.Member (le64_at bytes 16))
      else Ok opcode
