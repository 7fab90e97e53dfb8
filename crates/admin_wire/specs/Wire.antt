-- The layout of a command as a whole (Virtio 1.4 draft, "Group administration commands" and "Device resource
-- objects"): a header of 24 bytes, and the data that the opcode asks for. Reserved bytes are not looked at, and
-- neither are bytes past the data.
use Rattle.std.specs.Prelude.{◌≡◌, ℕ, List, length, drop, Result, Ok, Err, nat_lt, if◌then◌else◌}
use Rattle.byte_numbers.specs.Numbers.{le16_at, le64_at}
use Rattle.admin_wire.specs.declared.command.Command.{Command}
use Rattle.admin_wire.specs.declared.command.Command.TheVariants as commands
use Rattle.admin_wire.specs.declared.error.WireErr.{WireErr}
use Rattle.admin_wire.specs.declared.error.WireErr.TheVariants.{ShortData}
use Rattle.admin_wire.specs.declared.opcode.Opcode.{Opcode}
use Rattle.admin_wire.specs.declared.opcode.Opcode.TheVariants as opcodes
use Rattle.admin_wire.specs.Capabilities.{cap_of}
use Rattle.admin_wire.specs.Codes.{header_size, bitmap_size, cap_head_size, head_size, bare_head_size}
use Rattle.admin_wire.specs.Faults.{◌>>=◌}
use Rattle.admin_wire.specs.Headers.{command_header}
use Rattle.admin_wire.specs.Objects.{head_of, bare_head_of, head_and_object}

-- le64 bitmap
unfoldable pub list_use_of : List ℕ → Result Command WireErr
list_use_of bytes = if nat_lt (length bytes) bitmap_size then Err ShortData else Ok (commands.ListUse (le64_at bytes 0))

-- le16 id, 6 reserved bytes
unfoldable pub cap_get_of : List ℕ → Result Command WireErr
cap_get_of bytes = if nat_lt (length bytes) cap_head_size then Err ShortData else Ok (commands.CapGet (le16_at bytes 0))

-- a head with its flags; a head alone
unfoldable pub query_of : List ℕ → Result Command WireErr
query_of bytes = if nat_lt (length bytes) head_size then Err ShortData else Ok (commands.Query (head_of bytes))

unfoldable pub destroy_of : List ℕ → Result Command WireErr
destroy_of bytes =
    if nat_lt (length bytes) bare_head_size then Err ShortData else Ok (commands.Destroy (bare_head_of bytes))

-- the command of an opcode, from the bytes behind the header
unfoldable pub data_of : Opcode → List ℕ → Result Command WireErr
data_of opcodes.ListQuery bytes = Ok commands.ListQuery
data_of opcodes.ListUse bytes = list_use_of bytes
data_of opcodes.CapIds bytes = Ok commands.CapIds
data_of opcodes.CapGet bytes = cap_get_of bytes
data_of opcodes.CapSet bytes = do
  cap ← cap_of bytes
  Ok (commands.CapSet cap)
data_of opcodes.Create bytes = do
  parts ← head_and_object bytes
  Ok (commands.Create parts.0 parts.1)
data_of opcodes.Modify bytes = do
  parts ← head_and_object bytes
  Ok (commands.Modify parts.0 parts.1)
data_of opcodes.Query bytes = query_of bytes
data_of opcodes.Destroy bytes = destroy_of bytes

-- the command that the bytes lay out, or their first fault: that of the header, or that the data is cut
unfoldable pub command_of : List ℕ → Result Command WireErr
command_of bytes = do
  opcode ← command_header bytes
  data_of opcode (drop header_size bytes)

-- the bytes have the layout of the command
abbrev pub Reads : List ℕ → Command → Type 0
Reads bytes command = command_of bytes ≡ Ok command

-- the bytes have no layout, and this is their first fault
abbrev pub IsBad : List ℕ → WireErr → Type 0
IsBad bytes fault = command_of bytes ≡ Err fault
