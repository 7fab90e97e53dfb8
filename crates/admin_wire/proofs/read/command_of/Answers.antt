use Rattle.std.proofs.Common.{◌≡◌, ℕ, ◌-◌, ◌∙◌, refl, List, length, take, drop, Ok}
use Rattle.std.proofs.lemmas.List.{take_rest}
use Rattle.admin_wire.specs.declared.opcode.Opcode.{Opcode}
use Rattle.admin_wire.specs.Headers.{command_header}
use Rattle.admin_wire.specs.Wire.{data_of, command_of}
use Rattle.admin_wire.proofs.read.command_of.Goals as goal

-- behind a header that is sound stands the opcode's data
behind_header : (bytes : List ℕ) (opcode : Opcode) → Ok opcode ≡ command_header bytes
    → data_of opcode (take (length bytes - 24) (drop 24 bytes)) ≡ command_of bytes
unfolding command_of
behind_header bytes opcode sound = rw (take_rest, ← sound) refl

pub returns : goal.returns
returns c = c.data_of.ensures ∙ behind_header c.args.bytes.now c.in_ok-opcode.opcode c.in_ok-opcode.ensures.value
