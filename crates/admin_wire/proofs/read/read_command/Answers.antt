use Rattle.std.proofs.Common.{◌∙◌, sym, arith}
use Rattle.admin_wire.proofs.CommandLaws.{command_laid_out, laid_out_from_read, opcode_if_read}
use Rattle.admin_wire.proofs.FaultLaws.{fault_from_read, read_from_fault}
use Rattle.admin_wire.proofs.read.read_command.Goals as goal

pub returns-clause-laid_out : goal.returns-clause-laid_out
returns-clause-laid_out c = λ command has_layout. (
  λ read. laid_out_from_read c.args.bytes.now command (record { below = λ i. omega (arith, c.type_inv.bytes i) }) has_layout
      (sym c.command_of.ensures ∙ read),
  λ laid_out. c.command_of.ensures ∙ command_laid_out c.args.bytes.now command has_layout laid_out,
)

pub returns-clause-opcode : goal.returns-clause-opcode
returns-clause-opcode c = opcode_if_read c.args.bytes.now c.command_of.result c.command_of.ensures

pub returns-clause-refused : goal.returns-clause-refused
returns-clause-refused c = λ fault. (
  λ read. fault_from_read c.args.bytes.now fault (sym c.command_of.ensures ∙ read),
  λ is. c.command_of.ensures ∙ read_from_fault c.args.bytes.now fault is,
)
