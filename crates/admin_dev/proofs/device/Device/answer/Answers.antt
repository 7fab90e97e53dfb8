use Rattle.std.proofs.Common.{◌≡◌, sym, ◌∙◌}
use Rattle.std.specs.Prelude.{Ok, Err}
use Rattle.admin_wire.specs.Wire.{command_of}
use Rattle.admin_dev.proofs.AnswerLemmas.{opcode_answer, fault_answer, command_answer}
use Rattle.admin_dev.proofs.device.Device.answer.Goals as goal

pub returns-then-is_unused : goal.returns-then-is_unused
returns-then-is_unused c =
    let unused = rw (c.read_command-read.ensures.exact, c.opcode_of.ensures) at (sym c.is_unused.ensures ∙ c.if-is_unused.true) in
    c.refused.ensures ∙ sym (opcode_answer c.args.self.now c.args.bytes.now unused)

pub returns-in-Ok : goal.returns-in-Ok
returns-in-Ok c =
    let read : command_of c.args.bytes.now ≡ Ok c.in-Ok.command = sym c.read_command-read.ensures.exact ∙ c.in-Ok.is in
    let used = rw (c.in-Ok.is, c.opcode_of.ensures) at (sym c.is_unused.ensures ∙ c.if-is_unused.false) in
    c.command_answer.ensures ∙ sym (command_answer c.args.self.now c.args.bytes.now c.in-Ok.command read used)

pub returns-in-Err : goal.returns-in-Err
returns-in-Err c =
    let read : command_of c.args.bytes.now ≡ Err c.in-Err.fault = sym c.read_command-read.ensures.exact ∙ c.in-Err.is in
    let used = rw (c.in-Err.is, c.opcode_of.ensures) at (sym c.is_unused.ensures ∙ c.if-is_unused.false) in
    c.refused-in-Err.ensures ∙ sym (fault_answer c.args.self.now c.args.bytes.now c.in-Err.fault _ read c.of_fault.ensures used)
