-- Each item is written after those before it.
use Rattle.std.proofs.Common.{arith}
use Rattle.vnff_base.proofs.Writing.{wrote_item, stopped_item, writes_stopped}
use Rattle.vnff_run.specs.CompileTexts.{command_line}
use Rattle.vnff_run.proofs.compile_text.put_commands.Goals as goal

pub returns-in_err-put_command_line : goal.returns-in_err-put_command_line
returns-in_err-put_command_line g c =
    writes_stopped _ _ c.from_residual.ensures.1 (stopped_item command_line c.args.commands.now c.loop-command.command-index c.command-item.result c.command-item.result (omega arith) c.command-item.is c.loop-command.invariant c.in_err-put_command_line.ensures)

pub loop-command-preserved : goal.loop-command-preserved
loop-command-preserved g c =
    wrote_item command_line c.args.commands.now c.loop-command.command-index c.command-item.result c.command-item.result (omega arith) c.command-item.is c.loop-command.invariant c.in_ok-put_command_line.ensures
