use Rattle.std.proofs.Common.{◌∙◌, refl}
use Rattle.vnff_base.proofs.Writing.{stopped_before, writes_after, writes_stopped}
use Rattle.vnff_run.proofs.CompiledLines.{command_line_is, writes_as}
use Rattle.vnff_run.proofs.compile_text.put_command_line.Goals as goal

pub returns-in_err-put : goal.returns-in_err-put
returns-in_err-put g c =
    writes_as _ _ _ (command_line_is c.args.command.now _ refl) (writes_stopped _ _ c.from_residual.ensures.1 (stopped_before c.in_err-put.ensures _))

pub returns-in_err-hex_put : goal.returns-in_err-hex_put
returns-in_err-hex_put g c =
    writes_as _ _ _ (command_line_is c.args.command.now _ (c.as_slice.ensures.value ∙ c.put_command.ensures.bytes)) (writes_after _ _ _ c.in_ok-put.ensures (writes_stopped _ _ c.from_residual-in_err-hex_put.ensures.1 (stopped_before c.in_err-hex_put.ensures _)))

pub returns : goal.returns
returns g c =
    writes_as _ _ _ (command_line_is c.args.command.now _ (c.as_slice.ensures.value ∙ c.put_command.ensures.bytes)) (writes_after _ _ _ c.in_ok-put.ensures (writes_after _ _ _ c.in_ok-hex_put.ensures c.put-2.ensures))
