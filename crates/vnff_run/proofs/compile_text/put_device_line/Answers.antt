use Rattle.std.proofs.Common.{refl}
use Rattle.vnff_base.proofs.Writing.{stopped_before, writes_after, writes_stopped}
use Rattle.vnff_run.proofs.CompiledLines.{device_line_is, writes_as}
use Rattle.vnff_run.proofs.compile_text.put_device_line.Goals as goal

pub returns-in_err-put : goal.returns-in_err-put
returns-in_err-put g c =
    writes_as _ _ _ (device_line_is c.args.caps.now _ refl) (writes_stopped _ _ c.from_residual.ensures.1 (stopped_before c.in_err-put.ensures _))

pub returns-in_err-put_numbers : goal.returns-in_err-put_numbers
returns-in_err-put_numbers g c =
    writes_as _ _ _ (device_line_is c.args.caps.now _ c.device_numbers.ensures) (writes_after _ _ _ c.in_ok-put.ensures (writes_stopped _ _ c.from_residual-in_err-put_numbers.ensures.1 (stopped_before c.in_err-put_numbers.ensures _)))

pub returns : goal.returns
returns g c =
    writes_as _ _ _ (device_line_is c.args.caps.now _ c.device_numbers.ensures) (writes_after _ _ _ c.in_ok-put.ensures (writes_after _ _ _ c.in_ok-put_numbers.ensures c.put-2.ensures))
