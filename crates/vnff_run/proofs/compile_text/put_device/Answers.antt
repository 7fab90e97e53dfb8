use Rattle.vnff_base.proofs.Writing.{stopped_before, writes_after, writes_stopped}
use Rattle.vnff_run.specs.CompileTexts.{device_text}
use Rattle.vnff_run.proofs.compile_text.put_device.Goals as goal

pub returns-in_err-put : goal.returns-in_err-put
unfolding device_text
returns-in_err-put g c = writes_stopped _ _ c.from_residual.ensures.1 (stopped_before c.in_err-put.ensures _)

pub returns-in_err-put_device_line : goal.returns-in_err-put_device_line
unfolding device_text
returns-in_err-put_device_line g c =
    writes_after _ _ _ c.in_ok-put.ensures (writes_stopped _ _ c.from_residual-in_err-put_device_line.ensures.1 (stopped_before c.in_err-put_device_line.ensures _))

pub returns : goal.returns
unfolding device_text
returns g c =
    writes_after _ _ _ c.in_ok-put.ensures (writes_after _ _ _ c.in_ok-put_device_line.ensures c.put_selectors.ensures)
