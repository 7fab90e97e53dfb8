use Rattle.vnff_base.proofs.Writing.{stopped_before, writes_after, writes_stopped}
use Rattle.vnff_run.specs.CompileTexts.{compile_text}
use Rattle.vnff_run.proofs.compile_text.put_script.Goals as goal

pub returns-in_err-put_device : goal.returns-in_err-put_device
unfolding compile_text
returns-in_err-put_device g c =
    writes_stopped _ _ c.from_residual.ensures.1 (stopped_before c.in_err-put_device.ensures _)

pub returns-in_err-put_comments : goal.returns-in_err-put_comments
unfolding compile_text
returns-in_err-put_comments g c =
    writes_after _ _ _ c.in_ok-put_device.ensures (writes_stopped _ _ c.from_residual-in_err-put_comments.ensures.1 (stopped_before c.in_err-put_comments.ensures _))

pub returns : goal.returns
unfolding compile_text
returns g c =
    rw (← c.as_slice.ensures) (writes_after _ _ _ c.in_ok-put_device.ensures (writes_after _ _ _ c.in_ok-put_comments.ensures c.put_commands.ensures))
