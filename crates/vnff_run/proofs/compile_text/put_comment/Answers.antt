use Rattle.vnff_base.proofs.Writing.{stopped_before, writes_after, writes_stopped}
use Rattle.vnff_run.specs.CompileTexts.{comment_line}
use Rattle.vnff_run.proofs.compile_text.put_comment.Goals as goal

pub returns-in_err-put : goal.returns-in_err-put
unfolding comment_line
returns-in_err-put g c = writes_stopped _ _ c.from_residual.ensures.1 (stopped_before c.in_err-put.ensures _)

pub returns-in_err-put_spec : goal.returns-in_err-put_spec
unfolding comment_line
returns-in_err-put_spec g c =
    writes_after _ _ _ c.in_ok-put.ensures (writes_stopped _ _ c.from_residual-in_err-put_spec.ensures.1 (stopped_before c.in_err-put_spec.ensures.written _))

pub returns : goal.returns
unfolding comment_line
returns g c =
    writes_after _ _ _ c.in_ok-put.ensures (writes_after _ _ _ c.in_ok-put_spec.ensures.written c.put-2.ensures)
