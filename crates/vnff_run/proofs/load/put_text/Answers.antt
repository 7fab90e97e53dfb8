use Rattle.vnff_base.proofs.Gathering.{writes_gathered, writes_lost}
use Rattle.vnff_base.proofs.Writing.{writes_stopped}
use Rattle.vnff_run.proofs.load.put_text.Goals as goal

pub returns-in_err-put_summary : goal.returns-in_err-put_summary
returns-in_err-put_summary g c = writes_stopped _ _ c.from_residual.ensures.1 (writes_lost c.requires c.in_err-put_summary.ensures)

pub returns : goal.returns
returns g c = writes_gathered _ c.finish.result c.requires c.in_ok-put_summary.ensures c.finish.ensures.written
