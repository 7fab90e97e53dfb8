use Rattle.vnff_base.proofs.Gathering.{writes_gathered, writes_lost}
use Rattle.vnff_base.proofs.Writing.{writes_stopped}
use Rattle.vnff_run.proofs.live_text.put_text.Goals as goal

pub returns-in_err-put_lines : goal.returns-in_err-put_lines
returns-in_err-put_lines g c = writes_stopped _ _ c.from_residual.ensures.1 (writes_lost c.requires.none c.in_err-put_lines.ensures)

pub returns : goal.returns
returns g c = writes_gathered _ c.finish.result c.requires.none c.in_ok-put_lines.ensures c.finish.ensures.written
