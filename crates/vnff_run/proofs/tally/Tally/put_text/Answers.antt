use Rattle.vnff_base.proofs.Gathering.{lost_after, lost_before, took_more, writes_gathered, writes_lost}
use Rattle.vnff_base.proofs.Writing.{writes_stopped}
use Rattle.vnff_run.proofs.tally.Tally.put_text.Goals as goal

pub returns-in_err-put_queues : goal.returns-in_err-put_queues
returns-in_err-put_queues g c =
    writes_stopped _ _ c.from_residual.ensures.1 (writes_lost c.requires.none (lost_before c.in_err-put_queues.ensures _))

pub returns-in_err-put_drop_line : goal.returns-in_err-put_drop_line
returns-in_err-put_drop_line g c =
    writes_stopped _ _ c.from_residual-in_err-put_drop_line.ensures.1
    (writes_lost c.requires.none (lost_after c.in_ok-put_queues.ensures c.in_err-put_drop_line.ensures))

pub returns : goal.returns
returns g c =
    writes_gathered _ c.finish.result c.requires.none (took_more c.in_ok-put_queues.ensures c.in_ok-put_drop_line.ensures) c.finish.ensures.written
