use Rattle.std.proofs.Common.{Ok, Err}
use Rattle.std.specs.Prelude.{⊤}
use Rattle.vnff_base.proofs.Gathering.{lost_after, lost_before, took_more, writes_gathered, writes_lost}
use Rattle.vnff_base.proofs.Writing.{writes_stopped}
use Rattle.vnff_run.specs.Drain.{drain_text}
use Rattle.vnff_run.proofs.drain.put_text.Goals as goal

pub returns-in_err-last-clause-text : goal.returns-in_err-last-clause-text
unfolding drain_text
returns-in_err-last-clause-text g c =
    writes_stopped _ _ c.from_residual.ensures.1 (writes_lost c.requires.none (lost_before c.in_err-last.ensures.lines _))

pub returns-in_err-put_last_line-clause-text : goal.returns-in_err-put_last_line-clause-text
unfolding drain_text
returns-in_err-put_last_line-clause-text g c =
    rw (← c.in_ok-last.ensures.last) (writes_stopped _ _ c.from_residual-in_err-put_last_line.ensures.1 (writes_lost c.requires.none (lost_after c.in_ok-last.ensures.lines c.in_err-put_last_line.ensures)))

pub returns-in_err-finish-clause-text : goal.returns-in_err-finish-clause-text
unfolding drain_text
returns-in_err-finish-clause-text g c =
    rw (← c.in_ok-last.ensures.last) (writes_stopped _ _ c.from_residual-in_err-finish.ensures.1 (writes_gathered {A = ⊤} {E = ⊤} _ (Err tt) c.requires.none (took_more c.in_ok-last.ensures.lines c.in_ok-put_last_line.ensures) c.in_err-finish.ensures.written))

pub returns-clause-text : goal.returns-clause-text
unfolding drain_text
returns-clause-text g c =
    rw (← c.in_ok-last.ensures.last) (writes_gathered {A = ⊤} {E = ⊤} _ (Ok tt) c.requires.none (took_more c.in_ok-last.ensures.lines c.in_ok-put_last_line.ensures) c.in_ok-finish.ensures.written)
