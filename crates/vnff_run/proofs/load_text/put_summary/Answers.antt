use Rattle.vnff_base.proofs.Gathering.{gathers_after, gathers_lost, lost_before}
use Rattle.vnff_run.specs.Loads.{summary_text}
use Rattle.vnff_run.proofs.load_text.put_summary.Goals as goal

pub returns-in_err-put_count_line : goal.returns-in_err-put_count_line
unfolding summary_text
returns-in_err-put_count_line g c =
    rw (← c.from.ensures) (gathers_lost _ _ _ c.from_residual.ensures.1 (lost_before c.in_err-put_count_line.ensures _))

pub returns-in_err-put_count_line-2 : goal.returns-in_err-put_count_line-2
unfolding summary_text
returns-in_err-put_count_line-2 g c =
    rw (← c.from.ensures) (gathers_after _ _ _ _ c.in_ok-put_count_line.ensures (gathers_lost _ _ _ c.from_residual-in_err-put_count_line-2.ensures.1 (lost_before c.in_err-put_count_line-2.ensures _)))

pub returns-in_err-put_count_line-3 : goal.returns-in_err-put_count_line-3
unfolding summary_text
returns-in_err-put_count_line-3 g c =
    rw (← c.from.ensures) (gathers_after _ _ _ _ c.in_ok-put_count_line.ensures (gathers_after _ _ _ _ c.in_ok-put_count_line-2.ensures (gathers_lost _ _ _ c.from_residual-in_err-put_count_line-3.ensures.1 (lost_before c.in_err-put_count_line-3.ensures _))))

pub returns : goal.returns
unfolding summary_text
returns g c =
    rw (← c.from.ensures) (gathers_after _ _ _ _ c.in_ok-put_count_line.ensures (gathers_after _ _ _ _ c.in_ok-put_count_line-2.ensures (gathers_after _ _ _ _ c.in_ok-put_count_line-3.ensures c.put_queue_lines.ensures)))
