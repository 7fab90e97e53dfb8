use Rattle.vnff_base.proofs.Gathering.{gathers_after, gathers_lost, lost_before}
use Rattle.vnff_run.specs.Loads.{count_line}
use Rattle.vnff_run.proofs.load_text.put_count_line.Goals as goal

pub returns-in_err-put : goal.returns-in_err-put
unfolding count_line
returns-in_err-put g c =
    gathers_lost _ _ _ c.from_residual.ensures.1 (lost_before c.in_err-put.ensures _)

pub returns : goal.returns
unfolding count_line
returns g c =
    gathers_after _ _ _ _ c.in_ok-put.ensures c.put_number_end.ensures
