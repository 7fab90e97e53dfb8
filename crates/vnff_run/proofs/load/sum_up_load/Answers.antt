use Rattle.std.proofs.Common.{subst}
use Rattle.generated_load.specs.declared.counts.ActionCounts.{ActionCounts}
use Rattle.vnff_run.specs.Endings.{RunsAs}
use Rattle.vnff_run.specs.Loads.{gen_text, summary_text}
use Rattle.vnff_run.specs.Outcomes.{done_outcome}
use Rattle.vnff_run.proofs.load.sum_up_load.Goals as goal

pub returns : goal.returns
unfolding gen_text
returns g c =
    let P : ActionCounts → Type 0 = λ counts. RunsAs (g.O.Out.state c.args.out.now) (g.O.Out.state c.put_counts.new.out) (done_outcome (summary_text c.args.frames counts)) c.put_counts.result in
    subst P c.in_ok-counts.ensures.counts c.put_counts.ensures
