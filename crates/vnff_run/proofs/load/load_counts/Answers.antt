use Rattle.std.proofs.Common.{ap, ◌∙◌}
use Rattle.generated_load.specs.Counts.{counts_of}
use Rattle.generated_load.specs.DrawnFrames.{drawn_frames}
use Rattle.vnff_run.specs.Loads.{actions_by}
use Rattle.vnff_run.proofs.LoadLemmas.{frames_from}
use Rattle.vnff_run.proofs.load.load_counts.Goals as goal

pub returns-clause-counts : goal.returns-clause-counts
unfolding drawn_frames
returns-clause-counts g c =
    c.count_actions.ensures ∙ ap (λ x. counts_of (actions_by g.table (frames_from c.args.frames x).1)) c.in_ok-x.ensures.state
