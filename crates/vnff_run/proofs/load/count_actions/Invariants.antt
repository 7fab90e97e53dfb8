-- The frames so far were counted.
use Rattle.std.proofs.Common.{◌≡◌}
use Rattle.generated_load.specs.Counts.{counts_of}
use Rattle.vnff_run.specs.Loads.{actions_by}
use Rattle.vnff_run.proofs.LoadLemmas.{frames_from}
use Rattle.vnff_run.proofs.load.count_actions.Given as goal

abbrev pub ghost-frame_action : goal.ghost-frame_action
ghost-frame_action g a = g.table

abbrev pub invariant-loop : goal.invariant-loop
invariant-loop g l = record {
  state : l.state ≡ (frames_from l.counter l.fn.x).0;
  counts : l.counts ≡ counts_of (actions_by g.table (frames_from l.counter l.fn.x).1);
}
