use Rattle.std.proofs.Common.{ap, arith, ◌∙◌}
use Rattle.generated_load.specs.Counts.{counts_of}
use Rattle.generated_load.proofs.CountLemmas.{counts-below}
use Rattle.vnff_run.specs.Loads.{actions_by}
use Rattle.vnff_run.proofs.LoadLemmas.{actions-length, actions_more, frames_from, state_more}
use Rattle.vnff_run.proofs.load.count_actions.Goals as goal

pub add-requires : goal.add-requires
add-requires g c =
    counts-below c.loop.counts (actions_by g.table (frames_from c.loop.counter c.args.x).1) c.loop.invariant.counts _
    (omega (arith, actions-length g.table c.loop.counter c.args.x, c.loop-test.true, c.ranges.frames.fits))

pub loop-preserved : goal.loop-preserved
loop-preserved g c =
    let i = c.loop.counter in
    let drawn = c.drawn_frame-next.result in
    record {
      state = state_more i c.args.x c.loop.state drawn c.loop.invariant.state c.drawn_frame-next.ensures;
      counts =
          c.add.ensures (actions_by g.table (frames_from i c.args.x).1) c.loop.invariant.counts
          ∙ ap counts_of (actions_more g.table i c.args.x c.loop.state drawn c.frame_action.result c.loop.invariant.state c.drawn_frame-next.ensures c.frame_action.ensures);
    }
