use Rattle.std.proofs.Common.{refl, subst}
use Rattle.std.proofs.lemmas.Result.{err_from_is_err_and}
use Rattle.split_queue.specs.DeviceEnds.{DeviceEndState}
use Rattle.vnff_run.specs.Endings.{RunsAs}
use Rattle.vnff_run.specs.Outcomes.{drain_outcome, outcome_in}
use Rattle.vnff_run.proofs.EndingLemmas.{form_stops, form_runs}
use Rattle.vnff_run.proofs.drain.drain.Goals as goal

pub returns-in_err-mem : goal.returns-in_err-mem
unfolding outcome_in
returns-in_err-mem g c =
    let p = err_from_is_err_and c.from_residual.result c.from_residual.ensures.1 in
    rw (p.1, p.2) (form_stops (g.S.Shelf.state c.args.shelf.now) (g.S.Shelf.state c.queue_in.new.shelf) (g.O.Out.state c.args.out.now) (g.O.Out.state c.args.out.now) _ _ _ c.in_err-mem.ensures.read (refl, refl))

pub returns : goal.returns
unfolding outcome_in
returns g c =
    let ran = subst (λ (end : DeviceEndState). RunsAs (g.O.Out.state c.args.out.now) (g.O.Out.state c.drain_queue.new.out) (drain_outcome c.in_ok-mem.mem end.place) c.drain_queue.result) c.in_ok-mem.ensures.start c.drain_queue.ensures in
    form_runs (g.S.Shelf.state c.args.shelf.now) (g.S.Shelf.state c.queue_in.new.shelf) (g.O.Out.state c.args.out.now) (g.O.Out.state c.drain_queue.new.out) _ _ _ _ c.in_ok-mem.ensures.read ran
