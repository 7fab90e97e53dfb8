use Rattle.vnff_run.specs.LiveWords.{live_view}
use Rattle.vnff_run.proofs.PlanLemmas.{live_ends, live_stops}
use Rattle.vnff_run.proofs.live_call.run_live.Goals as goal

pub returns-in-Ok : goal.returns-in-Ok
returns-in-Ok g c =
    live_ends ⊥ ⊥ (g.S.Shelf.state c.args.shelf.now) (g.S.Shelf.state c.live_in.new.shelf) (g.O.Out.state c.args.out.now) (g.O.Out.state c.run_checked.new.out) (live_view c.args.form) c.in-Ok.run' c.run_checked.result c.in-Ok.ensures.read c.run_checked.ensures

pub returns-in-Err : goal.returns-in-Err
returns-in-Err g c =
    live_stops ⊥ ⊥ (g.S.Shelf.state c.args.shelf.now) (g.S.Shelf.state c.live_in.new.shelf) (g.O.Out.state c.args.out.now) (g.O.Out.state c.exit_status.new.out) (live_view c.args.form) c.in-Err.stop c.exit_status.result c.in-Err.ensures.read c.exit_status.ensures
