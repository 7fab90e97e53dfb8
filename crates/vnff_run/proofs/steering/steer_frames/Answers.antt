use Rattle.std.proofs.Common.{refl}
use Rattle.std.proofs.lemmas.Result.{err_from_is_err_and}
use Rattle.vnff_run.proofs.SteerLemmas.{kept_stops, steer_does, steer_stops}
use Rattle.vnff_run.proofs.steering.steer_frames.Goals as goal

pub returns-in_err-script : goal.returns-in_err-script
returns-in_err-script g c =
    let p = err_from_is_err_and c.from_residual.result c.from_residual.ensures.1 in
    rw (p.1, p.2) (steer_stops (Unit {0}) (g.S.Shelf.state c.args.shelf.now) (g.S.Shelf.state c.steer_input_in.new.shelf) (g.O.Out.state c.args.out.now) (g.O.Out.state c.args.out.now) c.args.script.now c.args.capture.now _ _ (kept_stops (g.S.Shelf.state c.args.shelf.now) (g.S.Shelf.state c.steer_input_in.new.shelf) c.args.script.now c.args.capture.now _ c.in_err-script.ensures.read) (refl, refl))

pub returns : goal.returns
returns g c =
    steer_does (g.S.Shelf.state c.args.shelf.now) (g.S.Shelf.state c.steer_input_in.new.shelf) (g.O.Out.state c.args.out.now) (g.O.Out.state c.steer_script.new.out) c.args.script.now c.args.capture.now (c.in_ok-script.script, c.in_ok-script.frames) _ _ c.steer_script.result c.in_ok-script.ensures.read c.steer_script.ensures.runs c.steer_script.ensures.sinks
