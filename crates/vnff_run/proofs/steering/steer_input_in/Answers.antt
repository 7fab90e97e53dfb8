use Rattle.std.proofs.Common.{Ok, refl}
use Rattle.std.proofs.lemmas.Result.{err_from_is_err_and}
use Rattle.vnff_run.specs.Endings.{kept_script_in}
use Rattle.vnff_run.specs.declared.script.Kept.TheVariants.{Commands}
use Rattle.vnff_run.proofs.InputLemmas.{read_stops}
use Rattle.vnff_run.proofs.TableInputLemmas.{frames_stop, frames_then}
use Rattle.vnff_run.proofs.steering.steer_input_in.Goals as goal

pub returns-in_err-script-clause-read : goal.returns-in_err-script-clause-read
returns-in_err-script-clause-read g c =
    let p = err_from_is_err_and c.from_residual.result c.from_residual.ensures.1 in
    rw (p.1, p.2) (read_stops (g.S.Shelf.state c.args.shelf.now) (g.S.Shelf.state c.script_in.new.shelf) _ _ _ c.in_err-script.ensures.read)

pub returns-in_err-frames-clause-read : goal.returns-in_err-frames-clause-read
returns-in_err-frames-clause-read g c =
    let p = err_from_is_err_and c.from_residual-in_err-frames.result c.from_residual-in_err-frames.ensures.1 in
    rw (p.1, p.2) (frames_stop (g.S.Shelf.state c.args.shelf.now) (g.S.Shelf.state c.script_in.new.shelf) (g.S.Shelf.state c.frames_in.new.shelf) (kept_script_in Commands c.args.script.now) c.args.capture.now (λ script frames. (script, frames)) c.in_ok-script.script c.in_err-frames.field-0.0 c.in_ok-script.ensures.read c.in_ok-script.ensures.same_files c.in_err-frames.ensures.read)

pub returns-clause-read : goal.returns-clause-read
returns-clause-read g c =
    frames_then (g.S.Shelf.state c.args.shelf.now) (g.S.Shelf.state c.script_in.new.shelf) (g.S.Shelf.state c.frames_in.new.shelf) (kept_script_in Commands c.args.script.now) c.args.capture.now (λ script frames. (script, frames)) c.in_ok-script.script c.in_ok-frames.frames (Ok (c.in_ok-script.script, c.in_ok-frames.frames)) c.in_ok-script.ensures.read c.in_ok-script.ensures.same_files c.in_ok-frames.ensures.read refl
