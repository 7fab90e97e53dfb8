use Rattle.std.proofs.Common.{Err}
use Rattle.std.proofs.lemmas.Result.{err_from_is_err_and}
use Rattle.vnff_run.specs.Endings.{kept_script_in}
use Rattle.vnff_run.specs.LiveRuns.{live_run}
use Rattle.vnff_run.specs.LiveWords.{live_view}
use Rattle.vnff_run.specs.declared.script.Kept.TheVariants.{Commands}
use Rattle.vnff_run.proofs.InputLemmas.{read_stops}
use Rattle.vnff_run.proofs.LiveCommandLemmas.{live_kept}
use Rattle.vnff_run.proofs.TableInputLemmas.{frames_stop, frames_then}
use Rattle.vnff_run.proofs.live_run.live_in.Goals as goal

pub returns-in_err-script-clause-read : goal.returns-in_err-script-clause-read
returns-in_err-script-clause-read g c =
    let p = err_from_is_err_and c.from_residual.result c.from_residual.ensures.1 in
    rw (p.1, p.2) (live_kept (live_view c.args.form) (g.S.Shelf.state c.args.shelf.now) (g.S.Shelf.state c.script_in.new.shelf) (Err c.in_err-script.field-0.0) (read_stops (g.S.Shelf.state c.args.shelf.now) (g.S.Shelf.state c.script_in.new.shelf) _ _ _ c.in_err-script.ensures.read))

pub returns-in_err-frames-clause-read : goal.returns-in_err-frames-clause-read
returns-in_err-frames-clause-read g c =
    let p = err_from_is_err_and c.from_residual-in_err-frames.result c.from_residual-in_err-frames.ensures.1 in
    rw (p.1, p.2) (live_kept (live_view c.args.form) (g.S.Shelf.state c.args.shelf.now) (g.S.Shelf.state c.frames_in.new.shelf) (Err c.in_err-frames.field-0.0) (frames_stop (g.S.Shelf.state c.args.shelf.now) (g.S.Shelf.state c.script_in.new.shelf) (g.S.Shelf.state c.frames_in.new.shelf) (kept_script_in Commands c.args.form.script.now) c.args.form.capture.now (live_run (live_view c.args.form)) c.in_ok-script.script c.in_err-frames.field-0.0 c.in_ok-script.ensures.read c.in_ok-script.ensures.same_files c.in_err-frames.ensures.read))

pub returns-clause-read : goal.returns-clause-read
returns-clause-read g c =
    live_kept (live_view c.args.form) (g.S.Shelf.state c.args.shelf.now) (g.S.Shelf.state c.frames_in.new.shelf) c.run_over.result (frames_then (g.S.Shelf.state c.args.shelf.now) (g.S.Shelf.state c.script_in.new.shelf) (g.S.Shelf.state c.frames_in.new.shelf) (kept_script_in Commands c.args.form.script.now) c.args.form.capture.now (live_run (live_view c.args.form)) c.in_ok-script.script c.in_ok-frames.frames c.run_over.result c.in_ok-script.ensures.read c.in_ok-script.ensures.same_files c.in_ok-frames.ensures.read c.run_over.ensures.run)
