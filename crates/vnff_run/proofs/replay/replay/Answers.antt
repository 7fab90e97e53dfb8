use Rattle.std.proofs.Common.{refl}
use Rattle.std.proofs.lemmas.Result.{err_from_is_err_and}
use Rattle.vnff_run.specs.Inputs.{script_in}
use Rattle.vnff_run.specs.Outcomes.{outcome_in}
use Rattle.vnff_run.proofs.EndingLemmas.{form_stops, form_runs}
use Rattle.vnff_run.proofs.InputLemmas.{read_stops, script_read, script_stops}
use Rattle.vnff_run.proofs.replay.replay.Goals as goal

pub returns-in_err-bytes : goal.returns-in_err-bytes
unfolding script_in outcome_in
returns-in_err-bytes g c =
    let p = err_from_is_err_and c.from_residual.result c.from_residual.ensures.1 in
    rw (p.1, p.2) (form_stops (g.S.Shelf.state c.args.shelf.now) (g.S.Shelf.state c.file_bytes.new.shelf) (g.O.Out.state c.args.out.now) (g.O.Out.state c.args.out.now) _ _ _ (read_stops (g.S.Shelf.state c.args.shelf.now) (g.S.Shelf.state c.file_bytes.new.shelf) _ _ _ c.in_err-bytes.ensures.read) (refl, refl))

pub returns-in_err-open_script : goal.returns-in_err-open_script
unfolding outcome_in
returns-in_err-open_script g c =
    let p = err_from_is_err_and c.from_residual-in_err-open_script.result c.from_residual-in_err-open_script.ensures.1 in
    rw (p.1, p.2) (form_stops (g.S.Shelf.state c.args.shelf.now) (g.S.Shelf.state c.file_bytes.new.shelf) (g.O.Out.state c.args.out.now) (g.O.Out.state c.args.out.now) _ _ _ (script_stops (g.S.Shelf.state c.args.shelf.now) (g.S.Shelf.state c.file_bytes.new.shelf) _ _ _ _ c.in_ok-bytes.ensures.read c.as_slice.ensures c.in_err-open_script.ensures) (refl, refl))

pub returns : goal.returns
unfolding outcome_in
returns g c =
    let opened = c.in_ok-open_script.ensures in
    let read = script_read (g.S.Shelf.state c.args.shelf.now) (g.S.Shelf.state c.file_bytes.new.shelf) _ _ _ _ c.in_ok-bytes.ensures.read c.as_slice.ensures opened.1 in
    form_runs (g.S.Shelf.state c.args.shelf.now) (g.S.Shelf.state c.file_bytes.new.shelf) (g.O.Out.state c.args.out.now) (g.O.Out.state c.replay_script.new.out) _ _ _ _ read (c.replay_script.ensures opened.0 opened.2)
