use Rattle.std.proofs.Common.{refl}
use Rattle.std.proofs.lemmas.Result.{err_from_is_err_and}
use Rattle.vnff_run.specs.Outcomes.{done_outcome, outcome_in}
use Rattle.vnff_run.specs.TableInputs.{table_run_in}
use Rattle.vnff_run.specs.Tables.{table_text}
use Rattle.vnff_run.proofs.EndingLemmas.{form_runs, form_stops}
use Rattle.vnff_run.proofs.table.classify_by_table.Goals as goal

pub returns-in_err-compiled : goal.returns-in_err-compiled
unfolding outcome_in
returns-in_err-compiled g c =
    let p = err_from_is_err_and c.from_residual.result c.from_residual.ensures.1 in
    rw (p.1, p.2) (form_stops (g.S.Shelf.state c.args.shelf.now) (g.S.Shelf.state c.table_run_in.new.shelf) (g.O.Out.state c.args.out.now) (g.O.Out.state c.args.out.now) _ _ _ c.in_err-compiled.ensures.read (refl, refl))

pub returns : goal.returns
unfolding outcome_in
returns g c =
    form_runs (g.S.Shelf.state c.args.shelf.now) (g.S.Shelf.state c.table_run_in.new.shelf) (g.O.Out.state c.args.out.now) (g.O.Out.state c.classify_all.new.out) (table_run_in c.args.device.now c.args.table.now c.args.capture.now) (λ run. done_outcome (table_text run.0.table run.1)) (c.in_ok-compiled.compiled, c.in_ok-compiled.frames) c.classify_all.result c.in_ok-compiled.ensures.read c.classify_all.ensures
