use Rattle.std.proofs.Common.{refl}
use Rattle.std.proofs.lemmas.Result.{err_from_is_err_and}
use Rattle.vnff_run.specs.Outcomes.{outcome_in}
use Rattle.vnff_run.proofs.EndingLemmas.{form_runs, form_stops}
use Rattle.vnff_run.proofs.compile.compile_table.Goals as goal

pub returns-in_err-compiled : goal.returns-in_err-compiled
unfolding outcome_in
returns-in_err-compiled g c =
    let p = err_from_is_err_and c.from_residual.result c.from_residual.ensures.1 in
    rw (p.1, p.2) (form_stops (g.S.Shelf.state c.args.shelf.now) (g.S.Shelf.state c.compiled_in.new.shelf) (g.O.Out.state c.args.out.now) (g.O.Out.state c.args.out.now) _ _ _ c.in_err-compiled.ensures.read (refl, refl))

pub returns : goal.returns
unfolding outcome_in
returns g c = form_runs (g.S.Shelf.state c.args.shelf.now) (g.S.Shelf.state c.compiled_in.new.shelf) (g.O.Out.state c.args.out.now) (g.O.Out.state c.put_compiled.new.out) _ _ _ _ c.in_ok-compiled.ensures.read c.put_compiled.ensures
