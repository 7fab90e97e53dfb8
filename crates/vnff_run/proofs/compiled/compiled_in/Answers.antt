use Rattle.std.proofs.Common.{Err}
use Rattle.std.proofs.lemmas.Result.{err_from_is_err_and}
use Rattle.vnff_run.specs.Results.{◌>>=◌}
use Rattle.vnff_run.specs.TableInputs.{caps_in, compiled_for, compiled_in, table_in}
use Rattle.vnff_run.proofs.InputLemmas.{read_stops}
use Rattle.vnff_run.proofs.TableInputLemmas.{read_judged, read_then}
use Rattle.vnff_run.proofs.compiled.compiled_in.Goals as goal

pub returns-in_err-caps-clause-read : goal.returns-in_err-caps-clause-read
unfolding compiled_in
returns-in_err-caps-clause-read g c =
    let p = err_from_is_err_and c.from_residual.result c.from_residual.ensures.1 in
    rw (p.1, p.2) (read_stops (g.S.Shelf.state c.args.shelf.now) (g.S.Shelf.state c.caps_in.new.shelf) _ _ _ c.in_err-caps.ensures.read)

pub returns-in_err-table-clause-read : goal.returns-in_err-table-clause-read
unfolding compiled_in
returns-in_err-table-clause-read g c =
    let p = err_from_is_err_and c.from_residual-in_err-table.result c.from_residual-in_err-table.ensures.1 in
    let middle = g.S.Shelf.state c.caps_in.new.shelf in
    let read = g.S.Shelf.state c.table_in.new.shelf in
    rw (p.1, p.2) (read_then (g.S.Shelf.state c.args.shelf.now) middle read (caps_in c.args.device.now) (λ caps files. table_in caps.pairs c.args.table.now files >>= compiled_for caps) c.in_ok-caps.caps (Err c.in_err-table.field-0.0) c.in_ok-caps.ensures.read c.in_ok-caps.ensures.same_files (read_stops middle read _ _ _ (rw c.pairs.ensures.value at c.in_err-table.ensures.read)))

pub returns-clause-read : goal.returns-clause-read
unfolding compiled_in
returns-clause-read g c =
    let middle = g.S.Shelf.state c.caps_in.new.shelf in
    let read = g.S.Shelf.state c.table_in.new.shelf in
    read_then (g.S.Shelf.state c.args.shelf.now) middle read (caps_in c.args.device.now) (λ caps files. table_in caps.pairs c.args.table.now files >>= compiled_for caps) c.in_ok-caps.caps c.compiled_for.result c.in_ok-caps.ensures.read c.in_ok-caps.ensures.same_files
    (read_judged middle read _ _ _ _ (rw c.pairs.ensures.value at c.in_ok-table.ensures.read) c.compiled_for.ensures.judged)
