use Rattle.std.proofs.lemmas.Result.{err_from_is_err_and}
use Rattle.vnff_run.specs.TableInputs.{caps_in}
use Rattle.vnff_run.proofs.InputLemmas.{read_stops}
use Rattle.vnff_run.proofs.TableInputLemmas.{read_judged}
use Rattle.vnff_run.proofs.compiled.caps_in.Goals as goal

pub returns-in_err-bytes-clause-read : goal.returns-in_err-bytes-clause-read
unfolding caps_in
returns-in_err-bytes-clause-read g c =
    let p = err_from_is_err_and c.from_residual.result c.from_residual.ensures.1 in
    rw (p.1, p.2) (read_stops (g.S.Shelf.state c.args.shelf.now) (g.S.Shelf.state c.file_bytes.new.shelf) _ _ _ c.in_err-bytes.ensures.read)

pub returns-clause-read : goal.returns-clause-read
unfolding caps_in
returns-clause-read g c =
    read_judged (g.S.Shelf.state c.args.shelf.now) (g.S.Shelf.state c.file_bytes.new.shelf) _ _ _ _ c.in_ok-bytes.ensures.read (rw c.as_slice.ensures at c.caps_of.ensures)
