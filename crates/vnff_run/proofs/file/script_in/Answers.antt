use Rattle.std.proofs.lemmas.Result.{err_from_is_err_and}
use Rattle.vnff_run.specs.Inputs.{script_in}
use Rattle.vnff_run.proofs.InputLemmas.{kept_read, read_stops, script_stops}
use Rattle.vnff_run.proofs.file.script_in.Goals as goal

pub returns-in_err-bytes-clause-read : goal.returns-in_err-bytes-clause-read
unfolding script_in
returns-in_err-bytes-clause-read g c =
    let p = err_from_is_err_and c.from_residual.result c.from_residual.ensures.1 in
    let shelf = g.S.Shelf.state c.args.shelf.now in
    let read = g.S.Shelf.state c.file_bytes.new.shelf in
    rw (p.1, p.2) (read_stops shelf read (script_in c.args.name.now) _ _ (read_stops shelf read _ _ _ c.in_err-bytes.ensures.read))

pub returns-in_err-read_kept-clause-read : goal.returns-in_err-read_kept-clause-read
returns-in_err-read_kept-clause-read g c =
    let p = err_from_is_err_and c.from_residual-in_err-read_kept.result c.from_residual-in_err-read_kept.ensures.1 in
    let shelf = g.S.Shelf.state c.args.shelf.now in
    let read = g.S.Shelf.state c.file_bytes.new.shelf in
    rw (p.1, p.2) (read_stops shelf read (script_in c.args.name.now) _ _ (script_stops shelf read _ _ _ _ c.in_ok-bytes.ensures.read c.as_slice.ensures c.in_err-read_kept.ensures.read))

pub returns-clause-read : goal.returns-clause-read
returns-clause-read g c =
    kept_read (g.S.Shelf.state c.args.shelf.now) (g.S.Shelf.state c.file_bytes.new.shelf) c.args.kept _ _ _ _ c.in_ok-bytes.ensures.read c.as_slice.ensures c.in_ok-read_kept.ensures.read
