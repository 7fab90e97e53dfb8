use Rattle.std.proofs.Common.{sym, ◌∙◌}
use Rattle.std.proofs.lemmas.Result.{err_from_is_err_and}
use Rattle.vnff_run.specs.Inputs.{queue_in, queue_or_refusal}
use Rattle.vnff_run.proofs.InputLemmas.{read_stops, queue_read, queue_stops}
use Rattle.vnff_run.proofs.image.queue_in.Goals as goal

pub returns-in_err-bytes-clause-read : goal.returns-in_err-bytes-clause-read
unfolding queue_in
returns-in_err-bytes-clause-read g c =
    let p = err_from_is_err_and c.from_residual.result c.from_residual.ensures.1 in
    rw (p.1, p.2) (read_stops (g.S.Shelf.state c.args.shelf.now) (g.S.Shelf.state c.file_bytes.new.shelf) _ (λ files. queue_or_refusal c.args.place) _ c.in_err-bytes.ensures.read)

pub returns-in-Ok-clause-read : goal.returns-in-Ok-clause-read
returns-in-Ok-clause-read g c =
    rw c.in-Ok.ensures.ok (queue_read (g.S.Shelf.state c.args.shelf.now) (g.S.Shelf.state c.file_bytes.new.shelf) _ _ _ c.args.place c.in_ok-bytes.ensures.read (c.of-mem.ensures ∙ c.into_vec.ensures) (sym c.in-Ok.ensures.err))

pub returns-in-Err-clause-read : goal.returns-in-Err-clause-read
returns-in-Err-clause-read g c =
    queue_stops (g.S.Shelf.state c.args.shelf.now) (g.S.Shelf.state c.file_bytes.new.shelf) _ _ _ c.args.place _ c.in_ok-bytes.ensures.read (c.of-mem.ensures ∙ c.into_vec.ensures) (sym c.in-Err.ensures.err)
