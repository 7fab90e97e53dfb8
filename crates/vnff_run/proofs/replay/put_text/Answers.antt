use Rattle.std.proofs.Common.{refl}
use Rattle.std.proofs.lemmas.Result.{err_from_is_err_and}
use Rattle.vnff_run.proofs.TakenItems.{end_stops, run_ends, run_stops}
use Rattle.vnff_run.proofs.replay.put_text.Goals as goal

pub returns-in_err-put_items : goal.returns-in_err-put_items
returns-in_err-put_items g c =
    let p = err_from_is_err_and c.from_residual.result c.from_residual.ensures.1 in
    λ all is. rw (p.1, p.2) (run_stops _ _ _ _ _ c.requires (c.in_err-put_items.ensures.lines all is))

pub returns-in_err-finish : goal.returns-in_err-finish
returns-in_err-finish g c =
    let p = err_from_is_err_and c.from_residual-in_err-finish.result c.from_residual-in_err-finish.ensures.1 in
    λ all is. rw (p.1, p.2) (end_stops _ c.requires (c.in_ok-put_items.ensures.lines all is) c.in_err-finish.ensures.written)

pub returns : goal.returns
returns g c = λ all is. (refl, run_ends _ c.requires (c.in_ok-put_items.ensures.lines all is) c.in_ok-finish.ensures.written)
