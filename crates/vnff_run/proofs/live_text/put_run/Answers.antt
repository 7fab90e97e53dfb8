use Rattle.std.proofs.Common.{refl}
use Rattle.std.proofs.lemmas.Result.{err_from_is_err_and}
use Rattle.vnff_run.specs.LiveEndings.{lines_of_run}
use Rattle.vnff_run.proofs.EndingLemmas.{wrote_none}
use Rattle.vnff_run.proofs.live_text.put_run.Goals as goal

pub returns-in_err-text : goal.returns-in_err-text
returns-in_err-text g c =
    let p = err_from_is_err_and c.from_residual.result c.from_residual.ensures.1 in
    let out = g.O.Out.state c.args.out.now in
    rw (p.1, p.2) (refl, wrote_none out out (lines_of_run c.args.replies.now c.args.workers.now c.args.packets) refl)
