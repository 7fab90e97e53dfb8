use Rattle.std.proofs.Common.{refl}
use Rattle.std.proofs.lemmas.Result.{err_from_is_err_and}
use Rattle.vnff_run.specs.Loads.{summary_text}
use Rattle.vnff_run.proofs.EndingLemmas.{wrote_none}
use Rattle.vnff_run.proofs.load.put_counts.Goals as goal

pub returns-in_err-text : goal.returns-in_err-text
returns-in_err-text g c =
    let p = err_from_is_err_and c.from_residual.result c.from_residual.ensures.1 in
    let out = g.O.Out.state c.args.out.now in
    rw (p.1, p.2) (refl, wrote_none out out (summary_text c.args.frames c.args.counts.now) refl)
