use Rattle.std.proofs.Common.{refl}
use Rattle.std.proofs.lemmas.Result.{err_from_is_err_and}
use Rattle.vnff_run.specs.Plans.{Lives}
use Rattle.vnff_run.proofs.PlanLemmas.{no_front}
use Rattle.vnff_run.proofs.live_call.carry_out.Goals as goal

pub returns-in_err-replies : goal.returns-in_err-replies
returns-in_err-replies g c =
    let p = err_from_is_err_and c.from_residual.result c.from_residual.ensures.1 in
    let out = g.O.Out.state c.args.out.now in
    rw (p.1, p.2) (refl, no_front (Lives c.args.run) out out refl)
