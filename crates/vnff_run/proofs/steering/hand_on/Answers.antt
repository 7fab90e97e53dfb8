use Rattle.std.proofs.Common.{refl, sym, subst}
use Rattle.std.proofs.lemmas.Result.{err_from_is_err_and}
use Rattle.vnff_base.specs.Outputs.{Stopped, Wrote}
use Rattle.vnff_run.specs.Deliveries.{steering_on}
use Rattle.vnff_run.proofs.DeliveryLemmas.{all_steered}
use Rattle.vnff_run.proofs.TallyLemmas.{text_is}
use Rattle.vnff_run.proofs.steering.hand_on.Goals as goal

pub returns-in_err-put_text-in-Ok-clause-runs : goal.returns-in_err-put_text-in-Ok-clause-runs
returns-in_err-put_text-in-Ok-clause-runs g c =
    let p = err_from_is_err_and c.from_residual.result c.from_residual.ensures.1 in
    let is = text_is (steering_on c.args.bench.now.device c.args.frames.now) c.args.pairs c.in-Ok.tally c.in-Ok.ensures.tally (sym c.requires.pairs) c.requires.few in
    rw (p.1, p.2) (subst (Stopped (g.O.Out.state c.args.out.now) (g.O.Out.state c.put_text.new.out)) is c.in_err-put_text-in-Ok.ensures)

pub returns-in_err-put_text-in-Ok-clause-sinks : goal.returns-in_err-put_text-in-Ok-clause-sinks
returns-in_err-put_text-in-Ok-clause-sinks g c =
    let p = err_from_is_err_and c.from_residual.result c.from_residual.ensures.1 in
    rw (p.1, p.2) (all_steered (steering_on c.args.bench.now.device c.args.frames.now) c.in-Ok.ensures.sinks)

pub returns-in_ok-put_text-in-Ok-clause-runs : goal.returns-in_ok-put_text-in-Ok-clause-runs
returns-in_ok-put_text-in-Ok-clause-runs g c =
    let is = text_is (steering_on c.args.bench.now.device c.args.frames.now) c.args.pairs c.in-Ok.tally c.in-Ok.ensures.tally (sym c.requires.pairs) c.requires.few in
    (refl, subst (Wrote (g.O.Out.state c.args.out.now) (g.O.Out.state c.put_text.new.out)) is c.in_ok-put_text-in-Ok.ensures)
