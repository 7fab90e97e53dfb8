use Rattle.std.proofs.Common.{map, refl, subst, sym, ◌∙◌}
use Rattle.std.proofs.lemmas.Result.{err_from_is_err_and}
use Rattle.vnff_run.specs.Deliveries.{SteerRuns, SteersSinks}
use Rattle.vnff_run.specs.Outcomes.{done_outcome}
use Rattle.vnff_run.specs.Steering.{steer_text, steering_for}
use Rattle.vnff_run.proofs.EndingLemmas.{wrote_none}
use Rattle.vnff_run.proofs.SteerLemmas.{pairs_behind, steering_is}
use Rattle.vnff_run.proofs.steering.steer_script.Goals as goal

pub returns-in_err-text-clause-runs : goal.returns-in_err-text-clause-runs
returns-in_err-text-clause-runs g c =
    let p = err_from_is_err_and c.from_residual.result c.from_residual.ensures.1 in
    let out = g.O.Out.state c.args.out.now in
    rw (p.1, p.2) (refl, wrote_none out out (steer_text (steering_for (c.args.script, c.args.frames.now))) refl)

pub returns-in_err-text-clause-sinks : goal.returns-in_err-text-clause-sinks
returns-in_err-text-clause-sinks g c =
    let p = err_from_is_err_and c.from_residual.result c.from_residual.ensures.1 in
    rw (p.1, p.2) refl

pub returns-in_err-bench-clause-runs : goal.returns-in_err-bench-clause-runs
returns-in_err-bench-clause-runs g c =
    let p = err_from_is_err_and c.from_residual-in_err-bench.result c.from_residual-in_err-bench.ensures.1 in
    let out = g.O.Out.state c.args.out.now in
    rw (p.1, p.2) (refl, wrote_none out out (steer_text (steering_for (c.args.script, c.args.frames.now))) refl)

pub returns-in_err-bench-clause-sinks : goal.returns-in_err-bench-clause-sinks
returns-in_err-bench-clause-sinks g c =
    let p = err_from_is_err_and c.from_residual-in_err-bench.result c.from_residual-in_err-bench.ensures.1 in
    rw (p.1, p.2) refl

pub hand_on-requires-clause-pairs : goal.hand_on-requires-clause-pairs
hand_on-requires-clause-pairs g c =
    pairs_behind c.args.script.caps c.args.script.start c.args.script.items c.in_ok-bench.bench.device c.in_ok-bench.ensures ∙ sym c.pairs-pairs.ensures.value

pub returns-clause-runs : goal.returns-clause-runs
returns-clause-runs g c =
    subst (λ run. SteerRuns (g.O.Out.state c.args.out.now) (g.O.Out.state c.hand_on.new.out) (done_outcome (steer_text run)) c.hand_on.result)
    (steering_is c.args.script c.args.frames.now c.in_ok-bench.bench.device c.in_ok-bench.ensures) c.hand_on.ensures.runs

pub returns-clause-sinks : goal.returns-clause-sinks
returns-clause-sinks g c =
    subst (λ run. SteersSinks run (map (λ b. (goal.RxSink-dyn g (b.vtable, b.value)).state b.value) c.args.rack.now.sinks.items) (map (λ b. (goal.RxSink-dyn g (b.vtable, b.value)).state b.value) c.hand_on.new.rack.sinks.items) c.hand_on.result)
    (steering_is c.args.script c.args.frames.now c.in_ok-bench.bench.device c.in_ok-bench.ensures) c.hand_on.ensures.sinks
