use Rattle.std.proofs.Common.{refl}
use Rattle.std.proofs.lemmas.Result.{err_from_is_err_and}
use Rattle.vnff_run.specs.Replay.{replay_text}
use Rattle.vnff_run.proofs.EndingLemmas.{wrote_none}
use Rattle.vnff_run.proofs.TakenItems.{replayed}
use Rattle.vnff_run.proofs.replay.replay_script.Goals as goal

pub returns-in_err-bench : goal.returns-in_err-bench
returns-in_err-bench g c =
    let p = err_from_is_err_and c.from_residual.result c.from_residual.ensures.1 in
    let out = g.O.Out.state c.args.out.now in
    λ whole is. rw (p.1, p.2) (refl, wrote_none out out (replay_text whole) refl)

pub returns-in_err-text : goal.returns-in_err-text
returns-in_err-text g c =
    let p = err_from_is_err_and c.from_residual-in_err-text.result c.from_residual-in_err-text.ensures.1 in
    let out = g.O.Out.state c.args.out.now in
    λ whole is. rw (p.1, p.2) (refl, wrote_none out out (replay_text whole) refl)

pub returns : goal.returns
returns g c = replayed _ _ c.args.script _ _ c.in_ok-bench.ensures.state c.put_text.ensures
