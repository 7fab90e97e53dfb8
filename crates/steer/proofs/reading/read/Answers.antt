use Rattle.std.proofs.Common.{sym, ◌∙◌}
use Rattle.steer.proofs.ReadLemmas.{not_read, asks_again, has_read}
use Rattle.steer.proofs.reading.read.Goals as goal

pub loop-init : goal.loop-init
loop-init g c = (tt, tt, not_read c.args.worker.now)

pub loop-preserved : goal.loop-preserved
loop-preserved g c =
    let e = c.classify.ensures in
    (tt, tt, asks_again c.args.worker.now c.loop.worker c.classify.new.self c.classify.result _ _ _ c.loop.invariant.2 (sym c.is_some.ensures ∙ c.if-is_some.false) e.same_identity e.same_limits e.answer e.log)

pub returns-then-is_some-clause-read : goal.returns-then-is_some-clause-read
returns-then-is_some-clause-read g c =
    let e = c.classify.ensures in
    (has_read c.args.worker.now c.loop.worker c.classify.new.self c.args.frame.now c.parse-headers.result c.classify.result _ _ c.parse-headers.ensures c.loop.invariant.2 c.requires (sym c.is_some.ensures ∙ c.if-is_some.true) e.same_identity e.same_limits e.answer e.log e.logged).0

pub returns-then-is_some-clause-entered : goal.returns-then-is_some-clause-entered
returns-then-is_some-clause-entered g c =
    let e = c.classify.ensures in
    (has_read c.args.worker.now c.loop.worker c.classify.new.self c.args.frame.now c.parse-headers.result c.classify.result _ _ c.parse-headers.ensures c.loop.invariant.2 c.requires (sym c.is_some.ensures ∙ c.if-is_some.true) e.same_identity e.same_limits e.answer e.log e.logged).1
