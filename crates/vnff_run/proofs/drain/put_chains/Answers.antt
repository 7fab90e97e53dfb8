use Rattle.std.proofs.Common.{[], Ok, sym, ap, ◌∙◌, subst}
use Rattle.vnff_base.proofs.Gathering.{gathers_lost, lost_after, lost_before, took_more, took_nothing}
use Rattle.vnff_base.specs.Gatherings.{Lost, Took}
use Rattle.vnff_run.proofs.DrainLemmas.{empty-last, empty-lines, fault-last, fault-lines, is_nearer, more-lines, small_idx, starts, steps}
use Rattle.vnff_run.proofs.drain.put_chains.Goals as goal

pub loop-chain-init : goal.loop-chain-init
loop-chain-init g c =
    let image = c.args.mem.now in
    let place = c.args.end.now.place in
    ([], took_nothing _ _, starts image place c.args.end.now c.requires.start c.requires.placed (small_idx image place c.requires.bytes))

pub returns-in_err-put_chain_line-in-Ok-Some-clause-lines : goal.returns-in_err-put_chain_line-in-Ok-Some-clause-lines
returns-in_err-put_chain_line-in-Ok-Some-clause-lines g c =
    let here = c.loop-chain.invariant in
    let more = more-lines c.args.mem.now c.loop-chain.mem c.args.end.now.place c.loop-chain.end c.loop-chain.next here.0 here.2 c.in-Ok-Some.chain (sym c.in-Ok-Some.ensures.answer ∙ ap Ok c.in-Ok-Some.field-0-is) in
    gathers_lost _ _ _ c.from_residual.ensures.1
    (subst (Lost (g.O.Out.state c.args.out.now) (g.O.Out.state c.put_chain_line.new.out) c.args.text.now) more.1 (lost_after here.1 (lost_before c.in_err-put_chain_line-in-Ok-Some.ensures more.0)))

pub loop-chain-preserved : goal.loop-chain-preserved
loop-chain-preserved g c =
    let here = c.loop-chain.invariant in
    let popped = c.in-Ok-Some.ensures in
    let pushed = c.push_used.ensures in
    let head = rw c.in-Ok-Some.field-0-is at popped.head in
    let moved = rw c.in-Ok-Some.field-0-is at popped.ok in
    (_, took_more here.1 c.in_ok-put_chain_line-in-Ok-Some.ensures, steps c.args.mem.now c.loop-chain.mem c.args.end.now.place c.loop-chain.end c.loop-chain.next here.0 here.2 c.in-Ok-Some.chain (sym popped.answer ∙ ap Ok c.in-Ok-Some.field-0-is) c.pop.new.self c.push_used.new.self c.push_used.new.mem head moved pushed.memory pushed.state)

pub loop-chain-smaller : goal.loop-chain-smaller
loop-chain-smaller g c =
    let here = c.loop-chain.invariant in
    let popped = c.in-Ok-Some.ensures in
    let next = loop-chain-preserved g c in
    is_nearer c.args.mem.now c.loop-chain.mem c.args.end.now.place c.loop-chain.end c.loop-chain.next here.0 here.2 c.in-Ok-Some.chain (sym popped.answer ∙ ap Ok c.in-Ok-Some.field-0-is) c.push_used.new.self c.push_used.new.mem next.0 next.2

pub returns-in-Ok-None-clause-lines : goal.returns-in-Ok-None-clause-lines
returns-in-Ok-None-clause-lines g c =
    let here = c.loop-chain.invariant in
    let lines = empty-lines c.args.mem.now c.loop-chain.mem c.args.end.now.place c.loop-chain.end c.loop-chain.next here.0 here.2 (sym c.in-Ok-None.ensures.answer ∙ ap Ok c.in-Ok-None.field-0-is) in
    subst (Took (g.O.Out.state c.args.out.now) (g.O.Out.state c.loop-chain.out) c.args.text.now c.loop-chain.text) lines here.1

pub returns-in-Ok-None-clause-last : goal.returns-in-Ok-None-clause-last
returns-in-Ok-None-clause-last g c =
    let here = c.loop-chain.invariant in
    empty-last c.args.mem.now c.loop-chain.mem c.args.end.now.place c.loop-chain.end c.loop-chain.next here.0 here.2 (sym c.in-Ok-None.ensures.answer ∙ ap Ok c.in-Ok-None.field-0-is)

pub returns-in-Err-clause-lines : goal.returns-in-Err-clause-lines
returns-in-Err-clause-lines g c =
    let here = c.loop-chain.invariant in
    let lines = fault-lines c.args.mem.now c.loop-chain.mem c.args.end.now.place c.loop-chain.end c.loop-chain.next here.0 here.2 c.in-Err.fault (sym c.in-Err.ensures.answer) in
    subst (Took (g.O.Out.state c.args.out.now) (g.O.Out.state c.loop-chain.out) c.args.text.now c.loop-chain.text) lines here.1

pub returns-in-Err-clause-last : goal.returns-in-Err-clause-last
returns-in-Err-clause-last g c =
    let here = c.loop-chain.invariant in
    fault-last c.args.mem.now c.loop-chain.mem c.args.end.now.place c.loop-chain.end c.loop-chain.next here.0 here.2 c.in-Err.fault (sym c.in-Err.ensures.answer)
