use Rattle.std.proofs.Common.{arith}
use Rattle.std.proofs.lemmas.Result.{err_from_is_err_and}
use Rattle.split_queue.proofs.ChainSteps.{starts_bare, follows, ends_at_fault, ends_at_last, ends_at_64th}
use Rattle.split_queue.proofs.walk.fill_chain.Goals as goal

pub loop-init : goal.loop-init
loop-init c = starts_bare _ _ _ _ _ c.requires.head (rw c.new-visited.ensures at c.push.ensures.items) c.clear.ensures

pub returns-in_err-add_descriptor : goal.returns-in_err-add_descriptor
returns-in_err-add_descriptor c =
    let p = err_from_is_err_and c.from_residual.result c.from_residual.ensures.1 in
    rw (p.1, p.2) (ends_at_fault _ _ _ _ _ _ _ c.loop.invariant _ c.in_err-add_descriptor.ensures.answer)

pub returns-in-None : goal.returns-in-None
returns-in-None c =
    ends_at_last _ _ _ _ _ _ _ c.loop.invariant _ (rw c.in-None.is at c.in_ok-add_descriptor.ensures.answer) c.in_ok-add_descriptor.ensures.ok

pub loop-preserved : goal.loop-preserved
loop-preserved c =
    let next = rw c.in-Some.is at c.in_ok-add_descriptor.ensures.answer in
    let inside = rw c.in-Some.is at c.in_ok-add_descriptor.ensures.next in
    follows _ _ _ _ _ _ _ _ _ _ (omega arith) next c.push-in-Some.ensures.items c.in_ok-add_descriptor.ensures.ok inside c.loop.invariant

pub returns-in_err-add_descriptor-2 : goal.returns-in_err-add_descriptor-2
returns-in_err-add_descriptor-2 c =
    let p = err_from_is_err_and c.from_residual-in_err-add_descriptor-2.result c.from_residual-in_err-add_descriptor-2.ensures.1 in
    rw (p.1, p.2) (ends_at_fault _ _ _ _ _ _ _ c.loop.invariant _ c.in_err-add_descriptor-2.ensures.answer)

pub returns-in-None-2 : goal.returns-in-None-2
returns-in-None-2 c =
    ends_at_last _ _ _ _ _ _ _ c.loop.invariant _ (rw c.in-None-2.is at c.in_ok-add_descriptor-2.ensures.answer) c.in_ok-add_descriptor-2.ensures.ok

pub returns-in-Some-2 : goal.returns-in-Some-2
returns-in-Some-2 c =
    ends_at_64th _ _ _ _ _ _ _ c.loop.invariant _ (omega arith) (rw c.in-Some-2.is at c.in_ok-add_descriptor-2.ensures.answer)
