use Rattle.std.proofs.lemmas.Result.{err_from_is_err_and}
use Rattle.vnff_run.proofs.GrammarLemmas.{read_is}
use Rattle.vnff_run.proofs.TakenItems.{all_taken, more_taken, none_taken, reading_stops, taking_stops}
use Rattle.vnff_run.proofs.replay.put_items.Goals as goal

pub loop-item-init : goal.loop-item-init
loop-item-init g c = λ all is. none_taken _ _ _ _ all is

pub loop-item-preserved-in_ok-put_item : goal.loop-item-preserved-in_ok-put_item
loop-item-preserved-in_ok-put_item g c =
    let read = read_is _ _ _ _ c.in_ok-item.was c.in-Some.ensures.read in
    λ all is. more_taken read.0 _ (c.loop-item.invariant all is) read.1 read.2 c.in_ok-put_item.ensures.state c.in_ok-put_item.ensures.line

pub loop-item-preserved : goal.loop-item-preserved
loop-item-preserved g c =
    let read = read_is _ _ _ _ c.in_ok-item.was c.in-Some.ensures.read in
    λ all is. more_taken read.0 _ (c.loop-item.invariant all is) read.1 read.2 c.in_ok-put_item.ensures.state c.in_ok-put_item.ensures.line

pub returns-in_err-item-clause-lines : goal.returns-in_err-item-clause-lines
returns-in_err-item-clause-lines g c =
    let p = err_from_is_err_and c.from_residual.result c.from_residual.ensures.1 in
    λ all is. rw (p.1, p.2) (reading_stops _ (c.loop-item.invariant all is) (read_is _ _ _ _ c.in_err-item.was c.in-Some.ensures.read))

pub returns-in_err-put_item-clause-lines : goal.returns-in_err-put_item-clause-lines
returns-in_err-put_item-clause-lines g c =
    let p = err_from_is_err_and c.from_residual-in_err-put_item.result c.from_residual-in_err-put_item.ensures.1 in
    let read = read_is _ _ _ _ c.in_ok-item.was c.in-Some.ensures.read in
    λ all is. rw (p.1, p.2) (taking_stops read.0 _ (c.loop-item.invariant all is) read.1 read.2 c.in_err-put_item.ensures.line)

pub returns-clause-lines : goal.returns-clause-lines
returns-clause-lines g c = λ all is. (all_taken (c.loop-item.invariant all is) c.in_default.ensures.read).0

pub returns-clause-state : goal.returns-clause-state
returns-clause-state g c = λ all is. (all_taken (c.loop-item.invariant all is) c.in_default.ensures.read).1
