use Rattle.std.proofs.Common.{sym, ◌∙◌}
use Rattle.std.proofs.lemmas.Result.{err_from_is_err_and}
use Rattle.vnff_run.proofs.GrammarLemmas.{items_of-end, items_of-more, kept_in-fault, read_is}
use Rattle.vnff_run.proofs.grammar.read_items.Goals as goal

pub returns-in_err-item : goal.returns-in_err-item
returns-in_err-item c =
    let p = err_from_is_err_and c.from_residual.result c.from_residual.ensures.1 in
    rw (p.1, p.2) (kept_in-fault _ _ _ _ _ c.loop-item.invariant (read_is _ _ _ _ c.in_err-item.was c.in-Some.ensures.read))

pub loop-item-preserved : goal.loop-item-preserved
loop-item-preserved c =
    let read = read_is _ _ _ _ c.in_ok-item.was c.in-Some.ensures.read in
    rw c.in_ok-keep_item.ensures (sym (items_of-more _ _ _ _ _ _ read.1 read.2) ∙ c.loop-item.invariant)

pub returns : goal.returns
returns c = sym c.loop-item.invariant ∙ items_of-end _ _ _ c.in_default.ensures.read
