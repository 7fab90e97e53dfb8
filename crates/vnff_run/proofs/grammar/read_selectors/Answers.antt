use Rattle.std.proofs.Common.{sym, ◌∙◌}
use Rattle.std.proofs.lemmas.Result.{err_from_is_err_and}
use Rattle.vnff_run.proofs.GrammarLemmas.{small_rest}
use Rattle.vnff_run.proofs.SelectLemmas.{one_more_rises, first_selectors-more, first_selectors-stop}
use Rattle.vnff_run.proofs.grammar.read_selectors.Goals as goal

pub returns-in_err-selector-clause-read : goal.returns-in_err-selector-clause-read
returns-in_err-selector-clause-read c =
    let p = err_from_is_err_and c.from_residual.result c.from_residual.ensures.1 in
    let line = c.in-Some-behind_select.ensures in
    rw (p.1, p.2) (first_selectors-stop _ _ _ _ _ _ _ _ _ c.in-Some.ensures.next line.0 line.1 c.loop-line.invariant.same c.in_err-selector.ensures.read)

pub returns-in_err-selector-clause-small : goal.returns-in_err-selector-clause-small
returns-in_err-selector-clause-small c = small_rest _ _ _ c.in-Some.ensures.next c.in-Some.ensures.missing c.loop-line.invariant.small

pub loop-line-preserved : goal.loop-line-preserved
loop-line-preserved c =
    let line = c.in-Some-behind_select.ensures in
    let selector = c.in_ok-selector.ensures in
    record {
      same = rw (c.code-last.ensures, c.kind.ensures, c.push.ensures.items) (sym (first_selectors-more _ _ _ _ _ _ _ _ c.in-Some.ensures.next line.0 line.1 selector.read) ∙ c.loop-line.invariant.same);
      rise = rw (c.code-last.ensures, c.kind.ensures, c.push.ensures.items) (one_more_rises _ _ _ c.loop-line.invariant.rise selector.above selector.whole);
      small = small_rest _ _ _ c.in-Some.ensures.next c.in-Some.ensures.missing c.loop-line.invariant.small;
    }
