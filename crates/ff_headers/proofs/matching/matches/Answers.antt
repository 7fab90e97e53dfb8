use Rattle.std.proofs.Common.{◌≡◌, ◌+◌, ◌∷◌, drop, sym, ◌∙◌, ap}
use Rattle.std.proofs.lemmas.List.{drop_more, drop_all}
use Rattle.ff_headers.proofs.MatchingLemmas.{left_none, left_long, left_same, left_meaning, matches-nil}
use Rattle.ff_headers.proofs.matching.matches.Goals as goal

pub returns-then-not-fits-clause-value : goal.returns-then-not-fits-clause-value
returns-then-not-fits-clause-value c =
    let list = c.as_slice-selector-items.result.now in
    let i = c.loop-selector.selector-index in
    let s = c.selector-item.result in
    let rest = drop (i + 1) list in
    let first : drop i list ≡ s ∷ rest = drop_more list i s c.loop-selector-test.true ∙ ap (λ x. x ∷ rest) (sym c.selector-item.is) in
    let front = rw (c.size.ensures, c.kind.ensures) at c.split_at.ensures.front in
    let fails = sym c.if-not-fits.true ∙ c.fits.ensures.value in
    left_none (drop i list) rest s c.split_at.result.0.now c.loop-selector.rest.now c.args.headers.now first front fails ∙ sym c.loop-selector.invariant.same

pub loop-selector-preserved : goal.loop-selector-preserved
loop-selector-preserved c =
    let list = c.as_slice-selector-items.result.now in
    let i = c.loop-selector.selector-index in
    let s = c.selector-item.result in
    let rest = drop (i + 1) list in
    let old = c.loop-selector.invariant in
    let part = c.split_at.result.0.now in
    let later = c.split_at.result.1.now in
    let key = c.loop-selector.rest.now in
    let first : drop i list ≡ s ∷ rest = drop_more list i s c.loop-selector-test.true ∙ ap (λ x. x ∷ rest) (sym c.selector-item.is) in
    let front = rw (c.size.ensures, c.kind.ensures) at c.split_at.ensures.front in
    let back = rw (c.size.ensures, c.kind.ensures) at c.split_at.ensures.back in
    let cut = rw (c.size.ensures, c.kind.ensures) at c.split_at.ensures.back_len in
    let holds = sym c.if-not-fits.false ∙ c.fits.ensures.value in
    let means = left_meaning (drop i list) rest s part key later c.args.headers.now first front back (c.fits.ensures.meaning.0 c.if-not-fits.false) in
    record {
      long = left_long (drop i list) rest s key later first old.long cut;
      same = old.same ∙ left_same (drop i list) rest s part key later c.args.headers.now first front back holds;
      meaning = (λ m. means.0 (old.meaning.0 m), λ m. old.meaning.1 (means.1 m));
    }

pub returns-clause-value : goal.returns-clause-value
returns-clause-value c =
    let list = c.as_slice-selector-items.result.now in
    let none = drop_all c.loop-selector.selector-index list c.loop-selector-test.false in
    sym (c.loop-selector.invariant.same ∙ rw none (matches-nil c.loop-selector.rest.now c.args.headers.now))
