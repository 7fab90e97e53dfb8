use Rattle.std.proofs.Common.{refl}
use Rattle.matcher.proofs.ScanLemmas.{rule_matches_by, candidate_none, candidate_some}
use Rattle.matcher.proofs.scan.candidate_from.Goals as goal

pub returns-then-not-matches : goal.returns-then-not-matches
returns-then-not-matches c =
    let is = rw c.classifier.ensures at c.in_ok-selectors.ensures in
    let by = rw c.key.ensures.value at c.if-not-matches.ensures.value in
    candidate_none _ _ _ (rule_matches_by _ _ _ _ _ is by)

pub returns : goal.returns
returns c =
    let is = rw c.classifier.ensures at c.in_ok-selectors.ensures in
    let by = rw c.key.ensures.value at c.if-not-matches.ensures.value in
    let action = rw (c.action.ensures, c.vq.ensures) at c.action_with.ensures in
    candidate_some c.args.store.now.objects _ (c.args.id, c.args.rule.now) _ (rule_matches_by _ _ _ _ _ is by) (rw (c.place_of.ensures, action) refl)
