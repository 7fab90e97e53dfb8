use Rattle.std.proofs.Common.{ap, ◌∙◌, eqb, not}
use Rattle.ff_headers.specs.RuleParts.{RuleParts}
use Rattle.ff_store.proofs.EntryLemmas.{some_counted}
use Rattle.ff_store.proofs.store.Store.names_classifier.Goals as goal

pub returns : goal.returns
returns c =
    ap (λ n. not (eqb n 0)) c.rules_with_classifier.ensures ∙ some_counted (λ (r : RuleParts). eqb r.classifier c.args.id) c.args.self.now.objects.rules
