use Rattle.std.proofs.Common.{ap, ◌∙◌}
use Rattle.ff_headers.specs.declared.change.Change.TheVariants.{PutRule}
use Rattle.ff_store.proofs.RuleLemmas.{one_if_le, put_counts, one_fits}
use Rattle.ff_store.proofs.StoreLemmas.{rule_room, rule_group, rule_classifier, rules_fit, rule_put, kept, stepped}
use Rattle.ff_store.proofs.store.Store.put_rule.Goals as goal

pub put-replaced-requires : goal.put-replaced-requires
put-replaced-requires c = rule_room _ _ _ _ c.self.invariant _ c.self.view_is c.args.id c.args.rule c.requires

pub uncount-requires-clause-groups : goal.uncount-requires-clause-groups
uncount-requires-clause-groups c = one_if_le (λ r. r.group) c.self.inside.rules.entries c.args.id c.put-replaced.result c.put-replaced.ensures.replaced _ c.self.invariant.group_counts

pub uncount-requires-clause-classifiers : goal.uncount-requires-clause-classifiers
uncount-requires-clause-classifiers c = one_if_le (λ r. r.classifier) c.self.inside.rules.entries c.args.id c.put-replaced.result c.put-replaced.ensures.replaced _ c.self.invariant.classifier_counts

pub raise-requires-clause-held : goal.raise-requires-clause-held
raise-requires-clause-held c =
    rw (c.group-group.ensures, c.uncount.ensures.groups.objects) (rule_group _ _ _ _ c.self.invariant _ c.self.view_is c.args.id c.args.rule c.requires)

pub raise-requires-clause-fits : goal.raise-requires-clause-fits
raise-requires-clause-fits c =
    let fit = rules_fit _ _ _ _ c.self.invariant _ c.self.view_is c.args.id c.args.rule c.requires in
    rw c.group-group.ensures (one_fits (λ r. r.group) c.self.inside.rules.entries c.args.id c.put-replaced.result c.put-replaced.ensures.replaced _ c.self.invariant.group_counts _ c.uncount.ensures.groups.counts c.self.invariant.well_formed.by_id.rules_rise c.args.rule _ c.self.invariant.counts_fit fit)

pub raise-requires-2-clause-held : goal.raise-requires-2-clause-held
raise-requires-2-clause-held c =
    rw (c.classifier-classifier.ensures, c.uncount.ensures.classifiers.objects) (rule_classifier _ _ _ _ c.self.invariant _ c.self.view_is c.args.id c.args.rule c.requires)

pub raise-requires-2-clause-fits : goal.raise-requires-2-clause-fits
raise-requires-2-clause-fits c =
    let fit = rules_fit _ _ _ _ c.self.invariant _ c.self.view_is c.args.id c.args.rule c.requires in
    rw c.classifier-classifier.ensures (one_fits (λ r. r.classifier) c.self.inside.rules.entries c.args.id c.put-replaced.result c.put-replaced.ensures.replaced _ c.self.invariant.classifier_counts _ c.uncount.ensures.classifiers.counts c.self.invariant.well_formed.by_id.rules_rise c.args.rule _ c.self.invariant.counts_fit fit)

pub invariant_of-self : goal.invariant_of-self
invariant_of-self c =
    let made = rule_put _ _ _ _ c.self.invariant _ c.self.view_is c.raise.new.map c.raise-2.new.map c.put-replaced.new.map (c.raise.ensures.objects ∙ c.uncount.ensures.groups.objects) (c.raise-2.ensures.objects ∙ c.uncount.ensures.classifiers.objects) c.args.id c.args.rule (ap (λ m. m.entries) c.put-replaced.ensures.entries) in
    kept _ _ _ _ c.self.invariant _ c.self.view_is (PutRule c.args.id c.args.rule) c.raise.new.map c.raise-2.new.map c.put-replaced.new.map c.requires tt made
    (c.raise.ensures.room ∙ c.uncount.ensures.groups.room)
    (c.raise-2.ensures.room ∙ c.uncount.ensures.classifiers.room)
    (ap (λ m. m.room) c.put-replaced.ensures.entries)
    (put_counts (λ r. r.group) c.self.inside.rules.entries c.args.id c.put-replaced.result c.put-replaced.ensures.replaced _ c.self.invariant.group_counts _ c.uncount.ensures.groups.counts c.self.invariant.well_formed.by_id.rules_rise c.args.rule _ (ap (λ m. m.entries) c.put-replaced.ensures.entries) _ c.group-group.ensures _ c.raise.ensures.counts)
    (put_counts (λ r. r.classifier) c.self.inside.rules.entries c.args.id c.put-replaced.result c.put-replaced.ensures.replaced _ c.self.invariant.classifier_counts _ c.uncount.ensures.classifiers.counts c.self.invariant.well_formed.by_id.rules_rise c.args.rule _ (ap (λ m. m.entries) c.put-replaced.ensures.entries) _ c.classifier-classifier.ensures _ c.raise-2.ensures.counts)

pub returns : goal.returns
returns c =
    let made = rule_put _ _ _ _ c.self.invariant _ c.self.view_is c.raise.new.map c.raise-2.new.map c.put-replaced.new.map (c.raise.ensures.objects ∙ c.uncount.ensures.groups.objects) (c.raise-2.ensures.objects ∙ c.uncount.ensures.classifiers.objects) c.args.id c.args.rule (ap (λ m. m.entries) c.put-replaced.ensures.entries) in
    stepped _ _ _ _ c.self.invariant _ c.self.view_is (PutRule c.args.id c.args.rule) c.raise.new.map c.raise-2.new.map c.put-replaced.new.map c.requires made
