use Rattle.std.proofs.Common.{ap}
use Rattle.ff_headers.specs.declared.change.Change.TheVariants.{DropRule}
use Rattle.ff_store.proofs.RuleLemmas.{one_if_le, drop_counts}
use Rattle.ff_store.proofs.StoreLemmas.{drop_rule_sound, rule_dropped, kept, stepped}
use Rattle.ff_store.proofs.store.Store.drop_rule.Goals as goal

pub uncount-requires-clause-groups : goal.uncount-requires-clause-groups
uncount-requires-clause-groups c = one_if_le (λ r. r.group) c.self.inside.rules.entries c.args.id c.remove-removed.result c.remove-removed.ensures.removed _ c.self.invariant.group_counts

pub uncount-requires-clause-classifiers : goal.uncount-requires-clause-classifiers
uncount-requires-clause-classifiers c = one_if_le (λ r. r.classifier) c.self.inside.rules.entries c.args.id c.remove-removed.result c.remove-removed.ensures.removed _ c.self.invariant.classifier_counts

pub invariant_of-self : goal.invariant_of-self
invariant_of-self c =
    let made = rule_dropped _ _ _ _ c.self.invariant _ c.self.view_is c.uncount.new.groups c.uncount.new.classifiers c.remove-removed.new.map c.uncount.ensures.groups.objects c.uncount.ensures.classifiers.objects c.args.id (ap (λ m. m.entries) c.remove-removed.ensures.entries) in
    let sound = drop_rule_sound _ _ _ _ c.self.invariant _ c.self.view_is c.args.id in
    kept _ _ _ _ c.self.invariant _ c.self.view_is (DropRule c.args.id) c.uncount.new.groups c.uncount.new.classifiers c.remove-removed.new.map sound tt made
    c.uncount.ensures.groups.room c.uncount.ensures.classifiers.room
    (ap (λ m. m.room) c.remove-removed.ensures.entries)
    (drop_counts (λ r. r.group) c.self.inside.rules.entries c.args.id c.remove-removed.result c.remove-removed.ensures.removed _ c.self.invariant.group_counts _ c.uncount.ensures.groups.counts _ (ap (λ m. m.entries) c.remove-removed.ensures.entries))
    (drop_counts (λ r. r.classifier) c.self.inside.rules.entries c.args.id c.remove-removed.result c.remove-removed.ensures.removed _ c.self.invariant.classifier_counts _ c.uncount.ensures.classifiers.counts _ (ap (λ m. m.entries) c.remove-removed.ensures.entries))

pub returns : goal.returns
returns c =
    let made = rule_dropped _ _ _ _ c.self.invariant _ c.self.view_is c.uncount.new.groups c.uncount.new.classifiers c.remove-removed.new.map c.uncount.ensures.groups.objects c.uncount.ensures.classifiers.objects c.args.id (ap (λ m. m.entries) c.remove-removed.ensures.entries) in
    let sound = drop_rule_sound _ _ _ _ c.self.invariant _ c.self.view_is c.args.id in
    stepped _ _ _ _ c.self.invariant _ c.self.view_is (DropRule c.args.id) c.uncount.new.groups c.uncount.new.classifiers c.remove-removed.new.map sound made
