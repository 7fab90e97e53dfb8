use Rattle.std.proofs.Common.{eqb}
use Rattle.ff_headers.specs.RuleParts.{RuleParts}
use Rattle.ff_store.proofs.EntryLemmas.{others_left}
use Rattle.ff_store.proofs.store.Store.other_rules_in_group.Goals as goal

pub overflow_sub-result : goal.overflow_sub-result
overflow_sub-result c =
    (others_left (λ (r : RuleParts). eqb r.group c.args.group) c.args.self.now.objects.rules c.args.id c.is_in_group.ensures.rising _ _ _ c.rules_in_group.ensures c.from.ensures c.is_in_group.ensures.value).0

pub returns : goal.returns
returns c =
    (others_left (λ (r : RuleParts). eqb r.group c.args.group) c.args.self.now.objects.rules c.args.id c.is_in_group.ensures.rising _ _ _ c.rules_in_group.ensures c.from.ensures c.is_in_group.ensures.value).1
