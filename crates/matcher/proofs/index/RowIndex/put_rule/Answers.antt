use Rattle.std.proofs.Common.{ap, ◌∙◌}
use Rattle.matcher.specs.Rows.{with_kept, kept_by, kept_under}
use Rattle.matcher.proofs.IndexLemmas.{rule_sound, kept_are_held, rule_put, same_index}
use Rattle.matcher.proofs.index.RowIndex.put_rule.Goals as goal

pub renew-requires-clause-backed : goal.renew-requires-clause-backed
renew-requires-clause-backed c = (rule_sound _ _ _ _ c.requires.sound).0

pub renew-requires-clause-fits : goal.renew-requires-clause-fits
renew-requires-clause-fits c = (rule_sound _ _ _ _ c.requires.sound).1

pub renew-requires-clause-held : goal.renew-requires-clause-held
renew-requires-clause-held c = (kept_under c.args.store.now.objects, c.requires.rows, kept_are_held c.args.store.now.objects)

pub returns : goal.returns
returns c =
    let objects = c.args.store.now.objects in
    let priority = rw (c.group_priority.ensures, c.group.ensures) at c.unwrap_or-group_priority.ensures in
    let kept = kept_under objects in
    same_index c.args.store.now.limits _ _ c.renew.new.self (λ q. ap (λ n. with_kept kept c.args.id (kept_by objects n (c.args.id, c.args.rule.now)) q) priority ∙ rule_put objects c.args.id c.args.rule.now q) (c.renew.ensures kept c.requires.rows)
