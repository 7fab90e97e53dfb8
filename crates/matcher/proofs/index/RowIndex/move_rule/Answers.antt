use Rattle.std.proofs.Common.{◌≡◌, Some, sym, ap, ◌∙◌}
use Rattle.std.specs.Prelude.{slice_get}
use Rattle.ff_headers.specs.Places.{RuleEntry}
use Rattle.matcher.proofs.IndexLemmas.{held_at, held_has_room, same_index, moved_yes, moved_no}
use Rattle.matcher.specs.Rows.{moved}
use Rattle.matcher.proofs.index.RowIndex.move_rule.Goals as goal

pub renew-requires-clause-backed : goal.renew-requires-clause-backed
renew-requires-clause-backed c =
    let store = c.args.store.now in
    let entry : RuleEntry = (c.in-Some.id, c.in-Some.rule.now) in
    let is = sym (rw c.in-Some.is at c.rule_at.ensures) in
    c.requires.well_formed.backed entry.0 entry.1 (held_at store.limits store.objects c.args.at entry c.requires.well_formed is)

pub renew-requires-clause-fits : goal.renew-requires-clause-fits
renew-requires-clause-fits c =
    let store = c.args.store.now in
    let entry : RuleEntry = (c.in-Some.id, c.in-Some.rule.now) in
    let is = sym (rw c.in-Some.is at c.rule_at.ensures) in
    held_has_room store.objects.rules c.in-Some.id store.limits.rules entry.1 (held_at store.limits store.objects c.args.at entry c.requires.well_formed is)

pub returns-then-group : goal.returns-then-group
returns-then-group c = λ entry kept at was.
    let mine : RuleEntry = (c.in-Some.id, c.in-Some.rule.now) in
    let is : slice_get c.args.store.now.objects.rules c.args.at ≡ Some mine = sym (rw c.in-Some.is at c.rule_at.ensures) in
    let same : entry ≡ mine = cc (at, is) in
    let objects = c.args.store.now.objects in
    let named : c.in-Some.rule.now.group ≡ c.args.group = sym c.group.ensures ∙ c.if-group.true in
    same_index c.args.store.now.limits _ _ c.renew.new.self (λ q. sym (ap (λ (e : RuleEntry). moved objects c.args.group c.args.priority e kept q) same ∙ moved_yes objects c.args.group c.args.priority mine kept q named)) (c.renew.ensures kept was)

pub returns-else-group : goal.returns-else-group
returns-else-group c = λ entry kept at was.
    let mine : RuleEntry = (c.in-Some.id, c.in-Some.rule.now) in
    let is : slice_get c.args.store.now.objects.rules c.args.at ≡ Some mine = sym (rw c.in-Some.is at c.rule_at.ensures) in
    let same : entry ≡ mine = cc (at, is) in
    let objects = c.args.store.now.objects in
    let other = (λ (e : c.in-Some.rule.now.group ≡ c.args.group). c.if-group.false (c.group.ensures ∙ e)) in
    same_index c.args.store.now.limits _ _ c.args.self.now (λ q. sym (ap (λ (e : RuleEntry). moved objects c.args.group c.args.priority e kept q) same ∙ moved_no objects c.args.group c.args.priority mine kept q other)) was
