use Rattle.matcher.specs.Rows.{kept_under}
use Rattle.matcher.proofs.IndexLemmas.{same_index, index_stepped, index_closed, rule_dropped, group_dropped, classifier_put, classifier_dropped}
use Rattle.matcher.proofs.index.RowIndex.apply_sound.Goals as goal

pub returns-in-PutRule : goal.returns-in-PutRule
returns-in-PutRule c =
    let sound = c.requires.sound in
    index_stepped _ _ _ _ sound (rw c.in-PutRule.is c.put_rule.ensures)

pub returns-in-DropRule : goal.returns-in-DropRule
returns-in-DropRule c =
    let sound = c.requires.sound in
    let objects = c.args.store.now.objects in
    index_stepped _ _ _ _ sound (rw c.in-DropRule.is (same_index _ _ _ _ (λ q. rule_dropped objects _ q c.limits-well_formed.ensures.well_formed.by_id.rules_rise) (c.drop_rule.ensures (kept_under objects) c.requires.rows)))

pub returns-in-PutGroup : goal.returns-in-PutGroup
returns-in-PutGroup c =
    let sound = c.requires.sound in
    index_stepped _ _ _ _ sound (rw c.in-PutGroup.is c.move_group.ensures)

pub returns-in-DropGroup : goal.returns-in-DropGroup
returns-in-DropGroup c =
    let sound = c.requires.sound in
    let it = rw c.in-DropGroup.is at sound in
    index_stepped _ _ _ _ sound (rw c.in-DropGroup.is (same_index _ _ _ _ (λ q. group_dropped _ _ _ q c.limits-well_formed.ensures.well_formed it) c.requires.rows))

pub returns-in-PutClassifier : goal.returns-in-PutClassifier
returns-in-PutClassifier c =
    let sound = c.requires.sound in
    let it = rw c.in-PutClassifier.is at sound in
    index_stepped _ _ _ _ sound (rw c.in-PutClassifier.is (same_index _ _ _ _ (λ q. classifier_put _ _ _ q _ c.limits-well_formed.ensures.well_formed it) c.requires.rows))

pub returns-in-DropClassifier : goal.returns-in-DropClassifier
returns-in-DropClassifier c =
    let sound = c.requires.sound in
    let it = rw c.in-DropClassifier.is at sound in
    index_stepped _ _ _ _ sound (rw c.in-DropClassifier.is (same_index _ _ _ _ (λ q. classifier_dropped _ _ _ q c.limits-well_formed.ensures.well_formed it) c.requires.rows))

pub returns-in-Close : goal.returns-in-Close
returns-in-Close c =
    let sound = c.requires.sound in
    let it = rw c.in-Close.is at sound in
    rw c.in-Close.is (index_closed _ _ _ it)
