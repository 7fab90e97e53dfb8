use Rattle.std.proofs.Common.{◌<◌, length, arith, inl, inr}
use Rattle.std.proofs.lemmas.Option.{slice_get_cases}
use Rattle.matcher.specs.Rows.{moved_so_far}
use Rattle.matcher.proofs.IndexLemmas.{moved_none, moved_once, moved_all, moved_are_held, same_index}
use Rattle.matcher.proofs.index.RowIndex.move_group.Goals as goal

pub loop-at-init : goal.loop-at-init
loop-at-init c = same_index _ _ _ _ (moved_none c.args.store.now.objects c.args.group c.args.priority) c.requires.rows

pub move_rule-requires-clause-held : goal.move_rule-requires-clause-held
move_rule-requires-clause-held c =
    (moved_so_far c.args.store.now.objects c.args.group c.args.priority c.loop-at.at, c.loop-at.invariant, moved_are_held c.args.store.now.objects c.args.group c.args.priority c.loop-at.at)

pub loop-at-preserved : goal.loop-at-preserved
loop-at-preserved c =
    let objects = c.args.store.now.objects in
    let at = c.loop-at.at in
    let within : at < length objects.rules = omega arith in
    let so_far = moved_so_far objects c.args.group c.args.priority at in
    elim ((slice_get_cases objects.rules at).1) [
      | inl found ↦ same_index _ _ _ _ (moved_once objects c.args.group c.args.priority c.args.store.now.limits at found.0 c.requires.well_formed found.2) (c.move_rule.ensures found.0 so_far found.2 c.loop-at.invariant)
      | inr past ↦ absurd (omega (arith, past.0))
    ]

pub returns : goal.returns
returns c =
    same_index _ _ _ _ (λ q. moved_all c.args.store.now.objects c.args.group c.args.priority c.loop-at.at q (omega arith)) c.loop-at.invariant
