use Rattle.std.proofs.Common.{◌≡◌, ◌∙◌}
use Rattle.snapshots.specs.Lists.{with_more}
use Rattle.snapshots.proofs.Publishing.{may_show, some_and}
use Rattle.snapshots.proofs.published.Published.add.Goals as goal

pub publish-requires : goal.publish-requires
publish-requires g c =
    let more : c.again.result ≡ with_more c.self.inside.pen c.args.change = c.again.ensures ∙ c.in-Some.ensures in
    some_and c.self.inside.copies _ _ c.self.invariant
    (λ x h. (h.0, may_show c.self.inside.limits c.self.inside.pen c.again.result c.args.change x.desk.shown.value h.1 more))

pub invariant_of-self : goal.invariant_of-self
invariant_of-self g c =
    (c.in-Err.ensures c.self.inside.limits c.self.inside.pen (some_and c.self.inside.copies _ _ c.self.invariant (λ x h. h.1))).1

pub returns-in-Err : goal.returns-in-Err
returns-in-Err g c = (
  (c.in-Err.ensures c.self.inside.limits c.self.inside.pen (some_and c.self.inside.copies _ _ c.self.invariant (λ x h. h.1))).0,
  c.self.view_is,
)

pub invariant_of-self-2 : goal.invariant_of-self-2
invariant_of-self-2 g c =
    let done = c.in_default-publish.ensures c.self.inside.limits c.self.inside.pen (some_and c.self.inside.copies _ _ c.self.invariant (λ x h. h.1)) in
    rw (c.set_trail.ensures, ← c.again.ensures) done
