use Rattle.std.proofs.Common.{◌≡◌, ◌++◌, ◌∷◌, [], ap, ◌∙◌}
use Rattle.snapshots.specs.Seats.{copy_of}
use Rattle.snapshots.specs.declared.copied.Entry.TheVariants.{Blank}
use Rattle.snapshots.proofs.Publishing.{publishes_blank}
use Rattle.snapshots.proofs.opening.publish_blank.Goals as goal

pub publish_as-copies-requires : goal.publish_as-copies-requires
publish_as-copies-requires g c next is =
    let x = c.append.new.self.desk.shown.value in
    let stands : x ≡ copy_of x.tables.limits x.trail = rw c.in_default.ensures.desk c.requires.stands in
    let one = c.in_default.ensures.pending ∙ ap (λ xs. xs ++ Blank ∷ []) c.requires.waits in
    publishes_blank _ _ x next _ stands one is
