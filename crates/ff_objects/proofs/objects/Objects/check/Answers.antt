use Rattle.std.proofs.Common.{◌≡◌, ◌∙◌, ap, subst, true}
use Rattle.std.specs.Prelude.{IfOk}
use Rattle.ff_headers.specs.Changes.{is_sound}
use Rattle.ff_store.specs.LimitedObjects.{LimitedObjects}
use Rattle.ff_objects.proofs.CheckLemmas.{check_sound}
use Rattle.ff_objects.proofs.DropLemmas.{answers_unnamed}
use Rattle.ff_objects.proofs.objects.Objects.check.Goals as goal

pub returns-clause-sound : goal.returns-clause-sound
returns-clause-sound c =
    let inside = c.self.inside.store in
    let same : inside.limits ≡ c.args.device.now.limits
    = ap (λ (o : LimitedObjects). o.limits) c.self.view_is ∙ c.requires.limits in
    let told = c.checked_change.ensures in
    let sound = check_sound c.args.device.now c.args.driver.now inside.objects c.args.command.now _ told.refused in
    subst (λ (o : LimitedObjects). IfOk c.checked_change.result (λ change. is_sound o.limits o.objects change ≡ true))
    c.self.view_is (sound inside.limits same c.requires.at_most told.change)

pub returns-clause-unnamed : goal.returns-clause-unnamed
returns-clause-unnamed c =
    let self = c.args.self.now in answers_unnamed self.limits self.objects c.checked_change.result (returns-clause-sound c)
