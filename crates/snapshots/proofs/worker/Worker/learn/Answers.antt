use Rattle.std.proofs.Common.{ap, sym, subst, ◌∙◌, ◌++◌, ◌∷◌, [], List}
use mathlib.Core.List.{IsPrefix}
use Rattle.ff_headers.specs.declared.change.Change.{Change}
use Rattle.snapshots.specs.Workers.{first_floor}
use Rattle.snapshots.proofs.Logging.{logged_on, floor_more}
use Rattle.snapshots.proofs.worker.Worker.learn.Goals as goal

pub returns-clause-logged : goal.returns-clause-logged
returns-clause-logged g c frames h =
    let floors = ap (λ w. w.floors) c.self.view_is in
    let p : IsPrefix (first_floor c.args.self.now.floors) (first_floor (g.D.Door.floors c.learn.new.self)) =
    subst (λ (fs : List (List Change)). IsPrefix (first_floor c.args.self.now.floors) (first_floor fs))
    (sym (c.learn.ensures.floors ∙ ap (λ (fs : List (List Change)). fs ++ c.args.told.list ∷ []) floors))
    (floor_more c.args.self.now.floors c.args.told.list) in
    logged_on _ _ (c.learn.ensures.same_limits ∙ ap (λ w. w.limits) c.self.view_is) (ap (λ w. w.log) c.self.view_is) p frames h
