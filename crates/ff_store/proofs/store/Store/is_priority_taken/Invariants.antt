-- No group so far has the priority.
use Rattle.std.proofs.Common.{◌≡◌, ◌&&◌, false, not, take}
use Rattle.std.specs.Prelude.{◌==◌}
use Rattle.std.specs.List.{list_any}
use Rattle.ff_store.proofs.store.Store.is_priority_taken.Given as goal

abbrev pub invariant-loop-place : goal.invariant-loop-place
invariant-loop-place l = list_any (λ e. not (e.0 == l.id) && (e.1 == l.priority)) (take l.place l.self.objects.groups) ≡ false
