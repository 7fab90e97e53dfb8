use Rattle.std.proofs.Common.{◌≡◌}
use Rattle.steer.specs.LiveSteps.{HaveTurned, HasLearned}
use Rattle.steer.proofs.workers.tell_all.Given as goal

abbrev pub invariant-loop-place : goal.invariant-loop-place
invariant-loop-place l = (l.end ≡ l.initial.end) × HaveTurned (λ _. HasLearned l.initial.end.list) l.place l.initial.readers l.readers
