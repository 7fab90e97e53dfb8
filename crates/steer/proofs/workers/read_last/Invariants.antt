use Rattle.std.proofs.Common.{◌≡◌}
use Rattle.steer.specs.LiveSteps.{HaveTurned, HasReadLast}
use Rattle.steer.proofs.workers.read_last.Given as goal

abbrev pub invariant-loop-place : goal.invariant-loop-place
invariant-loop-place g l = (l.closed ≡ l.initial.closed) × HaveTurned (λ _. HasReadLast l.initial.closed.list) l.place l.initial.readers l.readers
