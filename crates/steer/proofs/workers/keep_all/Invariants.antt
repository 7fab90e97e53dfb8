use Rattle.steer.specs.LiveSteps.{HaveTurned, HasKept}
use Rattle.steer.proofs.workers.keep_all.Given as goal

abbrev pub invariant-loop-place : goal.invariant-loop-place
invariant-loop-place l = HaveTurned (HasKept l.n l.workers) l.place l.initial.readers l.readers
