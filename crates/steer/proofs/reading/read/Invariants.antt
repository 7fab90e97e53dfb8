use Rattle.steer.specs.LiveSteps.{HasNotRead}
use Rattle.steer.proofs.reading.read.Given as goal

abbrev pub invariant-loop : goal.invariant-loop
invariant-loop g l =
    (goal.iterator-loop g).can_next l.iterator' × (goal.iterator-loop g).is_finite l.iterator' × HasNotRead l.initial.worker l.worker
