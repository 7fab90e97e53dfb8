use Rattle.split_queue.specs.Rings.{ClearsArea}
use Rattle.split_queue.proofs.ring.clear.Given as goal

abbrev pub invariant-loop-cleared : goal.invariant-loop-cleared
invariant-loop-cleared l = ClearsArea l.fn.mem l.mem (record { start = l.area.start; len = l.cleared })
