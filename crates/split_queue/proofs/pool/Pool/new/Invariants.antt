use Rattle.std.proofs.Common.{◌≡◌}
use Rattle.std.specs.Vec.{vec_capacity}
use Rattle.split_queue.proofs.PoolLaws.{IsFilling}
use Rattle.split_queue.proofs.pool.Pool.new.Given as goal

abbrev pub invariant-loop-i : goal.invariant-loop-i
invariant-loop-i l = IsFilling l.size l.i l.free.items × (vec_capacity l.free ≡ l.size)
