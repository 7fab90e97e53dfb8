use Rattle.std.proofs.Common.{◌∙◌}
use Rattle.split_queue.proofs.PoolLaws.{filling-more}
use Rattle.split_queue.proofs.pool.Pool.new.Goals as goal

pub loop-i-preserved : goal.loop-i-preserved
loop-i-preserved c =
    (rw c.push_reserved.ensures.items (filling-more c.args.size c.loop-i.i c.loop-i.free.items c.loop-i-test.true c.loop-i.invariant.0), c.push_reserved.ensures.capacity ∙ c.loop-i.invariant.1)
