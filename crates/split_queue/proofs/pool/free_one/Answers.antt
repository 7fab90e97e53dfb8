use Rattle.split_queue.proofs.PoolLaws.{IsPool-free}
use Rattle.split_queue.proofs.pool.free_one.Goals as goal

pub returns-clause-pool : goal.returns-clause-pool
returns-clause-pool c =
    rw (c.push_reserved.ensures.items, c.push_reserved.ensures.capacity) (IsPool-free _ _ c.args.number _ c.requires.out c.requires.pool)
