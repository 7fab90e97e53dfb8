use Rattle.std.proofs.Common.{◌≡◌, ◌<◌, ◌-◌, None, length, sym, subst, ap, arith}
use Rattle.split_queue.specs.Pools.{PoolState, owner_of}
use Rattle.split_queue.proofs.PoolLaws.{free_at}
use Rattle.split_queue.proofs.pool.Pool.first.Goals as goal

pub returns-clause-was_free : goal.returns-clause-was_free
returns-clause-was_free c =
    let some : 0 < length c.self.inside.free.items = rw (ap (λ (p : PoolState). p.free) c.self.view_is) c.requires in
    let facts = free_at c.self.inside.owners.items c.self.inside.free.items (c.len.result - 1) c.index.result.now (omega (arith, some, c.len.ensures)) c.self.invariant.0.free_list in
    rw (← c.self.view_is) (subst (λ n. owner_of c.self.inside.owners.items n ≡ None) (sym c.index.ensures) facts.1)

pub returns-clause-within : goal.returns-clause-within
returns-clause-within c =
    let some : 0 < length c.self.inside.free.items = rw (ap (λ (p : PoolState). p.free) c.self.view_is) c.requires in
    let facts = free_at c.self.inside.owners.items c.self.inside.free.items (c.len.result - 1) c.index.result.now (omega (arith, some, c.len.ensures)) c.self.invariant.0.free_list in
    rw (← c.self.view_is) (subst (λ n. n < length c.self.inside.owners.items) (sym c.index.ensures) facts.0)
