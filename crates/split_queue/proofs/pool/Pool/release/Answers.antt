use Rattle.std.proofs.Common.{refl, ◌∙◌, arith}
use Rattle.std.specs.Vec.{vec_capacity}
use Rattle.split_queue.proofs.LinkLaws.{AreChains-release}
use Rattle.split_queue.proofs.FreeingLaws.{free-sorted, IsPool-release}
use Rattle.split_queue.proofs.pool.Pool.release.Goals as goal

pub invariant_of-self : goal.invariant_of-self
invariant_of-self c =
    let owners = c.self.inside.owners.items in
    let free = c.self.inside.free.items in
    let now = free-sorted c.args.head owners free c.free_chain.new.free.items c.sort_behind.new.numbers.items c.len-kept.result (omega (arith, c.len-kept.ensures)) c.free_chain.ensures.front c.free_chain.ensures.out c.sort_behind.ensures.front c.sort_behind.ensures.moved c.sort_behind.ensures.sorted in
    let room = c.sort_behind.ensures.room ∙ c.free_chain.ensures.room in (
      rw (c.free_chain.ensures.owners, now, room) (IsPool-release c.args.head owners free (vec_capacity c.self.inside.free) c.self.invariant.0),
      rw c.free_chain.ensures.owners (AreChains-release owners c.self.inside.links.items c.args.head c.self.invariant.1),
    )

pub returns : goal.returns
returns c =
    let now = free-sorted c.args.head c.self.inside.owners.items c.self.inside.free.items c.free_chain.new.free.items c.sort_behind.new.numbers.items c.len-kept.result (omega (arith, c.len-kept.ensures)) c.free_chain.ensures.front c.free_chain.ensures.out c.sort_behind.ensures.front c.sort_behind.ensures.moved c.sort_behind.ensures.sorted in
    rw (← c.self.view_is, c.free_chain.ensures.owners, now) refl
