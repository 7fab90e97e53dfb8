use Rattle.std.proofs.Common.{◌≡◌, ◌⊎◌, ◌<◌, ◌∙◌, Some, length, sym, subst, arith}
use Rattle.std.proofs.Math.ListN.{set, length-set}
use Rattle.std.proofs.lemmas.List.{get_or_default}
use Rattle.split_queue.specs.Pools.{PoolState, AreFree, AreChains, owner_of, first_free}
use Rattle.split_queue.proofs.PoolLaws.{last_free, IsPool-claim}
use Rattle.split_queue.proofs.LinkLaws.{claim-known, head-below, AreChains-claim}
use Rattle.split_queue.proofs.pool.Pool.claim.Goals as goal

pub index_mut-requires : goal.index_mut-requires
index_mut-requires c =
    let is = rw c.unwrap-number.ensures at c.pop.ensures.items in
    let last = last_free c.self.inside.owners.items c.pop.new.self.items c.unwrap-number.result (subst (AreFree c.self.inside.owners.items) is c.self.invariant.0.free_list) in
    omega (arith, last.0)

pub index-requires : goal.index-requires
index-requires c =
    let is = rw c.unwrap-number.ensures at c.pop.ensures.items in
    let last = last_free c.self.inside.owners.items c.pop.new.self.items c.unwrap-number.result (subst (AreFree c.self.inside.owners.items) is c.self.invariant.0.free_list) in
    let chains = c.self.invariant.1 in
    let known = subst (λ (p : PoolState). (first_free p.free ≡ c.args.head) ⊎ (owner_of p.owners c.args.head ≡ Some c.args.head)) (sym c.self.view_is) c.requires.known in
    let here = claim-known c.self.inside.owners.items c.self.inside.free.items c.pop.new.self.items c.unwrap-number.result c.args.head is known in
    let below = head-below c.self.inside.owners.items c.self.inside.links.items c.unwrap-number.result c.args.head last.0 last.1 here chains in
    omega (arith, below, chains.same_size)

pub index_mut-requires-2 : goal.index_mut-requires-2
index_mut-requires-2 c =
    let is = rw c.unwrap-number.ensures at c.pop.ensures.items in
    let last = last_free c.self.inside.owners.items c.pop.new.self.items c.unwrap-number.result (subst (AreFree c.self.inside.owners.items) is c.self.invariant.0.free_list) in
    omega (arith, last.0, c.self.invariant.1.same_size)

pub index_mut-requires-3 : goal.index_mut-requires-3
index_mut-requires-3 c =
    let is = rw c.unwrap-number.ensures at c.pop.ensures.items in
    let last = last_free c.self.inside.owners.items c.pop.new.self.items c.unwrap-number.result (subst (AreFree c.self.inside.owners.items) is c.self.invariant.0.free_list) in
    let chains = c.self.invariant.1 in
    let known = subst (λ (p : PoolState). (first_free p.free ≡ c.args.head) ⊎ (owner_of p.owners c.args.head ≡ Some c.args.head)) (sym c.self.view_is) c.requires.known in
    let here = claim-known c.self.inside.owners.items c.self.inside.free.items c.pop.new.self.items c.unwrap-number.result c.args.head is known in
    let below = head-below c.self.inside.owners.items c.self.inside.links.items c.unwrap-number.result c.args.head last.0 last.1 here chains in
    omega (arith, below, chains.same_size, length-set c.self.inside.links.items c.unwrap-number.result c.index.result.now)

pub invariant_of-self : goal.invariant_of-self
invariant_of-self c =
    let is = rw c.unwrap-number.ensures at c.pop.ensures.items in
    let last = last_free c.self.inside.owners.items c.pop.new.self.items c.unwrap-number.result (subst (AreFree c.self.inside.owners.items) is c.self.invariant.0.free_list) in
    let chains = c.self.invariant.1 in
    let known = subst (λ (p : PoolState). (first_free p.free ≡ c.args.head) ⊎ (owner_of p.owners c.args.head ≡ Some c.args.head)) (sym c.self.view_is) c.requires.known in
    let here = claim-known c.self.inside.owners.items c.self.inside.free.items c.pop.new.self.items c.unwrap-number.result c.args.head is known in
    let below = head-below c.self.inside.owners.items c.self.inside.links.items c.unwrap-number.result c.args.head last.0 last.1 here chains in
    let inside : c.args.head < length c.self.inside.links.items = omega (arith, below, chains.same_size) in (
      rw c.pop.ensures.capacity (IsPool-claim c.self.inside.owners.items c.self.inside.free.items c.pop.new.self.items c.unwrap-number.result c.args.head _ is c.self.invariant.0),
      subst (λ l. AreChains (set c.self.inside.owners.items c.unwrap-number.result (Some c.args.head)) (set (set c.self.inside.links.items c.unwrap-number.result l) c.args.head c.unwrap-number.result))
          (sym (c.index.ensures ∙ get_or_default c.self.inside.links.items c.args.head _ 0 inside))
          (AreChains-claim c.self.inside.owners.items c.self.inside.links.items c.unwrap-number.result c.args.head last.0 last.1 here chains),
    )

pub returns-clause-was_free : goal.returns-clause-was_free
returns-clause-was_free c =
    let is = rw c.unwrap-number.ensures at c.pop.ensures.items in
    let last = last_free c.self.inside.owners.items c.pop.new.self.items c.unwrap-number.result (subst (AreFree c.self.inside.owners.items) is c.self.invariant.0.free_list) in
    rw (← c.self.view_is) last.1

pub returns-clause-within : goal.returns-clause-within
returns-clause-within c =
    let is = rw c.unwrap-number.ensures at c.pop.ensures.items in
    let last = last_free c.self.inside.owners.items c.pop.new.self.items c.unwrap-number.result (subst (AreFree c.self.inside.owners.items) is c.self.invariant.0.free_list) in
    rw (← c.self.view_is) last.0
