use Rattle.std.proofs.Common.{◌≡◌, ℕ, List}
use Rattle.std.specs.Vec.{vec_capacity}
use Rattle.split_queue.specs.Pools.{out_count, IsPool}
use Rattle.split_queue.proofs.FreeingLaws.{IsFreeing}
use Rattle.split_queue.proofs.pool.free_chain.Given as goal

abbrev pub invariant-loop-number : goal.invariant-loop-number
invariant-loop-number l = record {
  freeing : (front rest : List ℕ)
      × IsFreeing l.head l.fn.owners.items l.links l.fn.free.items front rest l.owners.items l.free.items l.number;
  pool : IsPool l.owners.items l.free.items (vec_capacity l.free);
  room : vec_capacity l.free ≡ vec_capacity l.fn.free;
}

abbrev pub decreases-loop-number : goal.decreases-loop-number
decreases-loop-number l = out_count l.owners.items
