use Rattle.steer.proofs.ChainLemmas.{bench_is_placed}
use Rattle.steer.proofs.bench.Bench.new.Goals as goal

pub fresh_ends-requires : goal.fresh_ends-requires
fresh_ends-requires c = rw c.in_ok-mem.ensures bench_is_placed
