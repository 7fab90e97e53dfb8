use Rattle.split_queue.proofs.PostLaws.{clears-none, clears-more}
use Rattle.split_queue.proofs.ring.clear.Goals as goal

pub loop-cleared-init : goal.loop-cleared-init
loop-cleared-init c = clears-none _ _

pub loop-cleared-preserved : goal.loop-cleared-preserved
loop-cleared-preserved c =
    let writes = rw c.unwrap.ensures at c.write.ensures.written in
    clears-more _ _ _ _ _ writes c.loop-cleared.invariant
