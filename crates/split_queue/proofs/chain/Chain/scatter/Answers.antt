use Rattle.split_queue.proofs.ScatterSteps.{scatter-step}
use Rattle.split_queue.proofs.chain.Chain.scatter.Goals as goal

pub loop-piece-preserved : goal.loop-piece-preserved
loop-piece-preserved c =
    let after = rw c.unwrap.ensures at c.write.ensures.ok in
    let writes = rw c.unwrap.ensures at c.write.ensures.written in
    let below = rw c.as_slice-piece-items.ensures.value at c.loop-piece-test.true in
    let after_part = rw (c.split_at.ensures.front, c.min.ensures, c.as_slice-piece-items.ensures.value) at after in
    let writes_part = rw (c.split_at.ensures.front, c.min.ensures, c.as_slice-piece-items.ensures.value) at writes in
    rw (c.split_at.ensures.back, c.min.ensures, c.as_slice-piece-items.ensures.value) (scatter-step _ _ _ _ _ _ _ _ below after_part writes_part c.loop-piece.invariant)
