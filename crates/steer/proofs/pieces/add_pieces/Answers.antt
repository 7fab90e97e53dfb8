use Rattle.std.proofs.Common.{arith}
use Rattle.steer.proofs.PieceLemmas.{cutting-none, cutting-more, cutting-all}
use Rattle.steer.proofs.pieces.add_pieces.Goals as goal

pub loop-init : goal.loop-init
loop-init c = cutting-none _ _ _ _

pub loop-preserved : goal.loop-preserved
loop-preserved c =
    rw (c.push.ensures.items, c.from-start.ensures)
    (cutting-more _ _ _ _ _ _ _ _ _ (omega arith) c.min-part.ensures c.loop.invariant)

pub returns : goal.returns
returns c = cutting-all _ _ _ _ _ _ _ _ (omega arith) c.loop.invariant
