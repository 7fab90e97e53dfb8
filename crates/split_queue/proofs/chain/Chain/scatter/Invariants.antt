use Rattle.split_queue.proofs.ScatterSteps.{IsScattering}
use Rattle.split_queue.proofs.chain.Chain.scatter.Given as goal

abbrev pub invariant-loop-piece : goal.invariant-loop-piece
invariant-loop-piece l = IsScattering l.fn.mem l.fn.self.writable.items l.fn.bytes l.mem l.piece-index l.rest
