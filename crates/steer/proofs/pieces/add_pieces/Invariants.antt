use Rattle.steer.proofs.PieceLemmas.{IsCutting}
use Rattle.steer.proofs.pieces.add_pieces.Given as goal

abbrev pub invariant-loop : goal.invariant-loop
invariant-loop l = IsCutting l.fn.pieces.items l.addr l.len l.step l.counter l.pieces.items l.start l.rest
