use Rattle.split_queue.proofs.PostLaws.{IsPosting}
use Rattle.split_queue.proofs.driver_end.put_chain.Given as goal

abbrev pub invariant-loop-i : goal.invariant-loop-i
invariant-loop-i l = IsPosting l.place l.head l.fn.mem l.pieces l.readable l.fn.pool l.i l.mem l.pool
