use Rattle.split_queue.proofs.ChainSteps.{IsWalking}
use Rattle.split_queue.proofs.walk.fill_chain.Given as goal

abbrev pub invariant-loop : goal.invariant-loop
invariant-loop l = IsWalking l.mem l.place l.head l.visited.items l.chain l.counter l.number
