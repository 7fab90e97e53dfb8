-- One more action is counted where it belongs.
use Rattle.std.proofs.Common.{arith}
use Rattle.generated_load.proofs.CountLemmas.{counts-default, counts-drop, counts-past, counts-queue}
use Rattle.generated_load.proofs.counts.ActionCounts.add.Goals as goal

pub overflow_add-self-then-place-lt-QUEUES : goal.overflow_add-self-then-place-lt-QUEUES
overflow_add-self-then-place-lt-QUEUES c = omega (arith, c.requires.queues c.from-place.result)

pub returns-in-Drop : goal.returns-in-Drop
returns-in-Drop c = λ actions is. rw c.in-Drop.is (counts-drop c.args.self.now actions is)

pub returns-in-Default : goal.returns-in-Default
returns-in-Default c = λ actions is. rw c.in-Default.is (counts-default c.args.self.now actions is)

pub returns-then-place-lt-QUEUES : goal.returns-then-place-lt-QUEUES
returns-then-place-lt-QUEUES c = λ actions is.
    rw (c.in-Queue.is, ← c.from-place.ensures) (counts-queue c.args.self.now actions is c.from-place.result c.if-place-lt-QUEUES.true)

pub returns-else-place-lt-QUEUES : goal.returns-else-place-lt-QUEUES
returns-else-place-lt-QUEUES c = λ actions is.
    rw (c.in-Queue.is, ← c.from-place.ensures) (counts-past c.args.self.now actions is c.from-place.result (omega (arith, c.if-place-lt-QUEUES.false)))
