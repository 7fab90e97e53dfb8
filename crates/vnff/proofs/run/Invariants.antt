-- There is a sink for each queue so far.
use Rattle.std.proofs.Common.{◌≡◌, length}
use Rattle.vnff.proofs.run.Given as goal

abbrev pub invariant-loop-queue : goal.invariant-loop-queue
invariant-loop-queue g l = length l.sinks.items ≡ l.queue-counter
