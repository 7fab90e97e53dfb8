-- There is a sink for each queue so far.
use Rattle.std.proofs.Common.{◌≡◌, length}
use Rattle.vnff_tests.proofs.steered.steered.Given as goal

abbrev pub invariant-loop-queue : goal.invariant-loop-queue
invariant-loop-queue l = length l.sinks.items ≡ l.queue
