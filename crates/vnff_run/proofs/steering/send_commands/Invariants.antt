-- The commands so far were sent.
use Rattle.std.proofs.Common.{◌≡◌, take}
use Rattle.vnff_run.specs.Replay.{state_after_items}
use Rattle.vnff_run.proofs.steering.send_commands.Given as goal

abbrev pub invariant-loop-item : goal.invariant-loop-item
invariant-loop-item l = l.bench.device ≡ state_after_items l.initial.bench.device (take l.item-index l.items)
