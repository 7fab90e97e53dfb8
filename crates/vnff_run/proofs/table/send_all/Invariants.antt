-- The commands so far were sent.
use Rattle.std.proofs.Common.{◌≡◌, map, take}
use Rattle.cap_table.specs.Steps.{state_after}
use Rattle.ntuple_compile.specs.Acceptance.{AreSent}
use Rattle.vnff_run.specs.Programs.{sent_command}
use Rattle.vnff_run.proofs.table.send_all.Given as goal

abbrev pub invariant-loop-command : goal.invariant-loop-command
invariant-loop-command l = record {
  state : l.bench.device ≡ state_after l.initial.bench.device (map sent_command (take l.command-index l.commands));
  sent : AreSent (take l.command-index l.commands) (map sent_command (take l.command-index l.commands));
}
