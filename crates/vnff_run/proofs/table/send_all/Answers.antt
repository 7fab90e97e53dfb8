use Rattle.std.proofs.Common.{arith, refl}
use Rattle.cap_table.specs.Steps.{state_after}
use Rattle.vnff_run.proofs.SentCommands.{are_sent, state_is_sent}
use Rattle.vnff_run.proofs.table.send_all.Goals as goal

pub loop-command-init : goal.loop-command-init
unfolding state_after
loop-command-init c = record { state = refl; sent = tt }

pub loop-command-preserved : goal.loop-command-preserved
loop-command-preserved c =
    let i = c.loop-command.command-index in
    let commands = c.args.commands.now in
    record {
      state = state_is_sent _ _ _ commands i c.command-item.result c.loop-command.invariant.state (omega arith) c.command-item.is c.send.ensures.state;
      sent = are_sent commands i c.command-item.result c.loop-command.invariant.sent (omega arith) c.command-item.is c.send.ensures.sent;
    }
