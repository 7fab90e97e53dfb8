use Rattle.std.proofs.Common.{◌<◌, length, arith, refl}
use Rattle.cap_table.specs.Steps.{state_after}
use Rattle.vnff_run.proofs.ReplayLemmas.{state_is}
use Rattle.vnff_run.proofs.steering.send_commands.Goals as goal

pub loop-item-init : goal.loop-item-init
unfolding state_after
loop-item-init c = refl

pub loop-item-preserved : goal.loop-item-preserved
loop-item-preserved c =
    let items = c.args.items.now in
    let within : c.loop-item.item-index < length items = omega arith in
    state_is _ _ _ items c.loop-item.item-index _ c.loop-item.invariant within c.item-item.is c.send_command.ensures
