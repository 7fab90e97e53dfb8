use Rattle.std.proofs.Common.{ap, map}
use Rattle.std.specs.List.{range_with_len}
use Rattle.admin_wire.specs.declared.command.Command.TheVariants.{Create}
use Rattle.admin_wire.specs.declared.command.ObjData.TheVariants.{Group}
use Rattle.ntuple_compile.specs.Compiled.{create_group}
use Rattle.ntuple_compile.proofs.CommandLemmas.{groups_more, pushed}
use Rattle.ntuple_compile.proofs.commands.create_groups.Goals as goal

pub loop-id-preserved : goal.loop-id-preserved
loop-id-preserved c =
    let id = c.loop-id.id in
    let head = rw c.from.ensures at c.create_head-head.ensures in
    let item = ap (λ h. Create h (Group id)) head in
    let front = map create_group (map (λ g. (g, g)) (range_with_len 0 id)) in
    pushed c.args.commands.now front _ c.loop-id.commands c.push.new.self (create_group (id, id)) c.loop-id.invariant (rw item at c.in_ok-push.ensures.ok) (groups_more id)
