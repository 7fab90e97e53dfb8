use Rattle.std.proofs.Common.{◌≡◌, List, sym, subst}
use Rattle.std.specs.Result.{result_err}
use Rattle.admin_wire.specs.declared.command.Command.{Command}
use Rattle.cap_table.specs.Verdicts.{Row, first_verdict, command_rows}
use Rattle.ff_objects.proofs.check.checked_change.Goals as goal

pub returns-in-Destroy-clause-refused : goal.returns-in-Destroy-clause-refused
returns-in-Destroy-clause-refused c =
    let caps = c.args.device.now in
    let driver = c.args.driver.now in
    let rows : Command → List Row = λ command. command_rows caps driver c.args.store.now.objects command in
    subst (λ command. result_err c.destroyed.result ≡ first_verdict (rows command)) (sym c.in-Destroy.is)
    (c.destroyed.ensures.refused caps driver)
