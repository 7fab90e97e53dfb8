use Rattle.std.proofs.Common.{subst, sym}
use Rattle.admin_wire.specs.declared.command.CapData.TheVariants as caps
use Rattle.cap_table.specs.CapSets.{IsSettable}
use Rattle.cap_table.proofs.SettingLemmas.{settable}
use Rattle.cap_table.proofs.setting.may_set.Goals as goal

pub returns-in-Selectors-clause-settable : goal.returns-in-Selectors-clause-settable
returns-in-Selectors-clause-settable c = λ ok.
    let wanted = caps.Selectors c.in-Selectors.list in
    let first = c.may_set_selectors.ensures in
    subst IsSettable (sym c.in-Selectors.is) (settable c.args.device.now wanted c.may_set_selectors.result first ok)
