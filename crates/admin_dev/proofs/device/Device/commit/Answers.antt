use Rattle.admin_dev.proofs.DeviceLemmas.{parts_used, parts_set, parts_kept}
use Rattle.admin_dev.proofs.device.Device.commit.Goals as goal

pub invariant_of-self : goal.invariant_of-self
invariant_of-self c = parts_used _ _ _ _ c.self.invariant _ c.self.view_is _ c.requires _ c.in-Use.is

pub invariant_of-self-in-Caps : goal.invariant_of-self-in-Caps
invariant_of-self-in-Caps c = parts_set _ _ _ _ c.self.invariant _ c.self.view_is _ c.requires _ c.in-Caps.is

pub invariant_of-self-in-Change : goal.invariant_of-self-in-Change
invariant_of-self-in-Change c =
    parts_kept _ _ _ _ c.self.invariant _ c.self.view_is _ c.requires _ c.in-Change.is _ c.apply.ensures

pub returns-in-Use-clause-valid : goal.returns-in-Use-clause-valid
returns-in-Use-clause-valid c =
    let used = parts_used _ _ _ _ c.self.invariant _ c.self.view_is _ c.requires _ c.in-Use.is in used.valid

pub returns-in-Caps-clause-valid : goal.returns-in-Caps-clause-valid
returns-in-Caps-clause-valid c =
    let set = parts_set _ _ _ _ c.self.invariant _ c.self.view_is _ c.requires _ c.in-Caps.is in set.valid

pub returns-in-Change-clause-valid : goal.returns-in-Change-clause-valid
returns-in-Change-clause-valid c =
    let kept = parts_kept _ _ _ _ c.self.invariant _ c.self.view_is _ c.requires _ c.in-Change.is _ c.apply.ensures in
    kept.valid
