use Rattle.admin_wire.proofs.Writing.{WritesFields-more}
use Rattle.admin_wire.proofs.capabilities.put_limits.Goals as goal

pub returns : goal.returns
returns c =
    let groups = WritesFields-more c.put_32.ensures c.put_32-2.ensures in
    let counts = WritesFields-more (WritesFields-more groups c.put_32-3.ensures) c.put_32-4.ensures in
    WritesFields-more (WritesFields-more counts c.put_8.ensures) c.put_8-2.ensures
