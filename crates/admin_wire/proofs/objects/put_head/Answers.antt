use Rattle.admin_wire.proofs.Writing.{WritesFields-more}
use Rattle.admin_wire.proofs.objects.put_head.Goals as goal

pub returns : goal.returns
returns c = WritesFields-more c.put_bare_head.ensures c.put_64.ensures
