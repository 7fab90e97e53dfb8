use Rattle.vnff_base.proofs.Gathering.{gathers_behind}
use Rattle.vnff_base.proofs.gathered.Gathered.put.Goals as goal

pub returns : goal.returns
returns g c = gathers_behind _ _ _ c.put_first.result c.in_ok-finish.ensures.written c.put_first.ensures
