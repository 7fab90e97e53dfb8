use Rattle.rx_sinks.proofs.RackLemmas.{one_sink}
use Rattle.rx_sinks.proofs.rack.deliver_to.Goals as goal

pub returns : goal.returns
returns g c = one_sink _ _ _ _ _ _ c.requires.queue c.index_mut.ensures.value c.deliver.ensures
