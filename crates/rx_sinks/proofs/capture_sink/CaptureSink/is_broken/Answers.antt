use Rattle.rx_sinks.specs.CaptureSinks.{CaptureSinkState}
use Rattle.rx_sinks.proofs.CaptureSinkLemmas.{tells_written}
use Rattle.rx_sinks.proofs.capture_sink.CaptureSink.is_broken.Goals as goal

pub returns-clause-written : goal.returns-clause-written
returns-clause-written g c =
    let sink : CaptureSinkState = record { output = g.O.Out.state c.self.inside.out; begun = c.self.inside.begun; broken = c.self.inside.broken; refused = c.self.inside.refused } in
    rw (← c.self.view_is) (tells_written sink c.self.invariant)
