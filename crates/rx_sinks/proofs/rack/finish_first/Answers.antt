use Rattle.std.proofs.Common.{◌<◌, length, arith}
use Rattle.rx_sinks.proofs.RackLemmas.{finished_next}
use Rattle.rx_sinks.proofs.rack.finish_first.Goals as goal

pub loop-queue-preserved : goal.loop-queue-preserved
loop-queue-preserved g c =
    let within : c.loop-queue.queue < length c.args.sinks.now.items = omega (arith, c.requires, c.loop-queue-test.true) in
    rw c.and-answer.ensures (finished_next g.S.RxSink.state c.loop-queue.queue c.args.sinks.now.items c.loop-queue.sinks.items _ _ c.loop-queue.answer _ within c.loop-queue.invariant c.index_mut.ensures.value c.finish-finished.ensures)
