use Rattle.std.proofs.Common.{map}
use Rattle.rx_sinks.specs.Racks.{FinishesFirst}
use Rattle.rx_sinks.proofs.rack.finish_first.Given as goal

abbrev pub invariant-loop-queue : goal.invariant-loop-queue
invariant-loop-queue g l = FinishesFirst l.queue (map g.S.RxSink.state l.initial.sinks.items) (map g.S.RxSink.state l.sinks.items) l.answer
