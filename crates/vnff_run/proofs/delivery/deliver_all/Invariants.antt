-- The frames so far were delivered and counted.
use Rattle.std.proofs.Common.{◌≡◌, length, map, take}
use Rattle.vnff_run.specs.Tallies.{IsTallyOf}
use Rattle.vnff_run.proofs.DeliveryLemmas.{Got}
use Rattle.vnff_run.proofs.delivery.deliver_all.Given as goal

abbrev pub invariant-loop-place : goal.invariant-loop-place
invariant-loop-place g l = record {
  end : l.place-end ≡ length l.frames;
  tally : IsTallyOf l.bench.device.objects (take l.place l.frames) l.tally;
  sinks : Got l.bench.device.caps.pairs l.bench.device.objects (take l.place l.frames)
      (map (λ b. (goal.RxSink-dyn g (b.vtable, b.value)).state b.value) l.initial.rack.sinks.items)
      (map (λ b. (goal.RxSink-dyn g (b.vtable, b.value)).state b.value) l.rack.sinks.items);
}
