use Rattle.std.proofs.Common.{◌≡◌, ◌<◌, ℕ, Some, length, take, sym, ap, ◌∙◌, subst, arith, []}
use Rattle.std.proofs.lemmas.List.{take_all}
use Rattle.vnff_run.specs.Deliveries.{steering_on}
use Rattle.vnff_run.specs.Steering.{queue_of}
use Rattle.vnff_run.specs.Tallies.{IsTallyOf}
use Rattle.vnff_run.proofs.DeliveryLemmas.{fails_at, front_more, got_all, got_failed, got_more, got_none, queue_within, room_dropped, room_queue}
use Rattle.vnff_run.proofs.PacketLemmas.{packet_is_there}
use Rattle.vnff_run.proofs.TallyLemmas.{tally_more, tally_none}
use Rattle.vnff_run.proofs.delivery.deliver_all.Goals.{in-Some+in_ok-deliver, in_default}
use Rattle.vnff_run.proofs.delivery.deliver_all.Goals as goal

pub loop-place-init : goal.loop-place-init
loop-place-init g c = record {
  end = c.len-place-end.ensures;
  tally = subst (IsTallyOf c.args.bench.now.device.objects []) (sym c.new-tally.ensures) (tally_none c.args.bench.now.device.objects);
  sinks = got_none c.args.bench.now.device.caps.pairs c.args.bench.now.device.objects _;
}

pub deliver-requires-clause-within : goal.deliver-requires-clause-within
deliver-requires-clause-within g c = λ q is.
    let below = queue_within c.frame.result c.args.bench.now.device.caps.pairs c.requires.some c.frame.ensures.queue q (sym c.queue_of-queue.ensures ∙ is) in
    omega (arith, below, c.requires.few, c.requires.sinks, c.loop-place.invariant.sinks.count)

pub returns-in_err-deliver-clause-sinks : goal.returns-in_err-deliver-clause-sinks
returns-in_err-deliver-clause-sinks g c =
    let device = c.args.bench.now.device in
    let i = c.loop-place.place in
    let within = λ (q : ℕ) (is : c.queue_of-queue.result ≡ Some q). queue_within c.frame.result device.caps.pairs c.requires.some c.frame.ensures.queue q (sym c.queue_of-queue.ensures ∙ is) in
    fails_at (steering_on device c.args.frames.now) _ _ i _ _ c.from_residual.ensures.1
    (got_failed device.caps.pairs device.objects (take i c.args.frames.now) c.queue_of-queue.result c.loop-place.invariant.sinks c.in_err-deliver.ensures.err within)

pub count-requires-clause-room : goal.count-requires-clause-room
count-requires-clause-room g c = λ q is.
    let i = c.loop-place.place in
    let frames = c.args.frames.now in
    let within : i < length frames = omega (arith, c.loop-place.invariant.end, c.loop-place-test.true) in
    let below = queue_within c.frame.result c.args.bench.now.device.caps.pairs c.requires.some c.frame.ensures.queue q (sym c.queue_of-queue.ensures ∙ is) in
    room_queue c.args.bench.now.device.objects frames i c.loop-place.tally q c.loop-place.invariant.tally (omega (arith, below, c.requires.few)) within (omega (arith, c.len-place-end.ensures, c.len-place-end.type_inv))

pub count-requires-clause-room_dropped : goal.count-requires-clause-room_dropped
count-requires-clause-room_dropped g c = λ is.
    let i = c.loop-place.place in
    let frames = c.args.frames.now in
    let within : i < length frames = omega (arith, c.loop-place.invariant.end, c.loop-place-test.true) in
    room_dropped c.args.bench.now.device.objects frames i c.loop-place.tally c.loop-place.invariant.tally within (omega (arith, c.len-place-end.ensures, c.len-place-end.type_inv))

pub loop-place-preserved : goal.loop-place-preserved
loop-place-preserved g c =
    let device = c.args.bench.now.device in
    let i = c.loop-place.place in
    let frames = c.args.frames.now in
    let within : i < length frames = omega (arith, c.loop-place.invariant.end, c.loop-place-test.true) in
    elim c.match-at.branch [
      | in-Some+in_ok-deliver w ↦
          let frame = w.in-Some.frame.now in
          let to = w.queue_of-queue.result in
          let below = λ (q : ℕ) (is : to ≡ Some q). queue_within w.frame.result device.caps.pairs c.requires.some w.frame.ensures.queue q (sym w.queue_of-queue.ensures ∙ is) in
          let goes = sym (w.queue_of-queue.ensures ∙ ap queue_of w.frame.ensures.value) in
          let more = front_more frames i frame within w.in-Some.ensures.item in
          record {
            end = c.loop-place.invariant.end;
            tally = rw (w.tally-is, w.count.ensures, more) (tally_more device.objects (take i frames) frame c.loop-place.tally to c.loop-place.invariant.tally goes (λ q is. omega (arith, below q is, c.requires.few)));
            sinks = rw (w.rack-is, more) (got_more device.caps.pairs device.objects (take i frames) frame to c.loop-place.invariant.sinks w.in_ok-deliver.ensures.ok goes below);
          }
      | in_default w ↦ absurd (packet_is_there frames i within w.in_default.ensures.item)
    ]

pub returns-clause-tally : goal.returns-clause-tally
returns-clause-tally g c =
    let frames = c.args.frames.now in
    let all = take_all c.loop-place.place frames (omega (arith, c.loop-place.invariant.end, c.loop-place-test.false)) in
    subst (λ fs. IsTallyOf c.args.bench.now.device.objects fs c.loop-place.tally) all c.loop-place.invariant.tally

pub returns-clause-sinks : goal.returns-clause-sinks
returns-clause-sinks g c =
    got_all c.args.bench.now.device.caps.pairs c.args.bench.now.device.objects c.args.frames.now c.loop-place.place (omega (arith, c.loop-place.invariant.end, c.loop-place-test.false)) c.loop-place.invariant.sinks
