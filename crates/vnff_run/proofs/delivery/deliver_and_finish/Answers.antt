use Rattle.std.proofs.Common.{arith}
use Rattle.vnff_run.specs.Deliveries.{steering_on}
use Rattle.vnff_run.specs.Tallies.{IsTallyOf}
use Rattle.vnff_run.proofs.DeliveryLemmas.{and_if_ok, delivers_count, finishes_all}
use Rattle.vnff_run.proofs.delivery.deliver_and_finish.Goals as goal

pub finish-requires : goal.finish-requires
finish-requires g c =
    omega (arith, c.requires.few, c.requires.sinks, delivers_count (steering_on c.args.bench.now.device c.args.frames.now) _ _ c.deliver_all-delivered.result c.deliver_all-delivered.ensures.sinks)

pub returns-clause-tally : goal.returns-clause-tally
returns-clause-tally g c =
    rw c.and.ensures (and_if_ok c.finish.result c.deliver_all-delivered.result (IsTallyOf c.args.bench.now.device.objects c.args.frames.now) c.deliver_all-delivered.ensures.tally)

pub returns-clause-sinks : goal.returns-clause-sinks
returns-clause-sinks g c =
    rw c.and.ensures (finishes_all _ _ _ (steering_on c.args.bench.now.device c.args.frames.now) c.args.pairs c.deliver_all-delivered.result c.finish.result c.requires.pairs c.deliver_all-delivered.ensures.sinks c.finish.ensures)
