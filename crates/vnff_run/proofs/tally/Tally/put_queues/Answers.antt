use Rattle.std.proofs.Common.{◌<◌, arith}
use Rattle.std.specs.List.{range_with_len}
use Rattle.std.proofs.lemmas.List.FromFn.{length-range_with_len}
use Rattle.vnff_base.proofs.Gathering.{took_item, took_items, lost_item, gathers_lost}
use Rattle.vnff_run.specs.Tallies.{count_line}
use Rattle.vnff_run.proofs.ReplayLemmas.{place_within, place_is}
use Rattle.vnff_run.proofs.tally.Tally.put_queues.Goals as goal

pub loop-queue-preserved : goal.loop-queue-preserved
loop-queue-preserved g c =
    let q = c.loop-queue.queue in
    let within : q < c.args.pairs = c.loop-queue-test.true in
    took_item (count_line c.args.self.now) (range_with_len 0 c.args.pairs) q q q (place_within _ q within) (place_is _ q within) c.loop-queue.invariant c.in_ok-put_queue_line.ensures

pub returns-in_err-put_queue_line : goal.returns-in_err-put_queue_line
returns-in_err-put_queue_line g c =
    let q = c.loop-queue.queue in
    let within : q < c.args.pairs = c.loop-queue-test.true in
    gathers_lost _ _ _ c.from_residual.ensures.1
    (lost_item (count_line c.args.self.now) (range_with_len 0 c.args.pairs) q q q (place_within _ q within) (place_is _ q within) c.loop-queue.invariant c.in_err-put_queue_line.ensures)

pub returns : goal.returns
returns g c =
    took_items (count_line c.args.self.now) (range_with_len 0 c.args.pairs) c.loop-queue.queue (rw length-range_with_len (omega (arith, c.loop-queue-test.false))) c.loop-queue.invariant
