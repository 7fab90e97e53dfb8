-- The line of each queue is written after those before it.
use Rattle.std.proofs.Common.{◌<◌, length, arith}
use Rattle.std.specs.List.{enumerate_from}
use Rattle.std.proofs.lemmas.List.FromFn.{length-enumerate_from}
use Rattle.vnff_base.proofs.Gathering.{gathers_lost, lost_item, took_item, took_items}
use Rattle.vnff_run.specs.Loads.{queue_line}
use Rattle.vnff_run.proofs.LoadLemmas.{count_is, count_within}
use Rattle.vnff_run.proofs.load_text.put_queue_lines.Goals as goal

pub returns-in_err-put_queue_line : goal.returns-in_err-put_queue_line
returns-in_err-put_queue_line g c =
    let i = c.loop-queue.queue in
    let counts = c.args.counts.now in
    let within : i < length counts = omega (arith, c.loop-queue-test.true) in
    gathers_lost _ _ _ c.from_residual.ensures.1 (lost_item queue_line (enumerate_from 0 counts) i (i, 0) _ (count_within counts i within) (count_is counts i within) c.loop-queue.invariant c.in_err-put_queue_line.ensures)

pub loop-queue-preserved : goal.loop-queue-preserved
loop-queue-preserved g c =
    let i = c.loop-queue.queue in
    let counts = c.args.counts.now in
    let within : i < length counts = omega (arith, c.loop-queue-test.true) in
    took_item queue_line (enumerate_from 0 counts) i (i, 0) _ (count_within counts i within) (count_is counts i within) c.loop-queue.invariant c.in_ok-put_queue_line.ensures

pub returns : goal.returns
returns g c =
    let counts = c.args.counts.now in
    took_items queue_line (enumerate_from 0 counts) c.loop-queue.queue (rw (length-enumerate_from 0 counts) (omega (arith, c.loop-queue-test.false))) c.loop-queue.invariant
