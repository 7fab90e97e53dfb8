use Rattle.std.proofs.Common.{◌<◌, arith, length}
use Rattle.std.specs.List.{enumerate_from}
use Rattle.steer.specs.Results.{line_of, packet_lines, read_of}
use Rattle.vnff_base.proofs.Gathering.{gathers_lost, lost_item, took_item, took_items, took_nothing}
use Rattle.vnff_run.specs.LiveTexts.{numbered_line}
use Rattle.vnff_run.proofs.LiveLines.{packet_line_is, packets_count}
use Rattle.vnff_run.proofs.live_text.put_packets.Goals as goal

pub loop-packet-init : goal.loop-packet-init
loop-packet-init g c = took_nothing _ _

pub loop-packet-preserved : goal.loop-packet-preserved
loop-packet-preserved g c =
    let i = c.loop-packet.packet in
    let n = c.args.packets in
    let workers = c.args.workers.now in
    let within : i < n = omega (arith, c.loop-packet-test.true) in
    took_item numbered_line (enumerate_from 0 (packet_lines workers (length workers) n)) i (i, line_of (read_of workers (length workers) i)) (i, line_of (read_of workers (length workers) i)) (rw (packets_count workers n) within) (packet_line_is workers n i within) c.loop-packet.invariant c.in_ok-put_packet.ensures

pub returns-in_err-put_packet : goal.returns-in_err-put_packet
returns-in_err-put_packet g c =
    let i = c.loop-packet.packet in
    let n = c.args.packets in
    let workers = c.args.workers.now in
    let within : i < n = omega (arith, c.loop-packet-test.true) in
    gathers_lost _ _ _ c.from_residual.ensures.1
    (lost_item numbered_line (enumerate_from 0 (packet_lines workers (length workers) n)) i (i, line_of (read_of workers (length workers) i)) (i, line_of (read_of workers (length workers) i)) (rw (packets_count workers n) within) (packet_line_is workers n i within) c.loop-packet.invariant c.in_err-put_packet.ensures)

pub returns : goal.returns
returns g c =
    let n = c.args.packets in
    let workers = c.args.workers.now in
    took_items numbered_line (enumerate_from 0 (packet_lines workers (length workers) n)) c.loop-packet.packet (rw (packets_count workers n) (omega (arith, c.loop-packet-test.false))) c.loop-packet.invariant
