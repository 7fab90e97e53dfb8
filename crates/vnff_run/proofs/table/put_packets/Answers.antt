use Rattle.std.proofs.Common.{◌<◌, length, arith}
use Rattle.std.specs.List.{enumerate_from}
use Rattle.std.proofs.lemmas.List.FromFn.{length-enumerate_from}
use Rattle.vnff_base.proofs.Gathering.{gathers_lost, lost_item, took_item, took_items}
use Rattle.vnff_run.specs.Tables.{table_line, table_text}
use Rattle.vnff_run.proofs.PacketLemmas.{packet_is, packet_is_there, packet_within}
use Rattle.vnff_run.proofs.table.put_packets.Goals.{in-Some+in_ok-put_packet, in_default}
use Rattle.vnff_run.proofs.table.put_packets.Goals as goal

pub loop-place-preserved : goal.loop-place-preserved
loop-place-preserved g c =
    let i = c.loop-place.place in
    let frames = c.args.frames.now in
    let within : i < length frames = omega (arith, c.loop-place.invariant.end, c.loop-place-test.true) in
    elim c.match-at.branch [
      | in-Some+in_ok-put_packet w ↦ record {
        end = c.loop-place.invariant.end;
        took = rw (w.text-is, w.out-is) (took_item (table_line g.table) (enumerate_from 0 frames) i (i, w.in-Some.frame.now) (i, w.in-Some.frame.now) (packet_within frames i within) (packet_is frames i w.in-Some.frame.now within w.in-Some.ensures.item) c.loop-place.invariant.took w.in_ok-put_packet.ensures);
      }
      | in_default w ↦ absurd (packet_is_there frames i within w.in_default.ensures.item)
    ]

pub returns-in_err-put_packet : goal.returns-in_err-put_packet
unfolding table_text
returns-in_err-put_packet g c =
    let i = c.loop-place.place in
    let frames = c.args.frames.now in
    let frame = c.in-Some.frame.now in
    let within : i < length frames = omega (arith, c.loop-place.invariant.end, c.loop-place-test.true) in
    gathers_lost _ _ _ c.from_residual.ensures.1
    (lost_item (table_line g.table) (enumerate_from 0 frames) i (i, frame) (i, frame) (packet_within frames i within) (packet_is frames i frame within c.in-Some.ensures.item) c.loop-place.invariant.took c.in_err-put_packet.ensures)

pub returns : goal.returns
unfolding table_text
returns g c =
    let frames = c.args.frames.now in
    took_items (table_line g.table) (enumerate_from 0 frames) c.loop-place.place (rw (length-enumerate_from 0 frames) (omega (arith, c.loop-place.invariant.end, c.loop-place-test.false))) c.loop-place.invariant.took
