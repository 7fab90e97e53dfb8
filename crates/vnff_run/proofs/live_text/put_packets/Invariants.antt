-- The packets so far were written.
use Rattle.std.proofs.Common.{length, take}
use Rattle.std.specs.List.{enumerate_from, flat_map}
use Rattle.vnff_base.specs.Gatherings.{Took}
use Rattle.steer.specs.Results.{packet_lines}
use Rattle.vnff_run.specs.LiveTexts.{numbered_line}
use Rattle.vnff_run.proofs.live_text.put_packets.Given as goal

abbrev pub invariant-loop-packet : goal.invariant-loop-packet
invariant-loop-packet g l =
    Took (g.O.Out.state l.initial.out) (g.O.Out.state l.out) l.initial.text l.text (flat_map numbered_line (take l.packet (enumerate_from 0 (packet_lines l.workers (length l.workers) l.packets))))
