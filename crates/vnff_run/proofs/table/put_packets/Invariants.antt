-- The frames so far were written.
use Rattle.std.proofs.Common.{◌≡◌, length, take}
use Rattle.std.specs.List.{enumerate_from, flat_map}
use Rattle.vnff_base.specs.Gatherings.{Took}
use Rattle.vnff_run.specs.Tables.{table_line}
use Rattle.vnff_run.proofs.table.put_packets.Given as goal

abbrev pub ghost-put_packet : goal.ghost-put_packet
ghost-put_packet g a = g.table

abbrev pub invariant-loop-place : goal.invariant-loop-place
invariant-loop-place g l = record {
  end : l.place-end ≡ length l.frames;
  took : Took (g.O.Out.state l.initial.out) (g.O.Out.state l.out) l.initial.text l.text (flat_map (table_line g.table) (take l.place (enumerate_from 0 l.frames)));
}
