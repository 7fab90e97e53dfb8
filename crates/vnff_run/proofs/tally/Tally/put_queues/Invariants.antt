-- The lines of the queues so far were written.
use Rattle.std.proofs.Common.{take}
use Rattle.std.specs.List.{flat_map, range_with_len}
use Rattle.vnff_base.specs.Gatherings.{Took}
use Rattle.vnff_run.specs.Tallies.{count_line}
use Rattle.vnff_run.proofs.tally.Tally.put_queues.Given as goal

abbrev pub invariant-loop-queue : goal.invariant-loop-queue
invariant-loop-queue g l =
    Took (g.O.Out.state l.initial.out) (g.O.Out.state l.out) l.initial.text l.text (flat_map (count_line l.self) (take l.queue (range_with_len 0 l.pairs)))
