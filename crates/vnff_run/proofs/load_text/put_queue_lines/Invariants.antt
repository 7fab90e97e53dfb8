-- The lines of the queues so far were written.
use Rattle.std.proofs.Common.{take}
use Rattle.std.specs.List.{enumerate_from, flat_map}
use Rattle.vnff_base.specs.Gatherings.{Took}
use Rattle.vnff_run.specs.Loads.{queue_line}
use Rattle.vnff_run.proofs.load_text.put_queue_lines.Given as goal

abbrev pub invariant-loop-queue : goal.invariant-loop-queue
invariant-loop-queue g l =
    Took (g.O.Out.state l.initial.out) (g.O.Out.state l.out) l.initial.text l.text (flat_map queue_line (take l.queue (enumerate_from 0 l.counts)))
