use Rattle.std.proofs.Common.{◌-◌, ℕ, List}
use Rattle.split_queue.specs.Rings.{available_idx}
use Rattle.vnff_base.specs.Gatherings.{Took}
use Rattle.vnff_run.proofs.DrainLemmas.{IsAt}
use Rattle.vnff_run.proofs.drain.put_chains.Given as goal

abbrev pub invariant-loop-chain : goal.invariant-loop-chain
invariant-loop-chain g l =
    (front : List ℕ) × Took (g.O.Out.state l.initial.out) (g.O.Out.state l.out) l.initial.text l.text front × IsAt l.initial.mem l.mem l.initial.end.place l.end l.next front

abbrev pub decreases-loop-chain : goal.decreases-loop-chain
decreases-loop-chain g l = available_idx l.mem l.initial.end.place - l.next
