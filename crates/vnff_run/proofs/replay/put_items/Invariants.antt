-- Where the lines spell items, the lines of some are taken, and the others are left.
use Rattle.std.proofs.Common.{◌≡◌, List, Ok, length}
use Rattle.vnff_run.specs.Grammar.{items_of}
use Rattle.vnff_run.specs.declared.script.Item.{Item}
use Rattle.vnff_run.proofs.TakenItems.{HasTaken}
use Rattle.vnff_run.proofs.replay.put_items.Given as goal

abbrev pub invariant-loop-item : goal.invariant-loop-item
invariant-loop-item g l =
    (all : List Item) → items_of l.initial.items ≡ Ok all
    → HasTaken l.initial.bench.device l.bench.device (g.O.Out.state l.initial.out) (g.O.Out.state l.out) l.initial.text l.text l.items all

abbrev pub decreases-loop-item : goal.decreases-loop-item
decreases-loop-item g l = length l.items
