use Rattle.std.proofs.Common.{◌≡◌, length}
use Rattle.vnff_run.specs.Grammar.{items_of}
use Rattle.vnff_run.specs.Readings.{kept_in}
use Rattle.vnff_run.proofs.GrammarLemmas.{with_front}
use Rattle.vnff_run.proofs.grammar.read_items.Given as goal

abbrev pub invariant-loop-item : goal.invariant-loop-item
invariant-loop-item l =
    with_front l.kept l.items (items_of l.unread) ≡ kept_in l.kept (items_of l.initial.unread)

abbrev pub decreases-loop-item : goal.decreases-loop-item
decreases-loop-item l = length l.unread
