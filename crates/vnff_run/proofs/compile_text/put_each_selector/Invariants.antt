-- The items so far were written.
use Rattle.std.proofs.Common.{take}
use Rattle.std.specs.List.{flat_map}
use Rattle.vnff_base.specs.Outputs.{Wrote}
use Rattle.vnff_run.specs.Programs.{selector_line}
use Rattle.vnff_run.proofs.compile_text.put_each_selector.Given as goal

abbrev pub invariant-loop-selector : goal.invariant-loop-selector
invariant-loop-selector g l =
    Wrote (g.O.Out.state l.fn.out) (g.O.Out.state l.out) (flat_map selector_line (take l.selector-index l.selectors))
