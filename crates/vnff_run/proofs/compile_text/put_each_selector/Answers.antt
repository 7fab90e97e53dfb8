-- Each item is written after those before it.
use Rattle.std.proofs.Common.{arith}
use Rattle.vnff_base.proofs.Writing.{wrote_item, stopped_item, writes_stopped}
use Rattle.vnff_run.specs.Programs.{selector_line}
use Rattle.vnff_run.proofs.compile_text.put_each_selector.Goals as goal

pub returns-in_err-put_selector : goal.returns-in_err-put_selector
returns-in_err-put_selector g c =
    writes_stopped _ _ c.from_residual.ensures.1 (stopped_item selector_line c.args.selectors.now c.loop-selector.selector-index c.selector-item.result c.selector-item.result (omega arith) c.selector-item.is c.loop-selector.invariant c.in_err-put_selector.ensures)

pub loop-selector-preserved : goal.loop-selector-preserved
loop-selector-preserved g c =
    wrote_item selector_line c.args.selectors.now c.loop-selector.selector-index c.selector-item.result c.selector-item.result (omega arith) c.selector-item.is c.loop-selector.invariant c.in_ok-put_selector.ensures
