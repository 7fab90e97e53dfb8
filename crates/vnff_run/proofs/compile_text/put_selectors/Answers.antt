use Rattle.std.proofs.Common.{◌∙◌, ap, sym}
use Rattle.std.specs.List.{flat_map}
use Rattle.vnff_run.specs.Programs.{selector_line}
use Rattle.vnff_run.proofs.CompiledLines.{selector_lines_are, writes_as}
use Rattle.vnff_run.proofs.compile_text.put_selectors.Goals as goal

pub returns : goal.returns
returns g c =
    writes_as _ _ _ (ap (flat_map selector_line) c.selectors.ensures.value ∙ selector_lines_are c.args.caps.now.selectors (sym c.has_all_selectors.ensures ∙ c.if-has_all_selectors.false)) c.put_each_selector.ensures
