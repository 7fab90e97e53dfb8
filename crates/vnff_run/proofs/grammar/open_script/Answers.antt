use Rattle.std.proofs.lemmas.Result.{err_from_is_err_and}
use Rattle.vnff_run.specs.declared.script.Kept.TheVariants.{Nothing}
use Rattle.vnff_run.proofs.GrammarLemmas.{small_lines}
use Rattle.vnff_run.proofs.WrittenScripts.{opened}
use Rattle.vnff_run.proofs.grammar.open_script.Goals as goal

pub read_head-requires : goal.read_head-requires
read_head-requires c = small_lines c.args.bytes.now c.new.result c.requires c.new.ensures

pub returns : goal.returns
returns c = opened c.args.bytes.now c.new.result Nothing _ c.read_head.result c.new.ensures c.in_ok-read_kept.ensures.read c.read_head.ensures
