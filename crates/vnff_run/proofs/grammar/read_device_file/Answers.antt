use Rattle.vnff_run.proofs.GrammarLemmas.{small_lines}
use Rattle.vnff_run.proofs.grammar.read_device_file.Goals as goal

pub read_device_lines-requires : goal.read_device_lines-requires
read_device_lines-requires c = small_lines c.args.bytes.now c.new.result c.requires c.new.ensures
