use Rattle.vnff_run.proofs.WrittenScripts.{read_whole, written_script}
use Rattle.vnff_run.proofs.grammar.read_script.Goals as goal

pub returns-clause-read : goal.returns-clause-read
returns-clause-read c = read_whole _ c.read_kept.result c.read_kept.ensures.read

pub returns-clause-written : goal.returns-clause-written
returns-clause-written c =
    written_script c.args.bytes.now c.read_kept.result (read_whole _ c.read_kept.result c.read_kept.ensures.read)
