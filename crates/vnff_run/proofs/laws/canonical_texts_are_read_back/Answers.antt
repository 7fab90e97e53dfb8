use Rattle.vnff_run.proofs.ScriptReadBack.{script-read}
use Rattle.vnff_run.proofs.laws.canonical_texts_are_read_back.Goals as goal

pub returns : goal.returns
returns c = script-read
