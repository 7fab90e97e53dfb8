-- The table is for the queue pairs that it is read for.
use Rattle.std.proofs.Common.{rules, ◌≡◌, Ok}
use Rattle.std.proofs.lemmas.Result.{IfOk-at_ok}
use Rattle.vnff_base.specs.Lines.{word_lines}
use Rattle.ntuple_text.specs.TableLines.{table_of}
use Rattle.ntuple_text.proofs.PairsLemmas.{IsFor, table_of-pairs}
use Rattle.ntuple_text.proofs.read.read_table.Goals as goal

pub returns-clause-pairs : goal.returns-clause-pairs
unfolding table_of
returns-clause-pairs c =
    let lines = word_lines c.args.text.now in
    let value : table_of c.args.pairs lines ≡ Ok c.read_lines.new.table = search rules in
    IfOk-at_ok (IsFor c.args.pairs) value (table_of-pairs c.args.pairs lines)
