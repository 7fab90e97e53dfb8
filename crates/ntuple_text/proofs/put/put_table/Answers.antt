-- What a table's slots are is what its text needs to be read back, and what bounds it.
use Rattle.ntuple_text.proofs.TableReadBack.{table-read}
use Rattle.ntuple_text.proofs.TextLengths.{length-table}
use Rattle.ntuple_text.proofs.put.put_table.Goals as goal

pub returns-clause-read_back : goal.returns-clause-read_back
returns-clause-read_back g c = table-read c.args.table.now.pairs c.args.table.now.slots c.slots.ensures.table

pub returns-clause-short : goal.returns-clause-short
returns-clause-short g c = length-table c.args.table.now.pairs c.args.table.now.slots c.slots.ensures.table
