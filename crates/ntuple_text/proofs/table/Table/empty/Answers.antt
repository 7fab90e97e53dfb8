-- A table without a spec is one.
use Rattle.ntuple_text.proofs.TableLemmas.{table-empty}
use Rattle.ntuple_text.proofs.table.Table.empty.Goals as goal

pub invariant_of-result : goal.invariant_of-result
invariant_of-result c = table-empty c.args.pairs c.in_ok-free_slots.field-0.items c.in_ok-free_slots.ensures.slots c.requires.some_pairs c.requires.few_pairs
