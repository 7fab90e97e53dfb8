-- The first locations have the specs that were drawn for them.
use Rattle.std.proofs.Common.{◌≡◌}
use Rattle.generated_load.specs.Draws.{each_drawn}
use Rattle.generated_load.specs.DrawnTables.{drawn_spec}
use Rattle.generated_load.proofs.TableLemmas.{table_after}
use Rattle.generated_load.proofs.table.drawn_table.Given as goal

abbrev pub invariant-loop-loc : goal.invariant-loop-loc
invariant-loop-loc l = record {
  state : l.x ≡ (each_drawn drawn_spec l.loc l.fn.seed).0;
  table : l.table ≡ table_after l.loc l.fn.seed;
}
