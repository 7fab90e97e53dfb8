-- The device of a load is the one that its table is for, and has room for it.
use Rattle.std.proofs.Common.{ap, sym, ◌∙◌}
use Rattle.std.proofs.lemmas.Result.{err_from_is_err_and}
use Rattle.generated_load.specs.DrawnTables.{drawn_table}
use Rattle.vnff_run.proofs.LoadLemmas.{load_stops, load_table}
use Rattle.vnff_run.proofs.load.compiled_load.Goals as goal

pub compiled_for-requires : goal.compiled_for-requires
unfolding drawn_table
compiled_for-requires c =
    ap (λ table. table.pairs) c.in_ok-x.ensures.table ∙ sym (ap (λ caps. caps.pairs) c.load_caps.ensures)

pub returns-in_err-load-clause-memory : goal.returns-in_err-load-clause-memory
returns-in_err-load-clause-memory c =
    let p = err_from_is_err_and c.from_residual-in_err-load.result c.from_residual-in_err-load.ensures.1 in
    rw (p.1, p.2) (load_stops c.args.seed c.load_caps.result c.in_ok-x.table c.in_err-load.field-0.0 c.load_caps.ensures c.in_ok-x.ensures.table c.in_err-load.ensures.judged)

pub returns-clause-table : goal.returns-clause-table
returns-clause-table c =
    load_table c.args.seed c.load_caps.result c.in_ok-x.table c.in_ok-load.load c.load_caps.ensures c.in_ok-x.ensures.table c.in_ok-load.ensures.judged
