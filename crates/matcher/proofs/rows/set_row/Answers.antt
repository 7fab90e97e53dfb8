use Rattle.std.proofs.Common.{Some, None, ap, ◌∙◌}
use Rattle.matcher.specs.Rows.{id_of, with_kept}
use Rattle.matcher.proofs.IndexLemmas.{kept_at, kept_once}
use Rattle.matcher.proofs.RowLemmas.{same_kept, rows_without}
use Rattle.matcher.proofs.rows.set_row.Goals as goal

pub returns-in-None-clause-rows : goal.returns-in-None-clause-rows
returns-in-None-clause-rows c = λ kept shapes one was is_row.
    let none = rw (c.in-None.is, c.deref.ensures.value) at c.row_of.ensures.none in
    let id = id_of c.args.row in
    let without = rows_without kept shapes c.args.rows.now.items was id (λ row has same. none has.0 row has.1 (ap id_of has.2 ∙ same)) in
    same_kept _ _ shapes c.put_row.new.rows.items (λ q. kept_once kept id None (Some one) q) (c.put_row.ensures.rows (with_kept kept id None) shapes one without (kept_at kept id None) is_row)
