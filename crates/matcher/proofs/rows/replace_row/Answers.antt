use Rattle.std.proofs.Common.{Some, None, refl}
use Rattle.matcher.specs.Rows.{id_of, with_kept}
use Rattle.matcher.proofs.IndexLemmas.{kept_at, kept_once}
use Rattle.matcher.proofs.RowLemmas.{same_kept, rows_replaced, before_all, behind_all, rows_dropped}
use Rattle.matcher.proofs.rows.replace_row.Goals as goal

pub returns-then-may_stand_at-clause-rows : goal.returns-then-may_stand_at-clause-rows
returns-then-may_stand_at-clause-rows c = λ kept shapes one was is_row.
    let rows = c.args.rows.now.items in
    let p = c.args.place in
    let row = c.args.row in
    let before = rw c.deref.ensures.value at (c.may_stand_at.ensures.before c.if-may_stand_at.true) in
    let behind = rw c.deref.ensures.value at (c.may_stand_at.ensures.behind c.if-may_stand_at.true) in
    rows_replaced kept shapes rows was p row c.requires.inside row (before_all kept shapes rows was p row c.requires.inside row before) (behind_all kept shapes rows was p row c.requires.inside row behind) (id_of row) one (c.requires.same row) refl is_row

pub returns-clause-rows : goal.returns-clause-rows
returns-clause-rows c = λ kept shapes one was is_row.
    let row = c.args.row in
    let id = id_of row in
    let dropped = rows_dropped kept shapes c.args.rows.now.items was c.args.place row c.requires.inside id (c.requires.same row) in
    same_kept _ _ shapes c.put_row.new.rows.items (λ q. kept_once kept id None (Some one) q) (c.put_row.ensures.rows (with_kept kept id None) shapes one (rw c.remove.ensures.items dropped) (kept_at kept id None) is_row)
