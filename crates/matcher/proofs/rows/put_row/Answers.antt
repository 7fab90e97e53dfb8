use Rattle.std.proofs.Common.{◌≡◌, is_ok, true, arith}
use Rattle.std.specs.List.{insert}
use Rattle.matcher.proofs.RowLemmas.{parted, rows_put_at}
use Rattle.matcher.proofs.rows.put_row.Goals as goal

pub returns-clause-rows : goal.returns-clause-rows
returns-clause-rows c = λ kept shapes one was free is_row.
    let rows = c.args.rows.now.items in
    let row = c.args.row in
    let ok : is_ok c.insert.result ≡ true = c.insert.ensures.succeeds (omega arith) in
    let items : c.insert.new.self.items ≡ insert rows c.place_for-place.result row = rw ok at c.insert.ensures.items in
    let parts = rw c.deref.ensures.value at c.place_for-place.ensures.parted in
    let bound = rw c.deref.ensures.value at c.place_for-place.ensures.bound in
    rw items (rows_put_at kept shapes rows was row 0 free c.place_for-place.result one bound (parts (parted kept shapes rows was row 0 free)) is_row)
