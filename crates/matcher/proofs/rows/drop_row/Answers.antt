use Rattle.std.proofs.Common.{◌∙◌, ap}
use Rattle.matcher.specs.Rows.{id_of}
use Rattle.matcher.proofs.RowLemmas.{rows_dropped, rows_without}
use Rattle.matcher.proofs.rows.drop_row.Goals as goal

pub returns-in-Some-clause-rows : goal.returns-in-Some-clause-rows
returns-in-Some-clause-rows c = λ kept shapes was.
    let found = rw (c.in-Some.is, c.deref.ensures.value) at c.row_of.ensures.found in
    let d = c.remove.result in
    rw c.remove.ensures.items (rows_dropped kept shapes c.args.rows.now.items was c.in-Some.place d found.0 c.args.id (found.1 d))

pub returns-in_default-clause-rows : goal.returns-in_default-clause-rows
returns-in_default-clause-rows c = λ kept shapes was.
    let none = rw (c.in_default.is, c.deref.ensures.value) at c.row_of.ensures.none in
    rows_without kept shapes c.args.rows.now.items was c.args.id (λ row has e. none has.0 row has.1 (ap id_of has.2 ∙ e))
