use Rattle.std.proofs.Common.{sym, ap, ◌∙◌}
use Rattle.matcher.specs.Rows.{kept_with}
use Rattle.matcher.specs.declared.scan.Candidate.{Candidate}
use Rattle.matcher.proofs.index.RowIndex.put.Goals as goal

pub set_row-requires : goal.set_row-requires
set_row-requires c = λ none.
    c.requires.row_fits (λ held has same. none held has (same ∙ sym (ap (λ (one : Candidate). one.place.2) c.row_with-row.ensures.candidate)))

pub returns-clause-rows : goal.returns-clause-rows
returns-clause-rows c = λ kept was.
    let selectors = c.args.selectors.now in
    let one = kept_with c.args.group_priority (c.args.id, c.args.rule.now) selectors in
    let numbered = (rw c.deref.ensures.value at c.number_for-shape.ensures.rows) kept was in
    rw c.row_with-row.ensures.candidate at (c.set_row.ensures.rows kept c.number_for-shape.new.shapes.items one numbered (record {
      within = rw c.row_with-row.ensures.shape c.number_for-shape.ensures.inside;
      shape = rw c.row_with-row.ensures.shape c.number_for-shape.ensures.shape;
      key = c.row_with-row.ensures.key;
      candidate = c.row_with-row.ensures.candidate;
    }))
