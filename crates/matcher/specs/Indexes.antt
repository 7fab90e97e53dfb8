-- The rows of rules with the room that they have. This project's own.
use Rattle.std.specs.Prelude.{ℕ, ◌≤◌, Option, vec_capacity}
use Rattle.ff_headers.specs.declared.limits.Limits.{Limits}
use Rattle.matcher.specs.Rows.{Kept, AreRows}
use Rattle.matcher.specs.declared.index.RowIndex.{RowIndex}

-- the rows are all that is kept, and there is room for as many rules and shapes as the limits allow
pub record IsRowIndex (limits : Limits) (kept : ℕ → Option Kept) (index : RowIndex) : Type 0 where
  pub rows : AreRows kept index.shapes.items index.rows.items
  pub rows_room : limits.rules ≤ vec_capacity index.rows
  pub shapes_room : limits.classifiers ≤ vec_capacity index.shapes
