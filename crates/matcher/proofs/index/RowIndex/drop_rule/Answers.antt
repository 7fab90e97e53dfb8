use Rattle.std.proofs.Common.{arith}
use Rattle.matcher.proofs.index.RowIndex.drop_rule.Goals as goal

pub returns : goal.returns
returns c = λ kept index. record {
  rows = c.drop_row.ensures.rows kept c.args.self.now.shapes.items index.rows;
  rows_room = let a = index.rows_room in let b = c.drop_row.ensures.room in omega arith;
  shapes_room = index.shapes_room;
}
