-- The first line ends at the first line feed, or is all of a text that has none.
use Rattle.std.proofs.Common.{◌≡◌, ◌<◌, length, Some, None, arith}
use Rattle.std.specs.List.{position}
use Rattle.std.proofs.lemmas.List.{take_rest}
use Rattle.std.proofs.lemmas.Bool.Decides.{nat_tests}
use Rattle.vnff_base.specs.Lines.{is_line_feed}
use Rattle.vnff_base.proofs.LineLemmas.{lines-at, lines-end}
use Rattle.vnff_base.proofs.text.first_line.Goals as goal

pub returns-in-Some-clause-first : goal.returns-in-Some-clause-first
returns-in-Some-clause-first c =
    let text = c.args.text.now in
    let found : position is_line_feed text ≡ Some c.in-Some.end = cc in
    rw (take_rest, c.without_carriage_return.ensures) (lines-at text c.in-Some.end found)

pub returns-in-None-2-clause-first : goal.returns-in-None-2-clause-first
returns-in-None-2-clause-first c =
    let text = c.args.text.now in
    let found : position is_line_feed text ≡ None = cc in
    let some : 0 < length text = grind (arith, nat_tests) in
    lines-end text found some
