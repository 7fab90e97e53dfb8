use Rattle.std.proofs.Common.{arith}
use Rattle.matcher.proofs.ShapeLemmas.{rows_renumbered, rows_numbered}
use Rattle.matcher.proofs.shapes.number_for.Goals as goal

pub returns-in-Some-unused_number-clause-rows : goal.returns-in-Some-unused_number-clause-rows
returns-in-Some-unused_number-clause-rows c = λ kept was.
    let new = rw (c.in_default.is, c.deref.ensures.value) at c.number_of.ensures.none in
    let found = rw c.in-Some-unused_number.is at c.unused_number.ensures.found in
    rw c.copy.ensures (rows_renumbered kept _ _ was _ new c.in-Some-unused_number.number (omega (arith, found.0)) found.1)

pub returns-clause-rows : goal.returns-clause-rows
returns-clause-rows c = λ kept was.
    let new = rw (c.in_default.is, c.deref.ensures.value) at c.number_of.ensures.none in
    rw (c.push_reserved.ensures.items, c.copy-2.ensures) (rows_numbered kept _ _ was _ new)
