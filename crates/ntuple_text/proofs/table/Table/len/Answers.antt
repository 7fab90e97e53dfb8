-- There are at most as many specs as locations.
use Rattle.std.proofs.Common.{ap, arith, is_some, length}
use Rattle.std.proofs.lemmas.List.Sums.{count_by-le-length}
use Rattle.ntuple_text.proofs.table.Table.len.Goals as goal

pub returns-clause-most : goal.returns-clause-most
returns-clause-most c =
    omega (arith, c.count_specs.ensures, count_by-le-length is_some c.deref.result.now, ap length c.deref.ensures.value, c.self.invariant.size)
