-- A number of eight groups has 128 bits.
use Rattle.std.proofs.Common.{arith}
use Rattle.ntuple_text.proofs.AddressLemmas.{joined-fits}
use Rattle.ntuple_text.proofs.address.number_from_digits.Goals as goal

pub overflow_mul-value : goal.overflow_mul-value
overflow_mul-value c =
    let fits = joined-fits c.args.base c.loop-group.group-index c.loop-group.value c.args.groups.now c.requires.base c.requires.few (λ k. omega (arith, c.type_inv.groups k)) (omega arith) c.loop-group.invariant in
    omega (arith, fits)

pub overflow_add-value : goal.overflow_add-value
overflow_add-value c =
    let fits = joined-fits c.args.base c.loop-group.group-index c.loop-group.value c.args.groups.now c.requires.base c.requires.few (λ k. omega (arith, c.type_inv.groups k)) (omega arith) c.loop-group.invariant in
    omega (arith, fits, c.from.ensures)
