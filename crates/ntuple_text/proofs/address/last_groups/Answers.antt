-- An IPv4 address is two groups of 16 bits.
use Rattle.std.proofs.Common.{arith, sym, ◌<◌, ◌^◌}
use Rattle.ntuple_text.proofs.RangeLemmas.{ipv4-small}
use Rattle.ntuple_text.proofs.StepLemmas.{some-at}
use Rattle.ntuple_text.proofs.address.last_groups.Goals as goal

pub overflow_cast-address : goal.overflow_cast-address
overflow_cast-address c =
    let small = some-at (λ n. n < 2 ^ 32) c.in_ok-address.address (sym c.in_ok-address.ensures) (ipv4-small c.args.piece.now) in
    omega (arith, small)
