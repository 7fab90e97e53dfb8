use Rattle.std.proofs.Common.{arith}
use Rattle.std.proofs.lemmas.Bool.Decides.{nat_tests}
use Rattle.ff_headers.proofs.FrameLemmas.{carries_over_ipv4, ipv4_is_long}
use Rattle.ff_headers.proofs.frame.ipv4_carries.Goals as goal

pub number_at-requires : goal.number_at-requires
number_at-requires c = omega (arith, ipv4_is_long c.args.frame.now c.requires)

pub bounds-frame-23 : goal.bounds-frame-23
bounds-frame-23 c = omega (arith, ipv4_is_long c.args.frame.now c.requires)

pub returns-then-number_at-eq0 : goal.returns-then-number_at-eq0
returns-then-number_at-eq0 c =
    rw (carries_over_ipv4 c.args.frame.now c.args.protocol c.number_at.result (λ k. omega (arith, c.type_inv.frame k)) c.requires c.number_at.ensures) (grind (arith, nat_tests))

pub returns-else-number_at-eq0 : goal.returns-else-number_at-eq0
returns-else-number_at-eq0 c =
    rw (carries_over_ipv4 c.args.frame.now c.args.protocol c.number_at.result (λ k. omega (arith, c.type_inv.frame k)) c.requires c.number_at.ensures) (grind (arith, nat_tests))
