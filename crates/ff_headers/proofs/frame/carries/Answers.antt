use Rattle.std.proofs.Common.{sym, ◌∙◌, arith}
use Rattle.ff_headers.proofs.FrameLemmas.{carries_over_ipv6, carries_nothing, ipv6_is_long}
use Rattle.ff_headers.proofs.frame.carries.Goals as goal

pub bounds-frame-20 : goal.bounds-frame-20
bounds-frame-20 c = omega (arith, ipv6_is_long c.args.frame.now (sym c.requires.ipv6 ∙ c.if-is_ipv6.true))

pub returns-then-is_ipv6 : goal.returns-then-is_ipv6
returns-then-is_ipv6 c =
    sym (carries_over_ipv6 c.args.frame.now c.args.protocol (λ k. omega (arith, c.type_inv.frame k))
    (sym c.requires.ipv4 ∙ c.if-is_ipv4.false) (sym c.requires.ipv6 ∙ c.if-is_ipv6.true))

pub returns-else-is_ipv6 : goal.returns-else-is_ipv6
returns-else-is_ipv6 c =
    c.if-is_ipv6.false
    ∙ sym (carries_nothing c.args.frame.now c.args.protocol (sym c.requires.ipv4 ∙ c.if-is_ipv4.false)
    (sym c.requires.ipv6 ∙ c.if-is_ipv6.false))
