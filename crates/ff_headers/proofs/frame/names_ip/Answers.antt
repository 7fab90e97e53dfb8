use Rattle.std.proofs.Common.{arith}
use Rattle.ff_headers.proofs.FrameLemmas.{names_ip-cut, names_ip-other, names_ip-version}
use Rattle.ff_headers.proofs.frame.names_ip.Goals as goal

pub returns-then-frame-size : goal.returns-then-frame-size
returns-then-frame-size c =
    names_ip-cut c.args.kind c.args.ether_type c.args.version c.args.frame.now (omega (arith, c.size.ensures))

pub returns-then-number_at-ether_type : goal.returns-then-number_at-ether_type
returns-then-number_at-ether_type c =
    names_ip-version c.args.kind c.args.ether_type c.args.version c.number_at.result c.args.frame.now (λ k. omega (arith, c.type_inv.frame k)) (omega (arith, c.size.ensures)) c.number_at.ensures c.if-number_at-ether_type.true

pub returns-else-number_at-ether_type : goal.returns-else-number_at-ether_type
returns-else-number_at-ether_type c =
    names_ip-other c.args.kind c.args.ether_type c.args.version c.number_at.result c.args.frame.now (λ k. omega (arith, c.type_inv.frame k)) c.number_at.ensures c.if-number_at-ether_type.false
