use Rattle.std.proofs.Common.{◌≡◌, length}
use Rattle.std.specs.Prelude.{IfSome}
use Rattle.ff_headers.specs.Frames.{header_at}
use Rattle.ff_headers.specs.Kinds.{kind_size}
use Rattle.ff_headers.specs.declared.kind.Kind.{Kind}
use Rattle.ff_headers.specs.declared.kind.Kind.TheVariants.{Eth, Ipv4, Ipv6, Tcp, Udp}
use Rattle.matcher.proofs.MatchKeys.{sized_by}
use Rattle.matcher.proofs.keys.have_sizes.Goals as goal

pub returns : goal.returns
returns c = λ kind.
    elim kind as (λ (k : Kind). IfSome (header_at c.args.headers.now k) (λ value. length value ≡ kind_size k)) [
      | Eth ↦ sized_by _ _ _ c.get-eth.ensures.value c.get-eth.ensures.size
      | Ipv4 ↦ sized_by _ _ _ c.get-ipv4.ensures.value c.get-ipv4.ensures.size
      | Ipv6 ↦ sized_by _ _ _ c.get-ipv6.ensures.value c.get-ipv6.ensures.size
      | Tcp ↦ sized_by _ _ _ c.get-tcp.ensures.value c.get-tcp.ensures.size
      | Udp ↦ sized_by _ _ _ c.get-udp.ensures.value c.get-udp.ensures.size
    ]
