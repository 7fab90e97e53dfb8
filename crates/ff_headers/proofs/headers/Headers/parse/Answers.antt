use Rattle.ff_headers.proofs.FrameLemmas.{headers_by}
use Rattle.ff_headers.proofs.headers.Headers.parse.Goals as goal

pub returns : goal.returns
returns c =
    rw (
      c.part_if.ensures,
      c.part_if-2.ensures,
      c.part_if-3.ensures,
      c.part_if-4.ensures,
      c.part_if-5.ensures,
      c.carries.ensures,
      c.carries-2.ensures,
      c.has_ipv6-is_ipv6.ensures,
      c.is_some-is_ipv4.ensures,
      c.unwrap_or-end.ensures,
    ) (headers_by c.args.frame.now c.ipv4_end-ipv4.result c.ipv4_end-ipv4.ensures)
