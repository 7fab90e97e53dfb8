use Rattle.std.proofs.Common.{◌≡◌, Some, None, sym, arith}
use Rattle.ff_headers.specs.Frames.{header_at}
use Rattle.ff_headers.proofs.MatchingLemmas.{fits-held, fits-none, PartFits-held, PartFits-none}
use Rattle.ff_headers.proofs.matching.fits.Goals as goal

pub returns-in-Some : goal.returns-in-Some
returns-in-Some c =
    let s = c.args.selector.now in
    let value = c.in-Some.header.now in
    let at : header_at c.args.headers.now s.kind ≡ Some value = sym (rw (c.in-Some.is, c.kind.ensures) at c.get.ensures.value) in
    let size = rw (c.in-Some.is, c.kind.ensures) at c.get.ensures.size in
    let says = rw c.mask.ensures.value at c.equal_under.ensures in
    record {
      value = fits-held s c.args.part.now c.args.headers.now value c.equal_under.result at (omega (arith, size, c.mask.ensures.whole)) (omega (arith, c.mask.ensures.whole)) says;
      meaning = PartFits-held s c.args.part.now c.args.headers.now value c.equal_under.result at says;
    }

pub returns-in-None : goal.returns-in-None
returns-in-None c =
    let s = c.args.selector.now in
    let at : header_at c.args.headers.now s.kind ≡ None = sym (rw (c.in-None.is, c.kind.ensures) at c.get.ensures.value) in
    record {
      value = fits-none s c.args.part.now c.args.headers.now at;
      meaning = PartFits-none s c.args.part.now c.args.headers.now at;
    }
