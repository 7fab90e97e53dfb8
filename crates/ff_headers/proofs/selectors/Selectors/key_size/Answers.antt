use Rattle.ff_headers.proofs.ShapeLemmas.{short_from_shape}
use Rattle.ff_headers.proofs.selectors.Selectors.key_size.Goals as goal

pub returns-clause-fits : goal.returns-clause-fits
returns-clause-fits c =
    let short = short_from_shape c.self.inside.list.items c.self.invariant.shape in
    rw (c.key_size.ensures, c.as_slice.ensures.value) short.1
