use Rattle.ff_store.proofs.CountedLemmas.{removed}
use Rattle.ff_store.proofs.counted.remove.Goals as goal

pub returns-clause-entries : goal.returns-clause-entries
returns-clause-entries g c = removed _ _ _ _ c.destroy.ensures.answer c.destroy.ensures.ok c.destroy.ensures.err
