use Rattle.ff_store.proofs.CountedLemmas.{objects-without, count-without}
use Rattle.ff_store.proofs.counted.remove_object.Goals as goal

pub returns-clause-objects : goal.returns-clause-objects
returns-clause-objects g c = rw c.remove.ensures.entries (objects-without c.args.map.now.entries c.args.id)

pub returns-clause-counts : goal.returns-clause-counts
returns-clause-counts g c = λ q. rw c.remove.ensures.entries (count-without c.args.map.now.entries c.args.id q c.remove.ensures.rising c.requires)
