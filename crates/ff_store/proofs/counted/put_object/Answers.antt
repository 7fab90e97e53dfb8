use Rattle.std.proofs.Common.{sym, ◌∙◌}
use Rattle.ff_store.proofs.CountedLemmas.{room-objects, objects-put, count-kept}
use Rattle.ff_store.proofs.counted.put_object.Goals as goal

pub put-requires : goal.put-requires
put-requires g c = sym (room-objects c.args.map.now.entries c.args.id c.args.map.now.room) ∙ c.requires

pub returns-clause-objects : goal.returns-clause-objects
returns-clause-objects g c = rw c.put.ensures.entries (objects-put c.args.map.now.entries c.args.id _)

pub returns-clause-counts : goal.returns-clause-counts
returns-clause-counts g c = λ q. rw c.put.ensures.entries (count-kept c.args.map.now.entries c.args.id _ q c.count_of-rules.ensures)
