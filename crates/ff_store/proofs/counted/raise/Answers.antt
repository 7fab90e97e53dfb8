use Rattle.std.proofs.Common.{refl}
use Rattle.ff_store.proofs.CountedLemmas.{on_ok, found, is_found, objects-recount, count-raised}
use Rattle.ff_store.proofs.counted.raise.Goals as goal

pub returns-clause-objects : goal.returns-clause-objects
returns-clause-objects g c =
    let was = found c.args.map.now.entries c.args.id c.query.result c.unwrap-named.result c.query.ensures.value c.unwrap-named.ensures in
    rw (on_ok _ _ c.unwrap.ensures c.modify.ensures.ok) (objects-recount c.args.map.now.entries c.args.id _ _ c.query.ensures.bounded.ordered was c.copied-object.ensures)

pub returns-clause-counts : goal.returns-clause-counts
returns-clause-counts g c =
    λ q.
    let was = found c.args.map.now.entries c.args.id c.query.result c.unwrap-named.result c.query.ensures.value c.unwrap-named.ensures in
    rw (on_ok _ _ c.unwrap.ensures c.modify.ensures.ok) (count-raised c.args.map.now.entries c.args.id _ _ q was refl)

pub unwrap-named-requires : goal.unwrap-named-requires
unwrap-named-requires g c = is_found c.args.map.now.entries c.args.id c.query.result c.query.ensures.value c.requires.held
