use Rattle.std.proofs.Common.{ap, rules}
use Rattle.std.proofs.lemmas.List.Sorted.{answers_always}
use Rattle.res_objects.specs.Linked.{SlotIndex}
use Rattle.res_objects.proofs.Places.{searched}
use Rattle.res_objects.proofs.id_index.IdIndex.place_of.Goals as goal

-- the closure gives an entry's id, and the slice is the index
pub returns : goal.returns
returns c =
    let facts = c.binary_search_by_key.ensures in
    let by_id = facts.position (λ entry. entry.0) (answers_always _ _ _ (λ f a r g called. search rules)) in
    let here = ap (λ (index : SlotIndex). index.slots) c.self.view_is in
    rw (← here, ← c.deref.ensures.value) (searched _ (rw c.deref.ensures.value c.self.invariant.ordered) c.args.id _ facts.bound by_id)
