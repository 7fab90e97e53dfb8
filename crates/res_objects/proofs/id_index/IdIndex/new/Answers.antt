use Rattle.res_objects.proofs.Places.{IsIdIndex-none}
use Rattle.res_objects.proofs.id_index.IdIndex.new.Goals as goal

pub invariant_of-result : goal.invariant_of-result
invariant_of-result c = rw c.in_ok-with_capacity.ensures.items IsIdIndex-none
