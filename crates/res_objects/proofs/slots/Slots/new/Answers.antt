use Rattle.res_objects.proofs.FreeList.{HasFree-none}
use Rattle.res_objects.proofs.slots.Slots.new.Goals as goal

pub invariant_of-result : goal.invariant_of-result
invariant_of-result g c =
    rw (c.in_ok-with_capacity.ensures.items, c.in_ok-with_capacity-2.ensures.items, c.in_ok-with_capacity.ensures.exact, c.in_ok-with_capacity-2.ensures.exact) (HasFree-none c.args.room c.requires)
