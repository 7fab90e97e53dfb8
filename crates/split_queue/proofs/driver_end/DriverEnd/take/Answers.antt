use Rattle.std.proofs.Common.{◌≡◌, Some, sym, subst}
use Rattle.split_queue.specs.DriverEnds.{DriverEndState}
use Rattle.split_queue.specs.Pools.{owner_of}
use Rattle.split_queue.proofs.ReleaseLaws.{after_release-contains}
use Rattle.split_queue.proofs.driver_end.DriverEnd.take.Goals as goal

pub returns-in-Some-clause-free_list : goal.returns-in-Some-clause-free_list
returns-in-Some-clause-free_list c = rw c.in-Some.is (λ number out.
    let out_before = subst (λ (e : DriverEndState). owner_of e.pool.owners number ≡ Some c.in-Some.head) (sym c.self.view_is) out in
    rw c.release.ensures (after_release-contains c.self.inside.pool c.in-Some.head number out_before))
