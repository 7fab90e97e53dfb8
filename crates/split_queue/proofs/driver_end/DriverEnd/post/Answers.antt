use Rattle.std.proofs.Common.{◌≡◌, ◌<◌, ◌≤◌, ◌^◌, length, reverse, get_or, ap, ◌∙◌, subst, arith, rules}
use Rattle.guest_mem.specs.Memory.{ChangesOnly}
use Rattle.split_queue.specs.DriverEnds.{DriverEndState, IsDriver, IsInPost, with_post}
use Rattle.split_queue.specs.Pools.{AreFree}
use Rattle.split_queue.specs.Setup.{IsPlaced}
use Rattle.split_queue.proofs.PostLaws.{changes-with_post}
use Rattle.split_queue.proofs.PostedChain.{post-pops}
use Rattle.split_queue.proofs.driver_end.DriverEnd.post.Goals as goal

pub returns-clause-pops : goal.returns-clause-pops
returns-clause-pops c = λ device agree postable.
    let end = c.args.self.now in
    let driver : IsDriver end.place end.mem_len end.pool = subst (λ (e : DriverEndState). IsDriver e.place e.mem_len e.pool) c.self.view_is c.self.invariant in
    let placed : IsPlaced end.place (length c.args.mem.now) = rw c.requires.memory driver.placed in
    let free_list : AreFree end.pool.owners end.pool.free = subst (λ (e : DriverEndState). AreFree e.pool.owners e.pool.free) c.self.view_is c.free_len-free.ensures.free_list in
    let small : length end.pool.owners < 2 ^ 16 = subst (λ (e : DriverEndState). length e.pool.owners < 2 ^ 16) c.self.view_is c.free_len-free.ensures.few in
    let free_now = ap (λ (e : DriverEndState). e.pool.free) c.self.view_is in
    let enough : length c.args.pieces.now ≤ length end.pool.free = omega (arith, ap length free_now, c.free_len-free.ensures.value) in
    let head : c.first-head.result ≡ get_or (reverse end.pool.free) 0 0 = c.first-head.ensures.value ∙ ap (λ ns. get_or (reverse ns) 0 0) free_now in
    let memory : c.put_available.new.mem ≡ with_post c.args.mem.now end c.args.pieces.now c.args.readable = search rules in
    rw (memory, head) (post-pops c.args.mem.now end device c.args.pieces.now c.args.readable c.requires.some enough placed driver.same_size small free_list c.put_chain.ensures.lens agree postable)

pub returns-clause-others : goal.returns-clause-others
returns-clause-others c =
    let end : DriverEndState = record { place = c.self.inside.place; mem_len = c.self.inside.mem_len; next = c.self.inside.next; used = c.self.inside.used; pool = c.self.inside.pool } in
    subst (λ (e : DriverEndState). ChangesOnly c.args.mem.now c.put_available.new.mem (IsInPost e)) c.self.view_is
    (changes-with_post _ c.put_chain.new.mem _ end c.put_chain.ensures.others c.put_available.ensures.others)
