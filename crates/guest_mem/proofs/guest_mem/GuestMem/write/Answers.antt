use Rattle.std.proofs.Common.{◌+◌, ◌≤◌, length, arith}
use Rattle.std.proofs.lemmas.Grind.{common_steps}
use Rattle.guest_mem.proofs.Bytes.{with_bytes-writes}
use Rattle.guest_mem.proofs.guest_mem.GuestMem.write.Goals as goal

pub returns-clause-written : goal.returns-clause-written
returns-clause-written c =
    let inside : c.args.addr + length c.args.bytes.now ≤ length c.args.self.now = grind (arith, common_steps) in
    with_bytes-writes _ _ _ _ inside (grind (arith, common_steps))
