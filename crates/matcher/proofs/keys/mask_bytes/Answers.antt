use Rattle.std.proofs.Common.{arith}
use Rattle.matcher.proofs.KeyLemmas.{masked_all}
use Rattle.matcher.proofs.keys.mask_bytes.Goals as goal

pub returns : goal.returns
returns c = masked_all _ _ _ c.loop-j.j c.requires (omega arith) (omega arith) c.loop-j.invariant.done
