use Rattle.std.proofs.Common.{arith}
use Rattle.std.proofs.lemmas.Grind.{common_steps}
use Rattle.vnff_base.proofs.HexLemmas.{pair_bytes-drop}
use Rattle.vnff_base.proofs.hex.read_pairs.Goals as goal

pub loop-place-preserved : goal.loop-place-preserved
loop-place-preserved c =
    let next = pair_bytes-drop c.args.word.now c.loop-place.place (omega arith) in
    grind (arith, common_steps)
