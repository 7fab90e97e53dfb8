-- The word was written, so what it spells is what was written.
use Rattle.std.proofs.Common.{arith}
use Rattle.std.proofs.lemmas.Grind.{common_steps}
use Rattle.vnff_base.proofs.HexLemmas.{kinds_of_word, hex_bytes-hex_text}
use Rattle.vnff_base.proofs.hex.hex_read.Goals as goal

pub returns-then-not-is_pairs-clause-written : goal.returns-then-not-is_pairs-clause-written
returns-then-not-is_pairs-clause-written c = λ bytes small same.
    let read_back = hex_bytes-hex_text bytes small in
    grind (arith, common_steps, kinds_of_word)

pub returns-clause-written : goal.returns-clause-written
returns-clause-written c = λ bytes small same.
    let read_back = hex_bytes-hex_text bytes small in
    grind (arith, common_steps, kinds_of_word)
