use Rattle.ntuple_compile.proofs.FitLemmas.{agrees_by_bits}
use Rattle.ntuple_compile.proofs.laws.fields_agree_bit_by_bit.Goals as goal

pub returns : goal.returns
returns c = agrees_by_bits
