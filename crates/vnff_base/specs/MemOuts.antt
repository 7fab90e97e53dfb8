-- An output in memory, as contracts see it.
use Rattle.std.specs.Prelude.{ℕ, List, Some}
use Rattle.vnff_base.specs.Outputs.{OutputState}

-- the bytes written, the room for them, the numbers of the calls that are to fail, the calls so far, and
-- the count of failures
pub record MemOutState : Type 0 where
  pub bytes : List ℕ
  pub room : ℕ
  pub failing : List ℕ
  pub calls : ℕ
  pub faults : ℕ

-- as every output is seen: it tells its bytes
abbrev pub output_state : MemOutState → OutputState
output_state out = record { told = Some out.bytes; faults = out.faults }
