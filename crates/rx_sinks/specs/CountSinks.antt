-- A sink that counts frames, as contracts see it.
use Rattle.std.specs.Prelude.{ℕ, false, Some, None}
use Rattle.rx_sinks.specs.Sinks.{SinkState}

-- the frames delivered, and how often it was finished
pub record CountSinkState : Type 0 where
  pub count : ℕ
  pub ends : ℕ

-- as every sink is seen: it tells and gives no frames, and never fails
abbrev pub count_state : CountSinkState → SinkState
count_state sink = record { frames = None; faults = 0; ends = Some sink.ends; gives = false }
