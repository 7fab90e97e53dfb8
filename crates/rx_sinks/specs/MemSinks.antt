-- A sink in memory, as contracts see it.
use Rattle.std.specs.Prelude.{ℕ, ◌+◌, ◌<◌, ◌≤◌, true, List, length, sum_by, Some, ◌⊎◌}
use Rattle.rx_sinks.specs.Sinks.{SinkState}

-- the frames delivered, how many frames there is room for and how many bytes, the numbers of the calls that are to
-- fail, the calls so far, and the counts of failures and of finishes
pub record MemSinkState : Type 0 where
  pub frames : List (List ℕ)
  pub room : ℕ
  pub byte_room : ℕ
  pub failing : List ℕ
  pub calls : ℕ
  pub faults : ℕ
  pub ends : ℕ

-- as every sink is seen: it tells and gives its frames, and tells how often it was finished
abbrev pub mem_state : MemSinkState → SinkState
mem_state sink = record { frames = Some sink.frames; faults = sink.faults; ends = Some sink.ends; gives = true }

-- how many bytes the frames have
abbrev pub byte_count : List (List ℕ) → ℕ
byte_count frames = sum_by length frames

-- There is no room left for a frame: as many frames are held as there is room for, or too many bytes.
abbrev pub IsPastRoom : MemSinkState → List ℕ → Type 0
IsPastRoom sink frame = (sink.room ≤ length sink.frames) ⊎ (sink.byte_room < byte_count sink.frames + length frame)
