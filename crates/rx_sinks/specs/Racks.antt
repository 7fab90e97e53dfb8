-- What contracts see of a rack: the list of its sinks, that of queue 0 first. This project's own.
use Rattle.std.specs.Prelude.{◌≡◌, ◌≢◌, ℕ, ◌<◌, ◌≤◌, false, List, length, slice_index_or, None, Result, MatchResult}
use Rattle.vnff_base.specs.Counts.{Rose}
use Rattle.rx_sinks.specs.Sinks.{SinkState, finished, IsFinished}

-- what stands for the sink of a queue that has none
abbrev pub no_sink : SinkState
no_sink = record { frames = None; faults = 0; ends = None; gives = false }

-- the sink of a queue
abbrev pub sink_at : List SinkState → ℕ → SinkState
sink_at sinks queue = slice_index_or sinks queue no_sink

-- The sink of one queue was changed so, and no other.
pub record OneSink (queue : ℕ) (Changed : SinkState → SinkState → Type 0) (old new : List SinkState) : Type 0 where
  pub count : length new ≡ length old
  pub one : Changed (sink_at old queue) (sink_at new queue)
  pub others : (q : ℕ) → q ≢ queue → sink_at new q ≡ sink_at old q

-- The sinks of the first queues were each changed so, where the queue may matter, and no others.
pub record FirstSinks (pairs : ℕ) (Changed : ℕ → SinkState → SinkState → Type 0) (old new : List SinkState)
    : Type 0 where
  pub count : length new ≡ length old
  pub first : (q : ℕ) → q < pairs → Changed q (sink_at old q) (sink_at new q)
  pub rest : (q : ℕ) → pairs ≤ q → sink_at new q ≡ sink_at old q

-- Of the first sinks one failed: its count of failures rose.
abbrev pub OneRose : ℕ → List SinkState → List SinkState → Type 0
OneRose pairs old new = (q : ℕ) × (q < pairs) × Rose (sink_at old q).faults (sink_at new q).faults

-- Each of the first sinks was finished once, whatever it answered, and one of them failed.
pub record OneFailed (pairs : ℕ) (old new : List SinkState) : Type 0 where
  pub each : FirstSinks pairs (λ _ a b. IsFinished a b) old new
  pub rose : OneRose pairs old new

-- What finishing the first sinks answered: each was finished, and where it failed one of them did.
abbrev pub FinishesFirst : {A E : Type 0} → ℕ → List SinkState → List SinkState → Result A E → Type 0
FinishesFirst pairs old new result =
    MatchResult result (λ _. FirstSinks pairs (λ _ a b. b ≡ finished a) old new) (λ _. OneFailed pairs old new)
