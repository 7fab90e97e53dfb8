-- What a live run leaves, as contracts see it. This project's own.
use Rattle.std.specs.Prelude.{ℕ, ◌≡◌, ◌/◌, ◌%◌, List, [], ◌∷◌, map, get_or, slice_get, None}
use Rattle.std.specs.List.{range_with_len}
use Rattle.std.specs.Option.{option_map_or}
use Rattle.arrayvec.specs.ArrayVec.{ArrayVec}
use Rattle.ff_headers.specs.declared.rule.Action.TheVariants.{Default}
use Rattle.snapshots.specs.Ends.{EndState}
use Rattle.snapshots.specs.Workers.{WorkerState, Logged}
use Rattle.snapshots.specs.declared.seen.Seen.{Seen}
use Rattle.steer.specs.LiveRuns.{PacketLine}

-- the bytes of replies
abbrev pub replies_in : List (ArrayVec ℕ) → List (List ℕ)
replies_in replies = map (λ reply. reply.items) replies

-- a worker of the published tables whose last read saw the whole list, and that logged these frames
pub record HasRead (end : EndState) (worker : WorkerState) (frames : List (List ℕ)) : Type 0 where
  pub identity : worker.identity ≡ end.identity
  pub limits : worker.limits ≡ end.limits
  pub floors : worker.floors ≡ end.list ∷ []
  pub logged : Logged worker frames

-- the log of the worker at a place
abbrev pub log_at : List WorkerState → ℕ → List Seen
log_at workers place = option_map_or (λ worker. worker.log) (slice_get workers place) []

-- nothing was read
abbrev pub no_read : Seen
no_read = record { after = 0; action = Default; rule = None }

-- the read of a frame: entry `i / workers` of the log of worker `i % workers`
abbrev pub read_of : List WorkerState → ℕ → ℕ → Seen
read_of states workers i = get_or (log_at states (i % workers)) (i / workers) no_read

-- the line of a read
abbrev pub line_of : Seen → PacketLine
line_of seen = record { after = seen.after; action = seen.action }

-- the lines of n frames, in their order
unfoldable pub packet_lines : List WorkerState → ℕ → ℕ → List PacketLine
packet_lines states workers n = map (λ i. line_of (read_of states workers i)) (range_with_len 0 n)
