-- What the code knows of a live run that it writes. The code's own.
use Rattle.std.specs.Prelude.{ℕ, ◌≡◌, ◌<◌, ◌/◌, ◌%◌, List, Some, length, slice_get}
use Rattle.arrayvec.specs.ArrayVec.{ArrayVec}
use Rattle.snapshots.specs.Workers.{WorkerState}
use Rattle.steer.specs.Results.{line_of, log_at, packet_lines, read_of, replies_in}
use Rattle.vnff_run.specs.LiveTexts.{live_text, numbered_line}

-- each of n packets was logged by the worker to whom it belongs
abbrev pub AreLogged : List WorkerState → ℕ → Type 0
AreLogged workers n = (i : ℕ) → i < n
    → slice_get (log_at workers (i % length workers)) (i / length workers) ≡ Some (read_of workers (length workers) i)

-- the line of a packet that a worker read
abbrev pub read_line : List WorkerState → ℕ → List ℕ
read_line workers i = numbered_line (i, line_of (read_of workers (length workers) i))

-- the lines of replies, and of n packets that workers read
abbrev pub lines_of_run : List (ArrayVec ℕ) → List WorkerState → ℕ → List ℕ
lines_of_run replies workers n = live_text (replies_in replies) (packet_lines workers (length workers) n)
