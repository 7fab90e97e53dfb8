-- What `steer` does with the frames of a capture, this project's own: each goes to the sink of its queue, and the
-- counts of frames are printed.
use Rattle.std.specs.Prelude.{◌≡◌, ◌≢◌, ℕ, Bool, false, ◌==◌, List, ◌++◌, length, filter, take, codes, decimal, Option, Some, None, is_none}
use Rattle.std.specs.List.{flat_map, range_with_len}
use Rattle.ff_headers.specs.Frames.{headers_of}
use Rattle.ff_headers.specs.Objects.{FlowObjects}
use Rattle.ff_headers.specs.Places.{action_of}
use Rattle.ff_headers.specs.declared.rule.Action.{Action}
use Rattle.ff_headers.specs.declared.rule.Action.TheVariants.{Default, Drop, Queue}
use Rattle.cap_table.specs.States.{start_state}
use Rattle.rx_sinks.specs.Racks.{FirstSinks}
use Rattle.rx_sinks.specs.Sinks.{SinkState, Follows, appended, finished}
use Rattle.ntuple_text.specs.SpecTexts.{line_feed}
use Rattle.vnff_run.specs.Replay.{state_after_items}
use Rattle.vnff_run.specs.declared.script.Script.{Script}

-- the number of queue pairs, the objects that a script's commands leave, and the frames that come then
pub record Steering : Type 0 where
  pub pairs : ℕ
  pub objects : FlowObjects
  pub frames : List (List ℕ)

-- the steering of a script and frames; the script's own frames are skipped
unfoldable pub steering_for : Script × List (List ℕ) → Steering
steering_for input = record {
  pairs = input.0.caps.pairs;
  objects = (state_after_items (start_state input.0.caps input.0.start) input.0.items).objects;
  frames = input.1;
}

-- the queue to whose sink a frame goes: that of its rule, 0 where no rule matches, and none where it is dropped
abbrev pub queue_of : Action → Option ℕ
queue_of Default = Some 0
queue_of Drop = None
queue_of (Queue queue) = Some queue

abbrev pub frame_queue : FlowObjects → List ℕ → Option ℕ
frame_queue objects frame = queue_of (action_of objects (headers_of frame))

-- whether what goes to this queue, or to none, goes to that one
abbrev pub is_for : ℕ → Option ℕ → Bool
is_for queue None = false
is_for queue (Some other) = other == queue

-- the frames that go to a queue, in order
unfoldable pub sink_list : FlowObjects → List (List ℕ) → ℕ → List (List ℕ)
sink_list objects frames queue = filter (λ frame. is_for queue (frame_queue objects frame)) frames

-- the frames that are dropped, in order
unfoldable pub dropped_list : FlowObjects → List (List ℕ) → List (List ℕ)
dropped_list objects frames = filter (λ frame. is_none (frame_queue objects frame)) frames

-- ---- what is printed

-- `queue Q N`
unfoldable pub queue_line : ℕ → ℕ → List ℕ
queue_line queue count = codes "queue " ++ (decimal queue ++ (codes " " ++ (decimal count ++ line_feed)))

-- `drop N`
unfoldable pub drop_line : ℕ → List ℕ
drop_line count = codes "drop " ++ (decimal count ++ line_feed)

-- the line of a queue: how many frames go to it
abbrev pub sink_line : Steering → ℕ → List ℕ
sink_line run queue = queue_line queue (length (sink_list run.objects run.frames queue))

-- a line for each queue pair, and one for the frames that are dropped
unfoldable pub steer_text : Steering → List ℕ
steer_text run =
    flat_map (sink_line run) (range_with_len 0 run.pairs)
    ++ drop_line (length (dropped_list run.objects run.frames))

-- ---- what sinks get

-- The sink of each queue pair got the frames that go to it, and was finished; no other was touched.
abbrev pub AllSteered : Steering → List SinkState → List SinkState → Type 0
AllSteered run old new =
    FirstSinks run.pairs (λ q a b. b ≡ finished (appended a (sink_list run.objects run.frames q))) old new

-- The sink of each queue pair was finished, and where it tells its frames it got those of the first n frames that go to
-- it, with one n for all; no other was touched.
abbrev pub FrontSteered : Steering → List SinkState → List SinkState → Type 0
FrontSteered run old new =
    (n : ℕ)
    × FirstSinks run.pairs
    (λ q a b. Follows (finished (appended a (sink_list run.objects (take n run.frames) q))) b) old new

-- What a run of `steer` that ended with a status did with the sinks: all of it, or a front where a sink or a write
-- failed, or nothing.
pub record Steered (run : Steering) (status : ℕ) (old new : List SinkState) : Type 0 where
  pub done : status ≡ 0 → AllSteered run old new
  pub failed : status ≡ 4 → FrontSteered run old new
  pub untouched : status ≢ 0 → status ≢ 4 → new ≡ old
