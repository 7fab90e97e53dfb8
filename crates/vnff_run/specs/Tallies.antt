-- Counts of frames that went where, and their text. The code's own.
use Rattle.std.specs.Prelude.{◌≡◌, ℕ, ◌+◌, ◌<◌, List, ◌++◌, length, replicate, slice_index, slice_set, Option, Some, None}
use Rattle.std.specs.List.{flat_map, range_with_len}
use Rattle.ff_headers.specs.Objects.{FlowObjects}
use Rattle.cap_table.specs.Caps.{most_pairs}
use Rattle.vnff_run.specs.Steering.{drop_line, dropped_list, queue_line, sink_list}
use Rattle.vnff_run.specs.declared.tally.Tally.{Tally}

-- no frame
abbrev pub no_frames : Tally
no_frames = record { queues = replicate most_pairs 0; dropped = 0 }

-- one more frame, which went to a queue or to none
abbrev pub tally_with : Tally → Option ℕ → Tally
tally_with tally None = record tally { dropped = tally.dropped + 1 }
tally_with tally (Some queue) =
    record tally { queues = slice_set tally.queues queue (slice_index tally.queues queue + 1) }

-- The counts are those of the frames that go to each queue that a device may have, and of those that are dropped.
pub record IsTallyOf (objects : FlowObjects) (frames : List (List ℕ)) (tally : Tally) : Type 0 where
  pub count : length tally.queues ≡ most_pairs
  pub queues : (q : ℕ) → q < most_pairs → slice_index tally.queues q ≡ length (sink_list objects frames q)
  pub dropped : tally.dropped ≡ length (dropped_list objects frames)

-- the line of a queue's count
abbrev pub count_line : Tally → ℕ → List ℕ
count_line tally queue = queue_line queue (slice_index tally.queues queue)

-- the lines of the counts of the first queues, and of the dropped frames
abbrev pub tally_text : ℕ → Tally → List ℕ
tally_text pairs tally = flat_map (count_line tally) (range_with_len 0 pairs) ++ drop_line tally.dropped
