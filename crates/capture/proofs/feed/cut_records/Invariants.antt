use Rattle.std.proofs.Common.{◌≡◌, ℕ, ◌-◌, ◌≤◌, ◌++◌, List, length, take}
use Rattle.capture.specs.Records.{AreRecords}
use Rattle.capture.proofs.feed.cut_records.Given as goal

abbrev pub invariant-loop-frame : goal.invariant-loop-frame
invariant-loop-frame l = record {
  within : l.at ≤ length l.bytes;
  further : (frames : List (List ℕ)) × (l.frames ≡ l.fn.frames ++ frames) × AreRecords l.big (take l.at l.bytes) frames;
}

abbrev pub decreases-loop-frame : goal.decreases-loop-frame
decreases-loop-frame l = length l.bytes - l.at
