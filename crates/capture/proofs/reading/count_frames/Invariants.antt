use Rattle.std.proofs.Common.{◌≡◌, ◌+◌, ◌*◌, ◌-◌, ◌≤◌, length, drop}
use Rattle.capture.specs.Records.{map_ok, records_of}
use Rattle.capture.proofs.reading.count_frames.Given as goal

abbrev pub invariant-loop-frame : goal.invariant-loop-frame
invariant-loop-frame l = record {
  from : 24 ≤ l.at;
  within : l.at ≤ length l.bytes;
  room : 24 + 16 * l.count ≤ l.at;
  read : map_ok (λ frames. l.count + length frames) (records_of l.header.big l.at (drop l.at l.bytes))
      ≡ map_ok length (records_of l.header.big 24 (drop 24 l.bytes));
}

abbrev pub decreases-loop-frame : goal.decreases-loop-frame
decreases-loop-frame l = length l.bytes - l.at
