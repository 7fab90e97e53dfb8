-- The words so far are written, each in 8 bytes.
use Rattle.std.proofs.Common.{◌≡◌, ◌*◌, length, take, flat_map}
use Rattle.std.specs.Int.{w64, to_le_bytes}
use Rattle.cap_table.proofs.cap_results.list_bytes.Given as goal

abbrev pub invariant-loop-word : goal.invariant-loop-word
invariant-loop-word l = record {
  bytes : l.bytes.items ≡ flat_map (to_le_bytes w64) (take l.word-index l.word-items);
  size : length l.bytes.items ≡ 8 * l.word-index;
}
