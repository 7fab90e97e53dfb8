-- The pairs so far are read, the others stand in the word, and there is room for each.
use Rattle.std.proofs.Common.{◌≡◌, ◌+◌, ◌*◌, ◌/◌, ◌≤◌, ◌++◌, drop, length, vec_len, vec_capacity}
use Rattle.vnff_base.specs.Hex.{pair_bytes}
use Rattle.vnff_base.proofs.hex.read_pairs.Given as goal

abbrev pub invariant-loop-place : goal.invariant-loop-place
invariant-loop-place l = record {
  read : l.bytes.items ++ pair_bytes (drop (2 * l.place) l.word) ≡ l.initial.bytes.items ++ pair_bytes l.word;
  count : vec_len l.bytes ≡ vec_len l.initial.bytes + l.place;
  room : vec_len l.initial.bytes + length l.word / 2 ≤ vec_capacity l.bytes;
}
