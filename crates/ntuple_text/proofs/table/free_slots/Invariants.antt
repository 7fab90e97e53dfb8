-- As many places are free as the loop has turned.
use Rattle.std.proofs.Common.{◌≡◌, ◌≤◌, vec_len, vec_capacity}
use Rattle.ntuple_text.specs.TableMaps.{free_slots}
use Rattle.ntuple_text.proofs.table.free_slots.Given as goal

abbrev pub invariant-loop : goal.invariant-loop
invariant-loop l = record {
  free : l.slots.items ≡ free_slots l.counter;
  len : vec_len l.slots ≡ l.counter;
  room : l.count ≤ vec_capacity l.slots;
}
