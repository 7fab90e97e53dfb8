use Rattle.std.proofs.Common.{◌≡◌, ◌≤◌, All, take, vec_len}
use Rattle.std.specs.Prelude.{filter_map}
use Rattle.ntuple_compile.specs.Selected.{AreGiven}
use Rattle.ntuple_compile.proofs.compiling.specs_of.Given as goal

abbrev pub invariant-loop-slot : goal.invariant-loop-slot
invariant-loop-slot l = record {
  value : l.specs.items ≡ filter_map (λ slot. slot) (take l.slot-index l.table.slots);
  given : All AreGiven l.specs.items;
  few : vec_len l.specs ≤ l.slot-index;
}
