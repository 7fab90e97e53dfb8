-- No place from the end on is free.
use Rattle.std.proofs.Common.{◌≡◌, ◌≤◌, length, take}
use Rattle.ntuple_text.specs.TableMaps.{last_free}
use Rattle.ntuple_text.proofs.table.last_free.Given as goal

abbrev pub invariant-loop-end : goal.invariant-loop-end
invariant-loop-end l = record {
  same : last_free l.slots ≡ last_free (take l.end l.slots);
  inside : l.end ≤ length l.slots;
}

abbrev pub decreases-loop-end : goal.decreases-loop-end
decreases-loop-end l = l.end
