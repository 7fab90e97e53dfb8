use Rattle.std.proofs.Common.{length, ◌-◌, ◌≤◌, take}
use Rattle.std.specs.List.{flat_map}
use Rattle.vnff_base.specs.Hex.{hex_pair}
use Rattle.vnff_base.specs.Outputs.{Wrote}
use Rattle.vnff_base.proofs.hex.hex_put.Given as goal

abbrev pub invariant-loop-at : goal.invariant-loop-at
invariant-loop-at g l = record {
  within : l.at ≤ length l.bytes;
  wrote : Wrote (g.O.Out.state l.fn.out) (g.O.Out.state l.out)
      (flat_map hex_pair (take l.at l.bytes));
}

abbrev pub decreases-loop-at : goal.decreases-loop-at
decreases-loop-at g l = length l.bytes - l.at
