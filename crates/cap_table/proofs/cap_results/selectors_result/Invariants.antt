-- The selectors so far are written, each in at most 48 bytes.
use Rattle.std.proofs.Common.{◌≡◌, ◌+◌, ◌*◌, ◌≤◌, ◌∷◌, length, take, flat_map}
use Rattle.std.specs.Int.{w8}
use Rattle.admin_wire.specs.Fields.{number, reserved, written}
use Rattle.cap_table.specs.CapResults.{offered_fields}
use Rattle.cap_table.proofs.cap_results.selectors_result.Given as goal

abbrev pub invariant-loop-selector : goal.invariant-loop-selector
invariant-loop-selector l = record {
  bytes : l.bytes.items
      ≡ written (number w8 (length l.selectors) ∷ reserved 7 ∷ flat_map offered_fields (take l.selector-index l.selectors));
  size : length l.bytes.items ≤ 8 + 48 * l.selector-index;
}
