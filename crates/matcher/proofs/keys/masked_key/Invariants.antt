use Rattle.std.proofs.Common.{◌≡◌, ◌+◌, ◌≤◌, ◌++◌, length, drop}
use Rattle.ff_headers.specs.Matching.{key_size}
use Rattle.matcher.specs.Keys.{masked_key}
use Rattle.matcher.proofs.keys.masked_key.Given as goal

abbrev pub invariant-loop-selector : goal.invariant-loop-selector
invariant-loop-selector l =
    let left = drop l.selector-index l.selector-items in
    record {
      long : length l.rest ≡ key_size left;
      room : length l.bits.items + key_size left ≤ 74;
      same : masked_key l.fn.selectors l.fn.key.items ≡ l.bits.items ++ masked_key left l.rest;
    }
