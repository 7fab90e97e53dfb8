use Rattle.std.proofs.Common.{◌≡◌, ◌+◌, ◌≤◌, length, drop}
use Rattle.ff_headers.specs.Matching.{key_size}
use Rattle.matcher.specs.Keys.{frame_key, joined_with}
use Rattle.matcher.proofs.keys.frame_key.Given as goal

abbrev pub invariant-loop-selector : goal.invariant-loop-selector
invariant-loop-selector l =
    let left = drop l.selector-index l.selector-items in
    record {
      room : length l.bits.items + key_size left ≤ 74;
      same : frame_key l.fn.selectors l.fn.headers ≡ joined_with l.bits.items (frame_key left l.fn.headers);
    }
