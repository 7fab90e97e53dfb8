use Rattle.std.proofs.Common.{◌≡◌, length, drop}
use Rattle.std.specs.Prelude.{◌↔◌}
use Rattle.ff_headers.specs.Matching.{matches, Matches, key_size}
use Rattle.ff_headers.proofs.matching.matches.Given as goal

abbrev pub invariant-loop-selector : goal.invariant-loop-selector
invariant-loop-selector l =
    let left = drop l.selector-index l.selector-items in
    record {
      long : length l.rest ≡ key_size left;
      same : matches l.fn.selectors l.fn.key.items l.fn.headers ≡ matches left l.rest l.fn.headers;
      meaning : Matches l.fn.selectors l.fn.key.items l.fn.headers ↔ Matches left l.rest l.fn.headers;
    }
