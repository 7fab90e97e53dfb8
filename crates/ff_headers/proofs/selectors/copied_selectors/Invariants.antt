use Rattle.std.proofs.Common.{◌≡◌, take, All}
use Rattle.ff_headers.specs.SelectorParts.{IsWhole}
use Rattle.ff_headers.proofs.selectors.copied_selectors.Given as goal

abbrev pub invariant-loop-selector : goal.invariant-loop-selector
invariant-loop-selector g l = record {
  copied_so_far : l.copies.items ≡ take l.selector-index l.list;
  whole : All IsWhole (take l.selector-index l.list);
}
