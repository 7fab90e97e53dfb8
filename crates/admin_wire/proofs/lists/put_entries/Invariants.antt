use Rattle.std.proofs.Common.{take, flat_map, All}
use Rattle.ff_headers.specs.SelectorParts.{IsWhole}
use Rattle.admin_wire.specs.Fields.{WritesFields}
use Rattle.admin_wire.specs.Layouts.{selector_fields}
use Rattle.admin_wire.proofs.lists.put_entries.Given as goal

abbrev pub invariant-loop-selector : goal.invariant-loop-selector
invariant-loop-selector l = record {
  writes : WritesFields l.fn.bytes.items (flat_map selector_fields (take l.selector-index l.selectors)) l.bytes.items;
  whole : All IsWhole (take l.selector-index l.selectors);
}
