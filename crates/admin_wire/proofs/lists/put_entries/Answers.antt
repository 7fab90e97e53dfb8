use Rattle.std.proofs.Common.{◌≡◌, ◌+◌, ◌∙◌, sym, ap, subst, arith, List, ◌++◌, length, take}
use Rattle.std.specs.List.{flat_map}
use Rattle.std.proofs.lemmas.List.Elements.{All-more}
use Rattle.ff_headers.specs.SelectorParts.{SelectorParts, IsWhole}
use Rattle.admin_wire.specs.Fields.{Field, WritesFields}
use Rattle.admin_wire.specs.Layouts.{selector_fields}
use Rattle.admin_wire.proofs.Writing.{WritesFields-none, WritesFields-more, room_for_entry, entries-more}
use Rattle.admin_wire.proofs.lists.put_entries.Goals as goal

pub loop-selector-init : goal.loop-selector-init
loop-selector-init c = record { writes = WritesFields-none c.args.bytes.now.items; whole = λ k d below. absurd (omega arith) }

pub put_selector-requires : goal.put_selector-requires
put_selector-requires c =
    omega (
      arith,
      room_for_entry c.args.selectors.now c.loop-selector.selector-index c.selector-item.result c.loop-selector-test.true,
      ap (λ (s : SelectorParts). length s.mask) c.selector-item.is,
    )

pub loop-selector-preserved : goal.loop-selector-preserved
loop-selector-preserved c =
    let here = subst IsWhole c.selector-item.is c.put_selector.ensures.whole in
    let first = flat_map selector_fields (take c.loop-selector.selector-index c.args.selectors.now) in
    let fields : first ++ selector_fields c.selector-item.result
    ≡ flat_map selector_fields (take (c.loop-selector.selector-index + 1) c.args.selectors.now)
    = ap (λ s. first ++ selector_fields s) c.selector-item.is
    ∙ sym (entries-more c.args.selectors.now c.loop-selector.selector-index c.selector-item.result c.loop-selector-test.true) in
    record {
      writes = subst (λ (fields : List Field). WritesFields c.args.bytes.now.items fields c.put_selector.new.bytes.items) fields
          (WritesFields-more c.loop-selector.invariant.writes c.put_selector.ensures.writes);
      whole = All-more IsWhole c.args.selectors.now c.loop-selector.selector-index c.selector-item.result
          c.loop-selector-test.true c.loop-selector.invariant.whole here;
    }
