use Rattle.std.proofs.Common.{◌≤◌, length, map, arith, ap, sym, ◌∙◌}
use Rattle.std.proofs.lemmas.List.{map_more, take_all}
use Rattle.ff_headers.specs.declared.kind.Kind.TheVariants.{Eth}
use Rattle.ntuple_compile.specs.SpecFits.{kinds_of}
use Rattle.ntuple_compile.specs.Selected.{mask_for, selector_of_mask, selectors_of}
use Rattle.ntuple_compile.proofs.selected.selectors_of.Goals as goal

pub loop-kind-preserved : goal.loop-kind-preserved
loop-kind-preserved c =
    let spec = c.args.spec.now in
    let items = c.kinds_of-kind-items.ensures in
    let inside = rw items at c.loop-kind-test.true in
    let one = rw (c.as_slice.ensures.value, c.mask_for-mask.ensures.value, items) at c.selector_of_mask.ensures in
    let more = map_more (λ kind. selector_of_mask kind (mask_for spec kind)) (kinds_of spec.flow) c.loop-kind.kind-index Eth inside in
    c.push.ensures.items ∙ rw (c.loop-kind.invariant, one) (sym more)

pub returns : goal.returns
unfolding selectors_of
returns c =
    let spec = c.args.spec.now in
    let ended = rw c.kinds_of-kind-items.ensures at c.loop-kind-test.false in
    let past : length (kinds_of spec.flow) ≤ c.loop-kind.kind-index = omega (arith, ended) in
    c.loop-kind.invariant ∙ ap (λ kinds. map (λ kind. selector_of_mask kind (mask_for spec kind)) kinds) (take_all c.loop-kind.kind-index (kinds_of spec.flow) past)
