use Rattle.std.proofs.Common.{◌≤◌, length, arith, ap, ◌∙◌}
use Rattle.std.specs.Prelude.{flat_map}
use Rattle.std.proofs.lemmas.List.{take_all}
use Rattle.ff_headers.specs.declared.kind.Kind.TheVariants.{Eth}
use Rattle.ntuple_compile.specs.SpecFits.{kinds_of}
use Rattle.ntuple_compile.specs.Selected.{key_for, key_part}
use Rattle.ntuple_compile.proofs.KeyLemmas.{key_room}
use Rattle.ntuple_compile.proofs.selected.key_for.Goals as goal

pub unwrap-requires : goal.unwrap-requires
unwrap-requires c =
    let spec = c.args.spec.now in
    let items = c.kinds_of-kind-items.ensures in
    let inside = rw items at c.loop-kind-test.true in
    let room = key_room spec spec.flow c.loop-kind.kind-index Eth inside in
    let whole = rw items at c.key_part-part.ensures.whole in
    let front = ap length c.loop-kind.invariant in
    let part = ap length c.as_slice.ensures.value in
    c.try_extend_from_slice.ensures.variant.1 (omega (arith, room, whole, front, part))

pub returns : goal.returns
unfolding key_for
returns c =
    let spec = c.args.spec.now in
    let ended = rw c.kinds_of-kind-items.ensures at c.loop-kind-test.false in
    let past : length (kinds_of spec.flow) ≤ c.loop-kind.kind-index = omega (arith, ended) in
    c.loop-kind.invariant ∙ ap (λ kinds. flat_map (key_part spec) kinds) (take_all c.loop-kind.kind-index (kinds_of spec.flow) past)
