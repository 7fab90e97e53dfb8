use Rattle.std.proofs.Common.{◌≤◌, ap, sym, ◌∙◌, arith, length}
use Rattle.ff_headers.specs.declared.kind.Kind.TheVariants.{Eth}
use Rattle.ntuple_compile.specs.SpecFits.{kinds_of}
use Rattle.ntuple_compile.proofs.ShapeLemmas.{bytes_all, bytes_more, bytes_none, few_bytes}
use Rattle.ntuple_compile.proofs.shapes.bytes_for.Goals as goal

pub loop-kind-init : goal.loop-kind-init
loop-kind-init c = (c.new-bytes.ensures ∙ sym (bytes_none c.args.spec.now), omega (arith, ap length c.new-bytes.ensures))

pub loop-kind-preserved : goal.loop-kind-preserved
loop-kind-preserved c =
    let items = c.kinds_of-kind-items.ensures in
    let inside = rw items at c.loop-kind-test.true in
    let more = bytes_more c.args.spec.now c.loop-kind.kind-index Eth inside in
    let put = rw c.unwrap.ensures at c.try_extend_from_slice.ensures.ok in
    let longer = rw c.unwrap.ensures at c.try_extend_from_slice.ensures.len in
    let mask = rw items at (c.as_slice.ensures.value ∙ c.mask_for-mask.ensures.value) in
    let whole = ap length c.as_slice.ensures.value ∙ c.mask_for-mask.ensures.whole in
    let code = rw items at c.code.ensures in
    let is = put ∙ rw (c.push.ensures.items, mask, code, c.loop-kind.invariant.0) (sym more) in
    (is, omega (arith, few_bytes, whole))

pub returns : goal.returns
returns c =
    let spec = c.args.spec.now in
    let ended = rw c.kinds_of-kind-items.ensures at c.loop-kind-test.false in
    let past : length (kinds_of spec.flow) ≤ c.loop-kind.kind-index = omega (arith, ended) in
    c.loop-kind.invariant.0 ∙ bytes_all spec c.loop-kind.kind-index past
