use Rattle.std.proofs.Common.{List, length, sym, ap, ◌∙◌, arith}
use Rattle.ff_headers.specs.SelectorParts.{SelectorParts}
use Rattle.matcher.specs.Keys.{shape_of}
use Rattle.matcher.proofs.ShapeLemmas.{same_part_at, one_part_more, same_shapes, same_length}
use Rattle.matcher.proofs.shapes.has_shape.Goals as goal

pub returns-then-a-b : goal.returns-then-a-b
returns-then-a-b c = (
  λ t. cc,
  λ same.
      let long = same_length c.args.a.now c.args.b.now same in
      let la = ap (λ (xs : List SelectorParts). length xs) c.as_slice-a.ensures.value in
      let lb = ap (λ (xs : List SelectorParts). length xs) c.as_slice-b.ensures.value in
      absurd (omega arith),
)

pub returns-then-not-has_part : goal.returns-then-not-has_part
returns-then-not-has_part c = (
  λ t. cc,
  λ same.
      let a = c.as_slice-a.result.now in
      let b = c.as_slice-b.result.now in
      let here = same_part_at a b c.loop-i.i c.index-a-i.result c.index-b-i.result (omega arith) (omega arith) c.index-a-i.is c.index-b-i.is (ap (λ (xs : List SelectorParts). shape_of xs) c.as_slice-a.ensures.value ∙ same ∙ sym (ap (λ (xs : List SelectorParts). shape_of xs) c.as_slice-b.ensures.value)) in
      absurd (let t = c.has_part.ensures.1 here in cc),
)

pub loop-i-preserved : goal.loop-i-preserved
loop-i-preserved c =
    one_part_more _ _ c.loop-i.i c.index-a-i.result c.index-b-i.result (omega arith) (omega arith) c.index-a-i.is c.index-b-i.is (c.has_part.ensures.0 c.if-not-has_part.false) c.loop-i.invariant

pub returns : goal.returns
returns c = (λ t. sym (ap (λ (xs : List SelectorParts). shape_of xs) c.as_slice-a.ensures.value) ∙ same_shapes c.as_slice-a.result.now c.as_slice-b.result.now c.loop-i.i (omega arith) (omega arith) c.loop-i.invariant ∙ ap (λ (xs : List SelectorParts). shape_of xs) c.as_slice-b.ensures.value, λ same. cc)
