use Rattle.std.proofs.Common.{◌≡◌, ℕ, List, None, ap, sym, subst, arith, length}
use Rattle.std.specs.BTreeMap.{is_at}
use Rattle.std.specs.Cmp.Lexicographic.{slice_cmp}
use Rattle.std.specs.Map.{lookup}
use Rattle.std.specs.Ordering.{nat_cmp}
use Rattle.arrayvec.specs.ArrayVec.{ArrayVec}
use Rattle.ntuple_text.specs.declared.spec.Spec.{Spec}
use Rattle.ntuple_compile.specs.ShapeBytes.{IsNumbered, number_under}
use Rattle.ntuple_compile.proofs.ShapeLemmas.{first_uses, numbered_none, shapes_of_all, used_more}
use Rattle.ntuple_compile.proofs.shapes.Shapes.of.Goals as goal

pub loop-spec-init : goal.loop-spec-init
unfolding first_uses
loop-spec-init c =
    let numbers = c.new-2.result in
    let P : List Spec → Type 0 = λ firsts. IsNumbered firsts (number_under numbers) in
    let none : (bytes : List ℕ) → number_under numbers bytes ≡ None = λ bytes. ap (λ entries. lookup (is_at (λ (key : ArrayVec ℕ). slice_cmp nat_cmp bytes key.items)) entries) c.new-2.ensures.empty in
    record {
      value = c.new.ensures.items;
      numbered = subst P (sym c.new.ensures.items) (numbered_none (number_under numbers) none);
      few = omega (arith, ap length c.new.ensures.items);
    }

pub loop-spec-preserved : goal.loop-spec-preserved
loop-spec-preserved c =
    let kept = c.loop-spec.invariant in
    let used = used_more c.args.specs.now c.loop-spec.spec-index _ c.loop-spec.shapes.firsts.items c.add.new.self.firsts.items c.loop-spec-test.true c.in_ok-add.ensures.value kept.value in
    record { value = used.0; numbered = c.in_ok-add.ensures.numbered; few = omega (arith, used.1, kept.few) }

pub returns-clause-value : goal.returns-clause-value
returns-clause-value c =
    shapes_of_all c.args.specs.now c.loop-spec.shapes.firsts.items c.loop-spec.spec-index (omega (arith, c.loop-spec-test.false)) c.loop-spec.invariant.value
