use Rattle.std.proofs.Common.{◌≡◌, ℕ, ◌∷◌, ◌++◌, [], List, Some, false, true, cond, ap, sym, ◌∙◌, subst, arith, length}
use Rattle.std.specs.Prelude.{bytes_eq, is_some}
use Rattle.std.proofs.lemmas.List.Elements.{All-push}
use Rattle.ntuple_text.specs.declared.spec.Spec.{Spec}
use Rattle.ntuple_compile.specs.Selected.{AreGiven}
use Rattle.ntuple_compile.specs.ShapeBytes.{IsNumbered, number_under, spec_bytes}
use Rattle.ntuple_compile.proofs.ShapeLemmas.{missing_is_new, none_from_test, numbers-insert, placed-push}
use Rattle.ntuple_compile.proofs.shapes.Shapes.add.Goals as goal

pub returns-in_ok-push-clause-value : goal.returns-in_ok-push-clause-value
returns-in_ok-push-clause-value c =
    let firsts = c.args.self.now.firsts.items in
    let spec = c.args.spec.now in
    let numbers = c.args.self.now.numbers in
    let missing = ap (λ bytes. is_some (number_under numbers bytes)) (sym c.bytes_for-bytes.ensures) ∙ sym c.if-not-contains_key.ensures in
    let new = missing_is_new firsts spec (number_under numbers) false c.requires.numbered missing in
    c.in_ok-push.ensures.items ∙ sym (ap (λ t. cond t firsts (firsts ++ spec ∷ [])) new)

pub returns-in_ok-push-clause-numbered : goal.returns-in_ok-push-clause-numbered
returns-in_ok-push-clause-numbered c =
    let firsts = c.args.self.now.firsts.items in
    let spec = c.args.spec.now in
    let before = c.args.self.now.numbers in
    let after = c.insert.new.self in
    let bytes = c.bytes_for-bytes.ensures in
    let missing = ap (λ b. is_some (number_under before b)) (sym bytes) ∙ sym c.if-not-contains_key.ensures in
    let absent = none_from_test (number_under before (spec_bytes spec)) missing in
    let end : c.len.result ≡ length firsts = omega (arith, c.len.ensures) in
    let updated : (b : List ℕ) → number_under after b ≡ cond (bytes_eq (spec_bytes spec) b) (Some (length firsts)) (number_under before b) = λ b. numbers-insert before after c.bytes_for-bytes.result c.len.result c.in_ok-insert.ensures.updates b ∙ ap (λ key. cond (bytes_eq key b) (Some c.len.result) (number_under before b)) bytes ∙ ap (λ n. cond (bytes_eq (spec_bytes spec) b) (Some n) (number_under before b)) end in
    let P : List Spec → Type 0 = λ specs. IsNumbered specs (number_under after) in
    subst P (sym c.in_ok-push.ensures.items) (record {
      placed = placed-push firsts spec (number_under before) (number_under after) c.requires.numbered.placed absent updated;
      given = All-push AreGiven firsts spec c.requires.numbered.given c.requires.given;
    })

pub returns-else-not-contains_key-clause-value : goal.returns-else-not-contains_key-clause-value
returns-else-not-contains_key-clause-value c =
    let firsts = c.args.self.now.firsts.items in
    let spec = c.args.spec.now in
    let numbers = c.args.self.now.numbers in
    let there = ap (λ bytes. is_some (number_under numbers bytes)) (sym c.bytes_for-bytes.ensures) ∙ sym c.if-not-contains_key.ensures in
    let known = missing_is_new firsts spec (number_under numbers) true c.requires.numbered there in
    sym (ap (λ t. cond t firsts (firsts ++ spec ∷ [])) known)
