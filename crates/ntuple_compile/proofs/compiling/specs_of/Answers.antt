use Rattle.std.proofs.Common.{◌≡◌, ℕ, ◌+◌, ◌<◌, List, [], ◌∷◌, ◌++◌, All, length, get_or, take, Option, Some, None, vec_len, ap, sym, ◌∙◌, arith, subst}
use Rattle.std.specs.Prelude.{filter_map, IfSome}
use Rattle.std.proofs.lemmas.List.{append-nil, take_more}
use Rattle.std.proofs.lemmas.List.Elements.{All-push, filter_map-append}
use Rattle.ntuple_text.specs.Spellable.{IsSpellable, IsTable}
use Rattle.ntuple_text.specs.declared.spec.Spec.{Spec}
use Rattle.ntuple_compile.specs.Selected.{AreGiven}
use Rattle.ntuple_compile.proofs.KeyLemmas.{spellable_is_given}
use Rattle.ntuple_compile.proofs.compiling.specs_of.Goals.{in-Some+in_ok-push, in_default}
use Rattle.ntuple_compile.proofs.compiling.specs_of.Goals as goal

listed_more : (slots : List (Option Spec)) (i : ℕ) (found : Option Spec) → i < length slots → get_or slots i None ≡ found → filter_map (λ slot. slot) (take (i + 1) slots) ≡ filter_map (λ slot. slot) (take i slots) ++ filter_map (λ slot. slot) (found ∷ [])
listed_more slots i found inside is =
    ap (filter_map (λ slot. slot)) (take_more slots i None inside) ∙ filter_map-append (λ slot. slot) (take i slots) (get_or slots i None ∷ []) ∙ ap (λ slot. filter_map (λ s. s) (take i slots) ++ filter_map (λ s. s) (slot ∷ [])) is

given_there : (pairs : ℕ) (slots : List (Option Spec)) (i : ℕ) (spec : Spec) → IsTable pairs slots → get_or slots i None ≡ Some spec → AreGiven spec
given_there pairs slots i spec table is =
    let P : Option Spec → Type 0 = λ found. IfSome found (λ s. (s.loc ≡ i) × IsSpellable pairs s) in
    let spelled : P (Some spec) = subst P is (table.spelled i) in
    spellable_is_given spec pairs spelled.1

pub loop-slot-preserved : goal.loop-slot-preserved
loop-slot-preserved c =
    let table = c.args.table.now in
    let i = c.loop-slot.slot-index in
    let kept = c.loop-slot.invariant in
    let slots = c.slots-slot-items.ensures.value in
    let inside = rw slots at c.loop-slot-test.true in
    elim c.match-slot.branch [
      | in-Some+in_ok-push w ↦
          let there = rw slots at w.in-Some.is in
          let spec = w.in-Some.spec in
          let items = ap (λ v. v.items) w.specs-is ∙ w.in_ok-push.ensures.items in
          let P : List Spec → Type 0 = λ specs. All AreGiven specs in
          record {
            value = items ∙ ap (λ front. front ++ spec ∷ []) kept.value ∙ sym (listed_more table.slots i (Some spec) inside there);
            given = subst P (sym items) (All-push AreGiven c.loop-slot.specs.items spec kept.given (given_there table.pairs table.slots i spec c.slots-slot-items.ensures.table there));
            few = omega (arith, kept.few, ap vec_len w.specs-is, w.in_ok-push.ensures.len);
          }
      | in_default w ↦
          let there = rw slots at w.in_default.is in
          let items = ap (λ v. v.items) w.specs-is in
          let P : List Spec → Type 0 = λ specs. All AreGiven specs in
          record {
            value = items ∙ kept.value ∙ sym (listed_more table.slots i None inside there ∙ append-nil (filter_map (λ slot. slot) (take i table.slots)));
            given = subst P (sym items) kept.given;
            few = omega (arith, kept.few, ap vec_len w.specs-is);
          }
    ]
