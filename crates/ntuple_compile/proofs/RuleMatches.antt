-- A rule whose classifier is held matches where its spec fits, and a numbered object is held under its number.
use Rattle.std.proofs.Common.{◌≡◌, ℕ, zero, suc, ◌+◌, ◌<◌, List, [], ◌∷◌, length, get_or, Some, false, refl, ap, ◌∙◌, arith, subst}
use Rattle.std.specs.List.{enumerate_from}
use Rattle.std.specs.Option.{option_map_or}
use Rattle.std.proofs.lemmas.Bool.{eq-eqb, ne_eqb}
use Rattle.ff_headers.specs.Frames.{HeaderBytes}
use Rattle.ff_headers.specs.Matching.{matches}
use Rattle.ff_headers.specs.Objects.{FlowObjects, object_under}
use Rattle.ff_headers.specs.Places.{rule_matches}
use Rattle.ff_headers.proofs.EntryLemmas.{object_under-cons}
use Rattle.ntuple_text.specs.Spellable.{IsSpellable}
use Rattle.ntuple_text.specs.declared.spec.Spec.{Spec}
use Rattle.ntuple_compile.specs.Compiled.{SelectorList, shape_number, spec_rule}
use Rattle.ntuple_compile.specs.Selected.{key_for, selectors_of}
use Rattle.ntuple_compile.specs.SpecFits.{spec_fits}
use Rattle.ntuple_compile.proofs.Bridge.{matches_where_fits}
use Rattle.ntuple_compile.proofs.HeaderLemmas.{AreHeaders}

pub held_matches : (objects : FlowObjects) (headers : HeaderBytes) (size : ℕ) (shapes : List SelectorList) (i : ℕ) (spec : Spec) (pairs : ℕ) → IsSpellable pairs spec → AreHeaders headers → object_under objects.classifiers (shape_number shapes spec) ≡ Some (selectors_of spec) → rule_matches objects headers (spec_rule size shapes i spec) ≡ spec_fits spec headers
unfolding rule_matches
held_matches objects headers size shapes i spec pairs spellable are held =
    ap (λ found. option_map_or (λ selectors. matches selectors (key_for spec) headers) found false) held ∙ matches_where_fits spec pairs headers spellable are

pub numbered_is_held : {X : Type 0} (from : ℕ) (xs : List X) (k : ℕ) (d : X) → k < length xs → object_under (enumerate_from from xs) (from + k) ≡ Some (get_or xs k d)
numbered_is_held from [] k d inside = absurd (omega (arith, inside))
numbered_is_held from (x ∷ xs) zero d inside =
    object_under-cons from x (enumerate_from (from + 1) xs) (from + 0) ∙ rw (eq-eqb (from + 0) from (omega arith)) refl
numbered_is_held from (x ∷ xs) (suc k) d inside =
    let later : from + 1 + k ≡ from + suc k = omega arith in
    let rest = subst (λ id. object_under (enumerate_from (from + 1) xs) id ≡ Some (get_or xs k d)) later (numbered_is_held (from + 1) xs k d (omega (arith, inside))) in
    object_under-cons from x (enumerate_from (from + 1) xs) (from + suc k) ∙ rw (ne_eqb (from + suc k) from (λ e. absurd (omega (arith, e)))) rest
