-- A loop over the places of a list, with a test of each element.
use Rattle.std.proofs.Common.{◌≡◌, ℕ, ◌+◌, ◌<◌, Bool, true, false, List, length, take, get_or, Option, sym, ap, ◌∙◌, arith, inl, inr}
use Rattle.std.specs.Prelude.{slice_get}
use Rattle.std.specs.List.{list_any}
use Rattle.std.specs.Option.{option_map_or}
use Rattle.std.proofs.lemmas.Bool.{or_from}
use Rattle.std.proofs.lemmas.Option.{slice_get_cases}
use Rattle.std.proofs.lemmas.List.Folds.{list_any_more, list_any_at}

module _ {X : Type 0} (p : X → Bool) (es : List X) (i : ℕ) where
  -- whether the element at the place passes
  abbrev passes : Bool
  passes = option_map_or p (slice_get es i) false

  pub any_next : i < length es → list_any p (take i es) ≡ false → passes ≡ false → list_any p (take (i + 1) es) ≡ false
  any_next lt before here = elim (slice_get_cases es i).1 [
    | inl w ↦
        let is = ap (λ (o : Option X). option_map_or p o false) w.2 in
        let fails : p (get_or es i w.0) ≡ false = ap p w.3 ∙ (sym is ∙ here) in
        list_any_more p es i w.0 lt ∙ or_from _ _ before fails
    | inr w ↦ absurd (omega arith)
  ]

  pub any_found : i < length es → passes ≡ true → list_any p es ≡ true
  any_found lt here = elim (slice_get_cases es i).1 [
    | inl w ↦
        let is = ap (λ (o : Option X). option_map_or p o false) w.2 in
        list_any_at p es i w.0 lt (ap p w.3 ∙ (sym is ∙ here))
    | inr w ↦ absurd (omega arith)
  ]
