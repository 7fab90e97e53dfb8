-- A list in which nothing comes twice is no longer than one that has all of it.
use Rattle.std.proofs.Common.{◌≡◌, ◌≢◌, ℕ, suc, ◌+◌, ◌-◌, ◌<◌, ◌≤◌, List, [], ◌∷◌, length, get_or, refl, sym, ap, ◌∙◌, inl, inr, arith, Contains}
use Rattle.std.specs.List.{remove}
use Rattle.std.proofs.lemmas.Bool.{cases_lt}
use Rattle.std.proofs.lemmas.List.{get_or_default}
use Rattle.std.proofs.lemmas.List.Edits.{length-remove, get_or-remove_below, get_or-remove_above}
use Rattle.matcher.specs.Searches.{Differ}

module _ {X : Type 0} where
  -- an element at another place is left
  pub left_over : (xs : List X) (p j : ℕ) (x : X) → p < length xs → j < length xs → j ≢ p → get_or xs j x ≡ x → Contains (remove xs p) x
  left_over xs p j x inside within off at =
      let long = length-remove xs p inside in
      elim (cases_lt j p) [
        | inl lt ↦ (j, omega arith, get_or-remove_below xs p x j lt inside ∙ at)
        | inr ge ↦
            let back : j ≡ (j - 1) + 1 = omega arith in
            (j - 1, omega arith, get_or-remove_above xs p x (j - 1) (omega arith) inside ∙ ap (λ (n : ℕ). get_or xs n x) (sym back) ∙ at)
      ]

  pub no_longer : (xs ys : List X) → Differ xs → ((x : X) → Contains xs x → Contains ys x) → length xs ≤ length ys
  no_longer [] ys differ each = omega arith
  no_longer (x ∷ xs) ys differ each =
      let first = each x (0, omega arith, refl) in
      let p = first.0 in
      let long = length-remove ys p first.1 in
      let rest = no_longer xs (remove ys p) (λ i j d lt within. differ (suc i) (suc j) d (omega arith) (omega arith)) (λ y has.
      let at = each y (suc has.0, omega (arith, has.1), has.2) in
      let off : at.0 ≢ p = (λ same. differ 0 (suc has.0) y (omega arith) (omega (arith, has.1)) (sym first.2 ∙ get_or_default ys p x y first.1 ∙ ap (λ (n : ℕ). get_or ys n y) (sym same) ∙ at.2 ∙ sym has.2)) in
      left_over ys p at.0 y first.1 at.1 off at.2) in
      omega arith
