-- An entry whose id is above all others stands behind them once it is put.
use Rattle.std.proofs.Common.{◌≡◌, ℕ, ◌+◌, ◌<◌, List, [], ◌∷◌, ◌++◌, None, refl, ap, ◌∙◌, arith}
use Rattle.std.specs.List.{AllByRecursion}
use Rattle.std.proofs.lemmas.Bool.{le-ltb, ne_eqb}
use Rattle.ff_headers.specs.Changes.{put}
use Rattle.ff_headers.specs.Objects.{object_under}
use Rattle.ff_headers.proofs.EntryLemmas.{object_under-cons, put-cons}

-- each id is below a number
abbrev pub AreBelow : {X : Type 0} → ℕ → List (ℕ × X) → Type 0
AreBelow id es = AllByRecursion (λ e. e.0 < id) es

module _ {X : Type 0} where
  pub put_last : (es : List (ℕ × X)) (id : ℕ) (x : X) → AreBelow id es → put es id x ≡ es ++ (id, x) ∷ []
  put_last [] id x below = refl
  put_last (e ∷ es) id x below =
      put-cons e.0 e.1 es id x ∙ rw (le-ltb id e.0 (omega (arith, below.0)), ne_eqb id e.0 (λ same. absurd (omega (arith, below.0, same)))) (ap (λ (l : List (ℕ × X)). e ∷ l) (put_last es id x below.1))

  pub not_held : (es : List (ℕ × X)) (id : ℕ) → AreBelow id es → object_under es id ≡ None
  not_held [] id below = refl
  not_held (e ∷ es) id below =
      object_under-cons e.0 e.1 es id ∙ rw (ne_eqb id e.0 (λ same. absurd (omega (arith, below.0, same)))) (not_held es id below.1)

  pub below_next : (es : List (ℕ × X)) (id : ℕ) (x : X) → AreBelow id es → AreBelow (id + 1) (es ++ (id, x) ∷ [])
  below_next [] id x below = (omega arith, tt)
  below_next (e ∷ es) id x below = (omega (arith, below.0), below_next es id x below.1)
