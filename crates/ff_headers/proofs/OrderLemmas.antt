-- The order by a first part and then a second is total where both parts' orders are.
use Rattle.std.proofs.Common.{◌≡◌, refl, sym, ap, ◌∙◌, ◌⊎◌, inl, inr, Ordering}
use Rattle.std.specs.Ordering.{ordering_then, ordering_reverse}
use Rattle.std.specs.declared.cmp.Ordering.TheVariants.{Less, Equal, Greater}
use Rattle.std.specs.Cmp.{IsTotalOrder}

reverse-then : (a b : Ordering) → ordering_then (ordering_reverse a) (ordering_reverse b) ≡ ordering_reverse (ordering_then a b)
reverse-then Less b = refl
reverse-then Equal b = refl
reverse-then Greater b = refl

less_cases : (a b : Ordering) → ordering_then a b ≡ Less → (a ≡ Less) ⊎ ((a ≡ Equal) × (b ≡ Less))
less_cases Less b h = inl refl
less_cases Equal b h = inr (refl, h)
less_cases Greater b h = absurd cc

both_equal : (a b : Ordering) → ordering_then a b ≡ Equal → (a ≡ Equal) × (b ≡ Equal)
both_equal Less b h = absurd cc
both_equal Equal b h = (refl, h)
both_equal Greater b h = absurd cc

then-less : (a b : Ordering) → a ≡ Less → ordering_then a b ≡ Less
then-less a b h = rw h refl

then-equal : (a b : Ordering) → a ≡ Equal → b ≡ Less → ordering_then a b ≡ Less
then-equal a b h k = rw h k

module _ {A : Type 0} {P : A → A → Ordering} (o : IsTotalOrder P) where
  -- an equal value on the right compares alike
  congr_right : (x y z : A) → P y z ≡ Equal → P x z ≡ P x y
  congr_right x y z h =
      let back : P z y ≡ Equal = o.antisymm z y ∙ ap ordering_reverse h in
      o.antisymm x z ∙ ap ordering_reverse (o.congr z y x back) ∙ sym (o.antisymm x y)

module _ {X A B : Type 0} (f : X → A) (g : X → B) {P : A → A → Ordering} {Q : B → B → Ordering} (o : IsTotalOrder P) (p : IsTotalOrder Q) where
  two : X → X → Ordering
  two x y = ordering_then (P (f x) (f y)) (Q (g x) (g y))

  antisymm : (x y : X) → two x y ≡ ordering_reverse (two y x)
  unfolding two
  antisymm x y =
      rw (o.antisymm (f x) (f y), p.antisymm (g x) (g y)) (reverse-then (P (f y) (f x)) (Q (g y) (g x)))

  trans : (x y z : X) → two x y ≡ Less → two y z ≡ Less → two x z ≡ Less
  unfolding two
  trans x y z h k =
      elim (less_cases (P (f x) (f y)) (Q (g x) (g y)) h) [
        | inl lt ↦ elim (less_cases (P (f y) (f z)) (Q (g y) (g z)) k) [
          | inl lt' ↦ then-less _ _ (o.trans (f x) (f y) (f z) lt lt')
          | inr e' ↦ then-less _ _ (congr_right o (f x) (f y) (f z) e'.0 ∙ lt)
        ]
        | inr e ↦ elim (less_cases (P (f y) (f z)) (Q (g y) (g z)) k) [
          | inl lt' ↦ then-less _ _ (o.congr (f x) (f y) (f z) e.0 ∙ lt')
          | inr e' ↦ then-equal _ _ (o.congr (f x) (f y) (f z) e.0 ∙ e'.0) (p.trans (g x) (g y) (g z) e.1 e'.1)
        ]
      ]

  congr : (x y z : X) → two x y ≡ Equal → two x z ≡ two y z
  unfolding two
  congr x y z h =
      let e = both_equal (P (f x) (f y)) (Q (g x) (g y)) h in
      rw (o.congr (f x) (f y) (f z) e.0, p.congr (g x) (g y) (g z) e.1) refl

  pub then_total : IsTotalOrder (λ (x y : X). ordering_then (P (f x) (f y)) (Q (g x) (g y)))
  unfolding two
  then_total = record { antisymm = antisymm; trans = trans; congr = congr }
