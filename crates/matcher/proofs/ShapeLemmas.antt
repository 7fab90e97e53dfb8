-- The numbers of shapes: each shape has one, and there are no more than classifiers.
use Rattle.std.proofs.Common.{◌≡◌, ◌≢◌, ℕ, suc, ◌+◌, ◌<◌, ◌≤◌, true, false, eqb, List, [], ◌∷◌, ◌++◌, length, get_or, set, Option, refl, sym, ap, ◌∙◌, inl, inr, arith, Contains, get_or-set_same, get_or-set_other, length-append}
use Rattle.std.specs.List.{list_any}
use Rattle.std.proofs.Math.ListN.{length-set}
use Rattle.std.proofs.lemmas.Bool.{cases_lt}
use Rattle.std.proofs.lemmas.Bool.Decides.{nat_tests}
use Rattle.std.proofs.lemmas.List.{get_or_default, get_or-map, same_lists, get_or_append_left, get_or_push}
use Rattle.std.proofs.lemmas.List.Folds.{list_any_at}
use Rattle.ff_headers.specs.SelectorParts.{SelectorParts}
use Rattle.ff_headers.specs.declared.kind.Kind.{Kind}
use Rattle.matcher.specs.Keys.{Shape, shape_of, kind_and_mask}
use Rattle.matcher.specs.Rows.{Kept, selectors_at, IsNew, AreRows}
use Rattle.matcher.specs.declared.rows.Row.{Row}

-- ---- a shape, selector by selector

pub length-shape : (list : List SelectorParts) → length (shape_of list) ≡ length list
length-shape [] = refl
length-shape (s ∷ ss) = ap suc (length-shape ss)

pub shape_at : (list : List SelectorParts) (i : ℕ) (s : SelectorParts) → i < length list → s ≡ get_or list i s → get_or (shape_of list) i (kind_and_mask s) ≡ (kind_and_mask s)
shape_at list i s within is =
    get_or-map kind_and_mask list i s (kind_and_mask s) within ∙ ap kind_and_mask (sym is)

-- a part of a shape, whatever is given past its end
part_at : (list : List SelectorParts) (i : ℕ) (s : SelectorParts) (d : Kind × List ℕ) → i < length list → s ≡ get_or list i s → get_or (shape_of list) i d ≡ (kind_and_mask s)
part_at list i s d within is =
    let long = length-shape list in
    get_or_default (shape_of list) i d (kind_and_mask s) (omega arith) ∙ shape_at list i s within is

pub same_part_at : (a b : List SelectorParts) (i : ℕ) (s t : SelectorParts) → i < length a → length a ≡ length b → s ≡ get_or a i s → t ≡ get_or b i t → shape_of a ≡ shape_of b → (kind_and_mask s) ≡ (kind_and_mask t)
same_part_at a b i s t within long is it same =
    sym (part_at a i s (kind_and_mask s) within is) ∙ ap (λ (shape : Shape). get_or shape i (kind_and_mask s)) same ∙ part_at b i t (kind_and_mask s) (omega arith) it

pub one_part_more : (a b : List SelectorParts) (i : ℕ) (s t : SelectorParts) → i < length a → length a ≡ length b → s ≡ get_or a i s → t ≡ get_or b i t → (kind_and_mask s) ≡ (kind_and_mask t) → ((k : ℕ) (d : Kind × List ℕ) → k < i → get_or (shape_of a) k d ≡ get_or (shape_of b) k d) → (k : ℕ) (d : Kind × List ℕ) → k < i + 1 → get_or (shape_of a) k d ≡ get_or (shape_of b) k d
one_part_more a b i s t within long is it here below k d lt = elim (cases_lt k i) [
  | inl before ↦ below k d before
  | inr behind ↦
      let same : k ≡ i = omega arith in
      rw same (part_at a i s d within is ∙ here ∙ sym (part_at b i t d (omega arith) it))
]

pub same_shapes : (a b : List SelectorParts) (n : ℕ) → length a ≡ length b → length a ≤ n → ((k : ℕ) (d : Kind × List ℕ) → k < n → get_or (shape_of a) k d ≡ get_or (shape_of b) k d) → shape_of a ≡ shape_of b
same_shapes a b n long all each =
    let la = length-shape a in
    let lb = length-shape b in
    same_lists (shape_of a) (shape_of b) (omega arith) (λ k d within. each k d (omega arith))

pub same_length : (a b : List SelectorParts) → shape_of a ≡ shape_of b → length a ≡ length b
same_length a b same = sym (length-shape a) ∙ ap (λ (shape : Shape). length shape) same ∙ length-shape b

-- ---- a number that is given anew

pub unused : (rows : List Row) (row : Row) (number : ℕ) → list_any (λ (r : Row). eqb r.shape number) rows ≡ false → Contains rows row → row.shape ≢ number
unused rows row number none has same =
    let at = list_any_at (λ (r : Row). eqb r.shape number) rows has.0 row has.1 (ap (λ (r : Row). eqb r.shape number) has.2 ∙ (let t : eqb row.shape number ≡ true = grind (arith, nat_tests) in t)) in
    absurd cc

module _ (kept : ℕ → Option Kept) (shapes : List (List SelectorParts)) (rows : List Row) (was : AreRows kept shapes rows) (selectors : List SelectorParts) (new : IsNew shapes selectors) where
  pub rows_renumbered : (number : ℕ) → number < length shapes → list_any (λ (r : Row). eqb r.shape number) rows ≡ false → AreRows kept (set shapes number selectors) rows
  rows_renumbered number inside none = record {
    apart = λ i j lt within. let long = length-set shapes number selectors in by_place i j lt (omega arith);
    rising = was.rising;
    sound = λ row has.
        let s = was.sound row has in
        let off : row.shape ≢ number = unused rows row number none has in
        let long = length-set shapes number selectors in
        let within = s.2.within in
        (s.0, s.1, record { within = omega arith; shape = ap shape_of (get_or-set_other shapes number row.shape selectors [] off) ∙ s.2.shape; key = s.2.key; candidate = s.2.candidate });
    complete = was.complete;
  } where
    by_place : (i j : ℕ) → i < j → j < length shapes → shape_of (selectors_at (set shapes number selectors) i) ≢ shape_of (selectors_at (set shapes number selectors) j)
    by_place i j lt within = elim (cases_lt i number) [
      | inl a ↦
          let off : i ≢ number = (λ e. omega arith) in
          elim (cases_lt j number) [
            | inl b ↦ let off' : j ≢ number = (λ e. omega arith) in λ e. was.apart i j lt within (sym (ap shape_of (get_or-set_other shapes number i selectors [] off)) ∙ e ∙ ap shape_of (get_or-set_other shapes number j selectors [] off'))
            | inr b ↦ elim (cases_lt number j) [
              | inl c ↦ let off' : j ≢ number = (λ e. omega arith) in λ e. was.apart i j lt within (sym (ap shape_of (get_or-set_other shapes number i selectors [] off)) ∙ e ∙ ap shape_of (get_or-set_other shapes number j selectors [] off'))
              | inr c ↦
                  let same : j ≡ number = omega arith in
                  λ e. new i (omega arith) (sym (ap shape_of (get_or-set_other shapes number i selectors [] off)) ∙ e ∙ ap (λ (n : ℕ). shape_of (selectors_at (set shapes number selectors) n)) same ∙ ap shape_of (get_or-set_same shapes number selectors [] inside))
            ]
          ]
      | inr a ↦
          let off' : j ≢ number = (λ e. omega arith) in
          elim (cases_lt number i) [
            | inl c ↦ let off : i ≢ number = (λ e. omega arith) in λ e. was.apart i j lt within (sym (ap shape_of (get_or-set_other shapes number i selectors [] off)) ∙ e ∙ ap shape_of (get_or-set_other shapes number j selectors [] off'))
            | inr c ↦
                let same : i ≡ number = omega arith in
                λ e. new j within (sym (ap shape_of (get_or-set_other shapes number j selectors [] off')) ∙ sym e ∙ ap (λ (n : ℕ). shape_of (selectors_at (set shapes number selectors) n)) same ∙ ap shape_of (get_or-set_same shapes number selectors [] inside))
          ]
    ]

  -- ---- one number more

  at_front : (i : ℕ) → i < length shapes → selectors_at (shapes ++ selectors ∷ []) i ≡ selectors_at shapes i
  at_front i within = get_or_append_left shapes (selectors ∷ []) [] i within

  pub at_end : selectors_at (shapes ++ selectors ∷ []) (length shapes) ≡ selectors
  at_end = get_or_push shapes selectors [] (length shapes) refl

  pub rows_numbered : AreRows kept (shapes ++ selectors ∷ []) rows
  rows_numbered = record {
    apart = λ i j lt within.
        let long = length-append shapes (selectors ∷ []) in
        elim (cases_lt j (length shapes)) [
          | inl b ↦ λ e. was.apart i j lt b (sym (ap shape_of (at_front i (omega arith))) ∙ e ∙ ap shape_of (at_front j b))
          | inr b ↦
              let same : j ≡ length shapes = omega arith in
              λ e. new i (omega arith) (sym (ap shape_of (at_front i (omega arith))) ∙ e ∙ ap (λ (n : ℕ). shape_of (selectors_at (shapes ++ selectors ∷ []) n)) same ∙ ap shape_of at_end)
        ];
    rising = was.rising;
    sound = λ row has.
        let s = was.sound row has in
        let long = length-append shapes (selectors ∷ []) in
        let within = s.2.within in
        (s.0, s.1, record { within = omega arith; shape = ap shape_of (at_front row.shape within) ∙ s.2.shape; key = s.2.key; candidate = s.2.candidate });
    complete = was.complete;
  }
