-- There are no more rows than rules, and no more used shapes than classifiers.
use Rattle.std.proofs.Common.{◌≡◌, ◌≢◌, ℕ, zero, suc, ◌+◌, ◌<◌, ◌≤◌, Bool, true, false, ◌||◌, eqb, ltb, List, [], ◌∷◌, length, get_or, map, Option, Some, None, refl, sym, ap, ◌∙◌, subst, cond, arith, Contains}
use Rattle.std.specs.List.{list_any}
use Rattle.std.specs.Prelude.{IsSome, is_some}
use Rattle.std.specs.Map.{keys_of}
use Rattle.std.proofs.lemmas.Bool.Decides.{nat_tests}
use Rattle.std.proofs.lemmas.List.{get_or-map, get_or_default, length-map}
use Rattle.std.proofs.lemmas.List.Folds.{Any-from_list_any}
use Rattle.std.proofs.lemmas.Map.Entries.{length-keys_of}
use Rattle.ff_headers.specs.SelectorParts.{SelectorParts}
use Rattle.ff_headers.specs.Objects.{object_under, IsById}
use Rattle.ff_headers.specs.Changes.{put, has_room}
use Rattle.ff_headers.proofs.EntryLemmas.{entry_from_held, object_under-put, length-put_le, length-put_held}
use Rattle.matcher.specs.Keys.{Shape, shape_of}
use Rattle.matcher.specs.Rows.{Kept, id_of, selectors_at, IsNew, AreUsed, AreRows}
use Rattle.matcher.specs.Searches.{Differ}
use Rattle.matcher.specs.declared.rows.Row.{Row}
use Rattle.matcher.proofs.RowLemmas.{ids_apart}
use Rattle.matcher.proofs.Pigeonhole.{no_longer}

-- the element at a place
pub element : {X : Type 0} (xs : List X) (i : ℕ) → i < length xs → (x : X) × (get_or xs i x ≡ x)
element [] i lt = absurd (omega arith)
element (x ∷ xs) zero lt = (x, refl)
element (x ∷ xs) (suc i) lt = element xs i (omega arith)

-- one more of a list in which nothing comes twice
pub differ_more : {X : Type 0} (x : X) (xs : List X) → ((y : X) → Contains xs y → x ≢ y) → Differ xs → Differ (x ∷ xs)
differ_more x xs apart differ i zero d lt within = absurd (omega arith)
differ_more x xs apart differ zero (suc j) d lt within = apart (get_or xs j d) (j, omega arith, get_or_default xs j (get_or xs j d) d (omega arith))
differ_more x xs apart differ (suc i) (suc j) d lt within = differ i j d (omega arith) (omega arith)

pub each_more : {X : Type 0} (x : X) (xs ys : List X) → Contains ys x → ((y : X) → Contains xs y → Contains ys y) → (y : X) → Contains (x ∷ xs) y → Contains ys y
each_more {X} x xs ys here rest y has = by has.0 has.1 has.2 where
  by : (k : ℕ) → k < suc (length xs) → get_or (x ∷ xs) k y ≡ y → Contains ys y
  by zero lt at = let same : x ≡ y = at in let P : X → Type 0 = λ z. Contains ys z in subst P same here
  by (suc k) lt at = rest y (k, omega arith, at)

pub number_is : (m n : ℕ) → eqb m n ≡ true → m ≡ n
number_is m n h = grind (arith, nat_tests)

some_none : (o : Option Kept) (one : Kept) → o ≡ None → o ≡ Some one → ⊥
some_none o one h k = cc

module _ (kept : ℕ → Option Kept) (shapes : List (List SelectorParts)) (rows : List Row) (was : AreRows kept shapes rows) where
  id_at : (i d : ℕ) (row : Row) → i < length rows → get_or rows i row ≡ row → get_or (map id_of rows) i d ≡ id_of row
  id_at i d row within at = get_or-map id_of rows i row d within ∙ ap id_of at

  ids_differ : Differ (map id_of rows)
  ids_differ i j d lt within =
      let long = length-map rows id_of in
      let a = element rows i (omega arith) in
      let b = element rows j (omega arith) in
      λ same.
      let e : id_of (get_or rows i a.0) ≡ id_of (get_or rows j a.0) = ap id_of a.1 ∙ sym (id_at i d a.0 (omega arith) a.1) ∙ same ∙ id_at j d b.0 (omega arith) b.1 ∙ sym (ap id_of (get_or_default rows j a.0 b.0 (omega arith) ∙ b.1)) in
      let equal = ids_apart kept shapes rows was i j a.0 (omega arith) (omega arith) e in
      absurd (omega arith)

  -- the row of an id among those of the rows
  row_of_id : (id : ℕ) → Contains (map id_of rows) id → (row : Row) × Contains rows row × (id_of row ≡ id)
  row_of_id id has =
      let long = length-map rows id_of in
      let within : has.0 < length rows = omega (arith, has.1) in
      let a = element rows has.0 within in
      (a.0, (has.0, within, a.1), sym (id_at has.0 id a.0 within a.1) ∙ has.2)

  -- there is room for a row more
  pub rows_room : (id : ℕ) (ids : List ℕ) → kept id ≡ None → ((q : ℕ) (one : Kept) → kept q ≡ Some one → Contains ids q) → Contains ids id → length rows + 1 ≤ length ids
  rows_room id ids free all here =
      let long = length-map rows id_of in
      let most = no_longer (id ∷ map id_of rows) ids (differ_more id (map id_of rows) (λ q has same. let r = row_of_id q has in let s = was.sound r.0 r.1 in some_none (kept id) s.0 free (ap kept (same ∙ sym r.2) ∙ s.1)) ids_differ) (each_more id (map id_of rows) ids here (λ q has. let r = row_of_id q has in let s = was.sound r.0 r.1 in all q s.0 (ap kept (sym r.2) ∙ s.1))) in
      omega arith

  -- the rows are no more than the ids
  pub rows_within : (ids : List ℕ) → ((q : ℕ) (one : Kept) → kept q ≡ Some one → Contains ids q) → length rows ≤ length ids
  rows_within ids all =
      let long = length-map rows id_of in
      let most = no_longer (map id_of rows) ids ids_differ (λ q has. let r = row_of_id q has in let s = was.sound r.0 r.1 in all q s.0 (ap kept (sym r.2) ∙ s.1)) in
      omega arith

  -- ---- shapes

  shape_at : (i : ℕ) (d : Shape) → i < length shapes → get_or (map shape_of shapes) i d ≡ shape_of (selectors_at shapes i)
  shape_at i d within = get_or-map shape_of shapes i [] d within

  shapes_differ : Differ (map shape_of shapes)
  shapes_differ i j d lt within =
      let long = length-map shapes shape_of in
      λ same. was.apart i j lt (omega arith) (sym (shape_at i d (omega arith)) ∙ same ∙ shape_at j d (omega arith))

  -- a shape that some row has
  pub used_shape : (i : ℕ) → i < length shapes → list_any (λ (row : Row). eqb row.shape i) rows ≡ true → (id : ℕ) × (one : Kept) × (kept id ≡ Some one) × (shape_of (selectors_at shapes i) ≡ one.shape)
  used_shape i within used =
      let any = Any-from_list_any (λ (row : Row). eqb row.shape i) rows used in
      let s = was.sound any.1 (any.0, any.2, any.3) in
      let same : any.1.shape ≡ i = number_is any.1.shape i any.4 in
      (id_of any.1, s.0, s.1, ap (λ (n : ℕ). shape_of (selectors_at shapes n)) (sym same) ∙ s.2.shape)

  -- there is room for a shape more
  pub shapes_room : (selectors : List SelectorParts) (held : List Shape) → IsNew shapes selectors → AreUsed shapes rows → ((q : ℕ) (one : Kept) → kept q ≡ Some one → Contains held one.shape) → Contains held (shape_of selectors) → length shapes + 1 ≤ length held
  shapes_room selectors held new used all here =
      let long = length-map shapes shape_of in
      let most = no_longer (shape_of selectors ∷ map shape_of shapes) held (differ_more (shape_of selectors) (map shape_of shapes) (λ shape has same. new has.0 (omega (arith, has.1)) (sym (shape_at has.0 shape (omega (arith, has.1))) ∙ has.2 ∙ sym same)) shapes_differ) (each_more (shape_of selectors) (map shape_of shapes) held here (λ shape has.
      let within : has.0 < length shapes = omega (arith, has.1) in
      let u = used_shape has.0 within (used has.0 within) in
      let same : u.1.shape ≡ shape = sym u.3 ∙ sym (shape_at has.0 shape within) ∙ has.2 in
      subst (λ (x : Shape). Contains held x) same (all u.0 u.1 u.2))) in
      omega arith

-- ---- a rule more

pub key_held : {X : Type 0} (es : List (ℕ × X)) (id : ℕ) → IsSome (object_under es id) → Contains (keys_of es) id
key_held {X} es id some = by (object_under es id) refl some where
  by : (o : Option X) → object_under es id ≡ o → IsSome o → Contains (keys_of es) id
  by None is h = absurd cc
  by (Some x) is h =
      let has = entry_from_held es id x is in
      let long = length-keys_of es in
      (has.0, omega (arith, has.1), get_or-map (λ (e : ℕ × X). e.0) es has.0 (id, x) id has.1 ∙ ap (λ (e : ℕ × X). e.0) has.2)

module _ {X : Type 0} (es : List (ℕ × X)) (id : ℕ) (x : X) where
  pub held_once_put : (q : ℕ) → IsSome (object_under es q) → IsSome (object_under (put es id x) q)
  held_once_put q h = by_test (eqb q id) (object_under-put es id x q) where
    by_test : (b : Bool) → object_under (put es id x) q ≡ cond b (Some x) (object_under es q) → IsSome (object_under (put es id x) q)
    by_test true e = ap is_some e
    by_test false e = ap is_some e ∙ h

  pub held_that_is_put : IsSome (object_under (put es id x) id)
  held_that_is_put = let t : eqb id id ≡ true = grind (arith, nat_tests) in ap is_some (object_under-put es id x id ∙ ap (λ b. cond b (Some x) (object_under es id)) t)

  pub put_fits : (limit : ℕ) → IsById es → has_room es id limit ≡ true → length es ≤ limit → length (put es id x) ≤ limit
  put_fits limit sorted room fit = by_test (is_some (object_under es id)) refl room where
    by_test : (b : Bool) → is_some (object_under es id) ≡ b → (b || ltb (length es) limit) ≡ true → length (put es id x) ≤ limit
    by_test true has r = let same = length-put_held es id x sorted has in omega arith
    by_test false has r =
        let below : length es < limit = grind (arith, nat_tests) in
        let most = length-put_le es id x in
        omega arith
