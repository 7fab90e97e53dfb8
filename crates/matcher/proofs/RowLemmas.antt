-- Rows stay all that is kept when one is put or dropped.
use Rattle.std.proofs.Common.{◌≡◌, ◌≢◌, ℕ, ◌+◌, ◌-◌, ◌<◌, ◌≤◌, Bool, true, false, cond, eqb, List, length, get_or, Option, Some, None, Ordering, refl, sym, ap, ◌∙◌, ◌⊎◌, inl, inr, arith, Contains}
use Rattle.std.proofs.lemmas.Bool.{cases_lt}
use Rattle.std.specs.List.{insert, remove}
use Rattle.std.specs.Option.{option_map}
use Rattle.std.specs.List.Sorted.{IsPartitionedBy, IsPartitionPoint}
use Rattle.std.specs.Ordering.{nat_cmp, ordering_then, ordering_reverse, is_lt}
use Rattle.std.specs.declared.cmp.Ordering.TheVariants.{Less, Equal, Greater}
use Rattle.std.specs.Cmp.{IsTotalOrder, nat_cmp_total, tied_itself}
use Rattle.std.specs.Cmp.Lexicographic.{slice_cmp}
use Rattle.std.proofs.lemmas.Cmp.{nat_list_cmp_total}
use Rattle.std.proofs.lemmas.Bool.Decides.{nat_tests}
use Rattle.std.proofs.lemmas.List.{get_or_default, length-set, get_or-set_same, get_or-set_other}
use Rattle.std.proofs.Math.ListN.{set}
use Rattle.std.proofs.lemmas.List.Edits.{length-insert, length-remove, get_or-insert_below, get_or-insert_at, get_or-insert_above, get_or-remove_below, get_or-remove_above}
use Rattle.ff_headers.specs.SelectorParts.{SelectorParts}
use Rattle.ff_headers.specs.Places.{place_cmp}
use Rattle.ff_headers.proofs.OrderLemmas.{then_total}
use Rattle.ff_headers.proofs.PlaceLemmas.{place_total}
use Rattle.matcher.specs.Keys.{shape_of}
use Rattle.matcher.specs.Rows.{Kept, with_kept, id_of, row_cmp, cmp_in_shape, stands_before, selectors_at, IsRow, AreRising, AreRows}
use Rattle.matcher.specs.declared.rows.Row.{Row}
use Rattle.matcher.proofs.Pigeonhole.{left_over}

pub row_total : IsTotalOrder row_cmp
row_total = then_total (λ (r : Row). r.shape) (λ (r : Row). r) nat_cmp_total (then_total (λ (r : Row). r.key.items) (λ (r : Row). r.candidate.place) nat_list_cmp_total place_total)

-- what an optional object with a function applied comes from
pub option_parts : {A B : Type 0} (f : A → B) (o : Option A) (b : B) → option_map f o ≡ Some b → (a : A) × (o ≡ Some a) × (f a ≡ b)
option_parts f None b is = absurd cc
option_parts f (Some a) b is = (a, refl, cc)

-- what an order that is or isn't `Less` says
pub less_from_test : (o : Ordering) → is_lt o ≡ true → o ≡ Less
less_from_test Less h = refl
less_from_test Equal h = absurd cc
less_from_test Greater h = absurd cc

by_order : (o p : Ordering) → p ≡ ordering_reverse o → is_lt o ≡ false → (o ≡ Equal → ⊥) → p ≡ Less
by_order Less p turned h off = absurd cc
by_order Equal p turned h off = absurd (off refl)
by_order Greater p turned h off = turned

level_parts : (o p : Ordering) → ordering_then o p ≡ Equal → p ≡ Equal
level_parts Less p h = absurd cc
level_parts Equal p h = h
level_parts Greater p h = absurd cc

same_from_level : (m n : ℕ) → nat_cmp m n ≡ Equal → m ≡ n
same_from_level m n h = grind (arith, nat_tests)

ids_level : (a b : Row) → row_cmp a b ≡ Equal → id_of a ≡ id_of b
ids_level a b h =
    let by_key : cmp_in_shape a b ≡ Equal = level_parts (nat_cmp a.shape b.shape) (cmp_in_shape a b) h in
    let by_place : place_cmp a.candidate.place b.candidate.place ≡ Equal = level_parts (slice_cmp nat_cmp a.key.items b.key.items) _ by_key in
    let by_rule = level_parts (nat_cmp a.candidate.place.0 b.candidate.place.0) (ordering_then (nat_cmp a.candidate.place.1 b.candidate.place.1) (nat_cmp a.candidate.place.2 b.candidate.place.2)) by_place in
    let by_id : nat_cmp a.candidate.place.2 b.candidate.place.2 ≡ Equal = level_parts (nat_cmp a.candidate.place.1 b.candidate.place.1) (nat_cmp a.candidate.place.2 b.candidate.place.2) by_rule in
    same_from_level a.candidate.place.2 b.candidate.place.2 by_id

-- ---- other words for what is kept

module _ (kept other : ℕ → Option Kept) (shapes : List (List SelectorParts)) (rows : List Row) where
  pub same_kept : ((id : ℕ) → kept id ≡ other id) → AreRows kept shapes rows → AreRows other shapes rows
  same_kept same was = record {
    apart = was.apart;
    rising = was.rising;
    sound = λ row has. let s = was.sound row has in (s.0, sym (same (id_of row)) ∙ s.1, s.2);
    complete = λ id one is. was.complete id one (same id ∙ is);
  }

-- ---- two rows

-- the order looks at the number, the key and the candidate alone
same_cmp : (a b : Row) → a.shape ≡ b.shape → a.key.items ≡ b.key.items → a.candidate ≡ b.candidate → row_cmp a b ≡ Equal
same_cmp a b s k c = rw (s, k, c) (tied_itself row_total b)

less_apart : (o : Ordering) → o ≡ Less → o ≡ Equal → ⊥
less_apart o h k = cc

pub some_same : {X : Type 0} (o : Option X) (a b : X) → o ≡ Some a → o ≡ Some b → a ≡ b
some_same o a b h k = cc

module _ (kept : ℕ → Option Kept) (shapes : List (List SelectorParts)) (rows : List Row) (was : AreRows kept shapes rows) where
  same_number : (i j : ℕ) → i < length shapes → j < length shapes → shape_of (selectors_at shapes i) ≡ shape_of (selectors_at shapes j) → i ≡ j
  same_number i j a b h = elim (cases_lt i j) [
    | inl lt ↦ absurd (was.apart i j lt b h)
    | inr ge ↦ elim (cases_lt j i) [
      | inl lt ↦ absurd (was.apart j i lt a (sym h))
      | inr le ↦ omega arith
    ]
  ]

  same_id_equal : (a b : Row) → Contains rows a → Contains rows b → id_of a ≡ id_of b → row_cmp a b ≡ Equal
  same_id_equal a b has has' same =
      let s = was.sound a has in
      let t = was.sound b has' in
      let one : s.0 ≡ t.0 = some_same (kept (id_of b)) s.0 t.0 (ap kept (sym same) ∙ s.1) t.1 in
      same_cmp a b (same_number a.shape b.shape s.2.within t.2.within (s.2.shape ∙ ap (λ (k : Kept). k.shape) one ∙ sym t.2.shape)) (s.2.key ∙ ap (λ (k : Kept). k.key) one ∙ sym t.2.key) (s.2.candidate ∙ ap (λ (k : Kept). k.candidate) one ∙ sym t.2.candidate)

  has_at : (i : ℕ) (d : Row) → i < length rows → Contains rows (get_or rows i d)
  has_at i d within = (i, within, get_or_default rows i _ _ within)

  -- no two rows are of one rule
  pub ids_apart : (i j : ℕ) (d : Row) → i < length rows → j < length rows → id_of (get_or rows i d) ≡ id_of (get_or rows j d) → i ≡ j
  ids_apart i j d a b same = elim (cases_lt i j) [
    | inl lt ↦ absurd (less_apart _ (was.rising i j d lt b) (same_id_equal _ _ (has_at i d a) (has_at j d b) same))
    | inr ge ↦ elim (cases_lt j i) [
      | inl lt ↦ absurd (less_apart _ (was.rising j i d lt a) (same_id_equal _ _ (has_at j d b) (has_at i d a) (sym same)))
      | inr le ↦ omega arith
    ]
  ]

  -- ---- a row is dropped

  module _ (p : ℕ) (d : Row) (inside : p < length rows) where
    -- where a row stands that is left
    from_removed : (k : ℕ) → k < length (remove rows p) → (j : ℕ) × (j < length rows) × (j ≢ p) × (get_or (remove rows p) k d ≡ get_or rows j d)
    from_removed k within =
        let long = length-remove rows p inside in
        elim (cases_lt k p) [
          | inl lt ↦ (k, omega arith, (λ e. omega arith), get_or-remove_below rows p d k lt inside)
          | inr ge ↦ (k + 1, omega arith, (λ e. omega arith), get_or-remove_above rows p d k ge inside)
        ]

    rising_removed : AreRising (remove rows p)
    rising_removed i j e lt within =
        let long = length-remove rows p inside in
        elim (cases_lt i p) [
          | inl a ↦ elim (cases_lt j p) [
            | inl b ↦ rw (get_or-remove_below rows p e i a inside, get_or-remove_below rows p e j b inside) (was.rising i j e lt (omega arith))
            | inr b ↦ rw (get_or-remove_below rows p e i a inside, get_or-remove_above rows p e j b inside) (was.rising i (j + 1) e (omega arith) (omega arith))
          ]
          | inr a ↦
              let b : p ≤ j = omega arith in
              rw (get_or-remove_above rows p e i a inside, get_or-remove_above rows p e j b inside) (was.rising (i + 1) (j + 1) e (omega arith) (omega arith))
        ]

    kept_elsewhere : (id q : ℕ) (one : Option Kept) → q ≢ id → with_kept kept id one q ≡ kept q
    kept_elsewhere id q one off = let t : eqb q id ≡ false = grind (arith, nat_tests) in rw t refl

    pub rows_dropped : (id : ℕ) → id_of (get_or rows p d) ≡ id → AreRows (with_kept kept id None) shapes (remove rows p)
    rows_dropped id at = record {
      apart = was.apart;
      rising = rising_removed;
      sound = λ row has.
          let from = from_removed has.0 has.1 in
          let here : get_or rows from.0 d ≡ row = sym from.3 ∙ get_or_default (remove rows p) has.0 d row has.1 ∙ has.2 in
          let off : id_of row ≢ id = (λ e. from.2 (ids_apart from.0 p d from.1 inside (ap id_of here ∙ e ∙ sym at))) in
          let s = was.sound row (from.0, from.1, get_or_default rows from.0 row d from.1 ∙ here) in
          (s.0, kept_elsewhere id (id_of row) None off ∙ s.1, s.2);
      complete = λ q one is. by_test q one (eqb q id) refl is;
    } where
      by_test : (q : ℕ) (one : Kept) (b : Bool) → eqb q id ≡ b → cond b None (kept q) ≡ Some one → (row : Row) × Contains (remove rows p) row × (id_of row ≡ q)
      by_test q one true e is = absurd cc
      by_test q one false e is =
          let c = was.complete q one is in
          let off : c.1.0 ≢ p = (λ h. absurd (let same : q ≡ id = sym c.2 ∙ ap id_of (sym c.1.2 ∙ get_or_default rows c.1.0 c.0 d c.1.1 ∙ ap (λ (n : ℕ). get_or rows n d) h) ∙ at in grind (arith, nat_tests))) in
          (c.0, left_over rows p c.1.0 c.0 inside c.1.1 off c.1.2, c.2)

    by_place : (k : ℕ) → (k ≡ p) ⊎ (k ≢ p)
    by_place k = elim (cases_lt k p) [
      | inl lt ↦ inr (λ e. omega arith)
      | inr ge ↦ elim (cases_lt p k) [
        | inl lt ↦ inr (λ e. omega arith)
        | inr le ↦ inl (omega arith)
      ]
    ]

    -- ---- a row takes another's place

    module _ (row : Row) (before : (i : ℕ) (e : Row) → i < p → row_cmp (get_or rows i e) row ≡ Less) (behind : (j : ℕ) (e : Row) → p < j → j < length rows → row_cmp row (get_or rows j e) ≡ Less) where
      rising_replaced : AreRising (set rows p row)
      rising_replaced i j e lt within =
          let long = length-set rows p row in
          elim (cases_lt i p) [
            | inl a ↦
                let off : i ≢ p = (λ h. omega arith) in
                elim (by_place j) [
                  | inl same ↦ rw (get_or-set_other rows p i row e off, ap (λ (n : ℕ). get_or (set rows p row) n e) same ∙ get_or-set_same rows p row e inside) (before i e a)
                  | inr off' ↦ rw (get_or-set_other rows p i row e off, get_or-set_other rows p j row e off') (was.rising i j e lt (omega arith))
                ]
            | inr a ↦
                let off' : j ≢ p = (λ h. omega arith) in
                elim (by_place i) [
                  | inl same ↦ rw (ap (λ (n : ℕ). get_or (set rows p row) n e) same ∙ get_or-set_same rows p row e inside, get_or-set_other rows p j row e off') (behind j e (omega arith) (omega arith))
                  | inr off ↦ rw (get_or-set_other rows p i row e off, get_or-set_other rows p j row e off') (was.rising i j e lt (omega arith))
                ]
          ]

      from_replaced : (other : Row) → Contains (set rows p row) other → (other ≡ row) ⊎ ((j : ℕ) × (j < length rows) × (j ≢ p) × (get_or rows j other ≡ other))
      from_replaced other has =
          let long = length-set rows p row in
          elim (by_place has.0) [
            | inl same ↦ inl (sym has.2 ∙ ap (λ (n : ℕ). get_or (set rows p row) n other) same ∙ get_or-set_same rows p row other inside)
            | inr off ↦ inr (has.0, omega (arith, has.1), off, sym (get_or-set_other rows p has.0 row other off) ∙ has.2)
          ]

      pub rows_replaced : (id : ℕ) (one : Kept) → id_of (get_or rows p d) ≡ id → id_of row ≡ id → IsRow shapes row one → AreRows (with_kept kept id (Some one)) shapes (set rows p row)
      rows_replaced id one at is_id is_row = record {
        apart = was.apart;
        rising = rising_replaced;
        sound = λ other has. elim (from_replaced other has) [
          | inl same ↦ let t : eqb (id_of other) id ≡ true = (let e : id_of other ≡ id = ap id_of same ∙ is_id in grind (arith, nat_tests)) in (one, rw t refl, rw same is_row)
          | inr from ↦
              let here : get_or rows from.0 d ≡ other = get_or_default rows from.0 d other from.1 ∙ from.3 in
              let off : id_of other ≢ id = (λ e. from.2 (ids_apart from.0 p d from.1 inside (ap id_of here ∙ e ∙ sym at))) in
              let s = was.sound other (from.0, from.1, from.3) in
              (s.0, kept_elsewhere id (id_of other) (Some one) off ∙ s.1, s.2)
        ];
        complete = λ q two is. by_test q two (eqb q id) refl is;
      } where
        by_test : (q : ℕ) (two : Kept) (b : Bool) → eqb q id ≡ b → cond b (Some one) (kept q) ≡ Some two → (other : Row) × Contains (set rows p row) other × (id_of other ≡ q)
        by_test q two true e is =
            let same : q ≡ id = grind (arith, nat_tests) in
            let long = length-set rows p row in
            (row, (p, omega arith, get_or-set_same rows p row row inside), is_id ∙ sym same)
        by_test q two false e is =
            let c = was.complete q two is in
            let long = length-set rows p row in
            let off : c.1.0 ≢ p = (λ h. absurd (let same : q ≡ id = sym c.2 ∙ ap id_of (sym c.1.2 ∙ get_or_default rows c.1.0 c.0 d c.1.1 ∙ ap (λ (n : ℕ). get_or rows n d) h) ∙ at in grind (arith, nat_tests))) in
            (c.0, (c.1.0, omega (arith, c.1.1), get_or-set_other rows p c.1.0 row c.0 off ∙ c.1.2), c.2)

    -- a row that stands between those beside a place stands between all before and all behind
    pub before_all : (row : Row) → ((e : Row) → 0 < p → stands_before (get_or rows (p - 1) e) row ≡ true) → (i : ℕ) (e : Row) → i < p → row_cmp (get_or rows i e) row ≡ Less
    unfolding stands_before
    before_all row beside i e lt =
        let next = less_from_test _ (beside e (omega arith)) in
        elim (cases_lt i (p - 1)) [
          | inl a ↦ row_total.trans (get_or rows i e) (get_or rows (p - 1) e) row (was.rising i (p - 1) e a (omega arith)) next
          | inr a ↦ let same : i ≡ p - 1 = omega arith in ap (λ (n : ℕ). row_cmp (get_or rows n e) row) same ∙ next
        ]

    pub behind_all : (row : Row) → ((e : Row) → p + 1 < length rows → stands_before row (get_or rows (p + 1) e) ≡ true) → (j : ℕ) (e : Row) → p < j → j < length rows → row_cmp row (get_or rows j e) ≡ Less
    unfolding stands_before
    behind_all row beside j e lt within =
        let next = less_from_test _ (beside e (omega arith)) in
        elim (cases_lt (p + 1) j) [
          | inl a ↦ row_total.trans row (get_or rows (p + 1) e) (get_or rows j e) next (was.rising (p + 1) j e a within)
          | inr a ↦ let same : j ≡ p + 1 = omega arith in ap (λ (n : ℕ). row_cmp row (get_or rows n e)) same ∙ next
        ]

  -- no row is of a rule that is dropped
  pub rows_without : (id : ℕ) → ((row : Row) → Contains rows row → id_of row ≢ id) → AreRows (with_kept kept id None) shapes rows
  rows_without id none = same_kept kept (with_kept kept id None) shapes rows (λ q. by_test q (eqb q id) refl (kept q) refl) was where
    by_test : (q : ℕ) (b : Bool) → eqb q id ≡ b → (o : Option Kept) → kept q ≡ o → kept q ≡ cond b None (kept q)
    by_test q false e o is = refl
    by_test q true e None is = is
    by_test q true e (Some one) is =
        let c = was.complete q one is in
        let same : q ≡ id = grind (arith, nat_tests) in
        absurd (none c.0 c.1 (c.2 ∙ same))

  -- ---- a row is put

  module _ (p : ℕ) (row : Row) (inside : p ≤ length rows) where
    rising_inserted : ((i : ℕ) (d : Row) → i < p → row_cmp (get_or rows i d) row ≡ Less) → ((j : ℕ) (d : Row) → p ≤ j → j < length rows → row_cmp row (get_or rows j d) ≡ Less) → AreRising (insert rows p row)
    rising_inserted before behind i j e lt within =
        let long = length-insert rows p row inside in
        elim (cases_lt i p) [
          | inl a ↦ elim (cases_lt j p) [
            | inl b ↦ rw (get_or-insert_below rows p row e i a inside, get_or-insert_below rows p row e j b inside) (was.rising i j e lt (omega arith))
            | inr b ↦ elim (cases_lt p j) [
              | inl c ↦
                  let back : j ≡ (j - 1) + 1 = omega arith in
                  rw (get_or-insert_below rows p row e i a inside) (rw (ap (λ (n : ℕ). get_or (insert rows p row) n e) back ∙ get_or-insert_above rows p row e (j - 1) (omega arith) inside) (was.rising i (j - 1) e (omega arith) (omega arith)))
              | inr c ↦
                  let same : j ≡ p = omega arith in
                  rw (get_or-insert_below rows p row e i a inside, ap (λ (n : ℕ). get_or (insert rows p row) n e) same ∙ get_or-insert_at rows p row e inside) (before i e a)
            ]
          ]
          | inr a ↦
              let back : j ≡ (j - 1) + 1 = omega arith in
              let at_j = ap (λ (n : ℕ). get_or (insert rows p row) n e) back ∙ get_or-insert_above rows p row e (j - 1) (omega arith) inside in
              elim (cases_lt p i) [
                | inl c ↦
                    let back' : i ≡ (i - 1) + 1 = omega arith in
                    rw (at_j, ap (λ (n : ℕ). get_or (insert rows p row) n e) back' ∙ get_or-insert_above rows p row e (i - 1) (omega arith) inside) (was.rising (i - 1) (j - 1) e (omega arith) (omega arith))
                | inr c ↦
                    let same : i ≡ p = omega arith in
                    rw (at_j, ap (λ (n : ℕ). get_or (insert rows p row) n e) same ∙ get_or-insert_at rows p row e inside) (behind (j - 1) e (omega arith) (omega arith))
              ]
        ]

    -- a row of the new list is the one that is put, or was there
    from_inserted : (other : Row) → Contains (insert rows p row) other → (other ≡ row) ⊎ Contains rows other
    from_inserted other has =
        let long = length-insert rows p row inside in
        elim (cases_lt has.0 p) [
          | inl a ↦ inr (has.0, omega arith, sym (get_or-insert_below rows p row other has.0 a inside) ∙ has.2)
          | inr b ↦ elim (cases_lt p has.0) [
            | inl c ↦
                let back : has.0 ≡ (has.0 - 1) + 1 = omega arith in
                inr (has.0 - 1, omega (arith, has.1), sym (get_or-insert_above rows p row other (has.0 - 1) (omega arith) inside) ∙ ap (λ (n : ℕ). get_or (insert rows p row) n other) (sym back) ∙ has.2)
            | inr c ↦
                let same : has.0 ≡ p = omega arith in
                inl (sym has.2 ∙ ap (λ (n : ℕ). get_or (insert rows p row) n other) same ∙ get_or-insert_at rows p row other inside)
          ]
        ]

    to_inserted : (other : Row) → Contains rows other → Contains (insert rows p row) other
    to_inserted other has =
        let long = length-insert rows p row inside in
        elim (cases_lt has.0 p) [
          | inl a ↦ (has.0, omega (arith, has.1), get_or-insert_below rows p row other has.0 a inside ∙ has.2)
          | inr b ↦ (has.0 + 1, omega (arith, has.1), get_or-insert_above rows p row other has.0 b inside ∙ has.2)
        ]

    pub rows_put : (id : ℕ) (one : Kept) → kept id ≡ None → id_of row ≡ id → IsRow shapes row one → ((i : ℕ) (d : Row) → i < p → row_cmp (get_or rows i d) row ≡ Less) → ((j : ℕ) (d : Row) → p ≤ j → j < length rows → row_cmp row (get_or rows j d) ≡ Less) → AreRows (with_kept kept id (Some one)) shapes (insert rows p row)
    rows_put id one free is_id is_row before behind = record {
      apart = was.apart;
      rising = rising_inserted before behind;
      sound = λ other has. elim (from_inserted other has) [
        | inl same ↦ let t : eqb (id_of other) id ≡ true = grind (arith, nat_tests, ap id_of same) in (one, rw t refl, rw same is_row)
        | inr there ↦
            let s = was.sound other there in
            let off : eqb (id_of other) id ≡ false = apart_ids (id_of other) s.0 s.1 in
            (s.0, rw off s.1, s.2)
      ];
      complete = λ q two is. by_test q two (eqb q id) refl is;
    } where
      apart_ids : (q : ℕ) (two : Kept) → kept q ≡ Some two → eqb q id ≡ false
      apart_ids q two is = by (eqb q id) refl where
        by : (b : Bool) → eqb q id ≡ b → eqb q id ≡ false
        by false e = e
        by true e = let same : q ≡ id = grind (arith, nat_tests) in absurd (let h : None ≡ Some two = sym free ∙ ap kept (sym same) ∙ is in cc)

      by_test : (q : ℕ) (two : Kept) (b : Bool) → eqb q id ≡ b → cond b (Some one) (kept q) ≡ Some two → (other : Row) × Contains (insert rows p row) other × (id_of other ≡ q)
      by_test q two true e is =
          let same : q ≡ id = grind (arith, nat_tests) in
          let long = length-insert rows p row inside in
          (row, (p, omega arith, get_or-insert_at rows p row row inside), is_id ∙ sym same)
      by_test q two false e is = let c = was.complete q two is in (c.0, to_inserted c.0 c.1, c.2)

  -- ---- where a row goes

  module _ (row : Row) (id : ℕ) (free : kept (id_of row) ≡ None) where
    -- the rows before it stand at the front
    pub parted : IsPartitionedBy (λ (held : Row). stands_before held row) rows
    unfolding stands_before
    parted i j d le within before = elim (cases_lt i j) [
      | inl lt ↦ ap is_lt (row_total.trans (get_or rows i d) (get_or rows j d) row (was.rising i j d lt within) (less_from_test _ before))
      | inr ge ↦ let same : i ≡ j = omega arith in ap (λ (n : ℕ). is_lt (row_cmp (get_or rows n d) row)) same ∙ before
    ]

    -- no row is level with it
    behind_it : (held : Row) → Contains rows held → stands_before held row ≡ false → row_cmp row held ≡ Less
    unfolding stands_before
    behind_it held has h =
        by_order (row_cmp held row) (row_cmp row held) (row_total.antisymm row held) h (λ e.
        let s = was.sound held has in
        let same : id_of held ≡ id_of row = ids_level held row e in
        let h : None ≡ Some s.0 = sym free ∙ ap kept (sym same) ∙ s.1 in cc)

    pub rows_put_at : (p : ℕ) (one : Kept) → p ≤ length rows → IsPartitionPoint (λ (held : Row). stands_before held row ≡ true) (λ (held : Row). stands_before held row ≡ false) rows p → IsRow shapes row one → AreRows (with_kept kept (id_of row) (Some one)) shapes (insert rows p row)
    unfolding stands_before
    rows_put_at p one inside parts is_row =
        rows_put p row inside (id_of row) one free refl is_row (λ i d lt. less_from_test _ (parts.0 i d (omega arith) lt)) (λ j d le within. behind_it (get_or rows j d) (has_at j d within) (parts.1 j d le within))
