-- Finite maps by rising id: a put of what is held, and counts of entries by their objects after an edit.
use Rattle.std.proofs.Common.{◌≡◌, ℕ, ◌+◌, ◌-◌, ◌<◌, ◌≤◌, Bool, true, false, not, ◌&&◌, cond, eqb, ltb, List, [], ◌∷◌, Option, Some, None, refl, sym, ap, ◌∙◌, arith, count_by, zero-add, ◌||◌}
use Rattle.std.specs.Prelude.{unwrap_or, option_map}
use Rattle.std.specs.Int.{from_bool}
use Rattle.std.specs.List.{sum_by, list_any}
use Rattle.std.specs.Option.{option_map_or}
use Rattle.std.specs.Map.{keys_of, values_of}
use Rattle.std.specs.Ordering.{nat_cmp}
use Rattle.std.specs.BTreeMap.{is_at}
use Rattle.std.specs.Cmp.{nat_cmp_total}
use Rattle.std.proofs.lemmas.Bool.Decides.{nat_tests}
use Rattle.std.proofs.lemmas.List.Sums.{sum_by-cons}
use Rattle.std.proofs.lemmas.Map.{lookup-none}
use Rattle.std.proofs.lemmas.Map.Entries.{sum_by-insert_entry, sum_by-remove_entry, none_below_head, none_past_head}
use Rattle.std.proofs.lemmas.Map.Keys.{sorted_tail, IsDistinct-from_sorted}
use Rattle.std.proofs.lemmas.Cmp.{eq_by_cmp_equiv}
use Rattle.ff_headers.specs.Objects.{object_under, IsById}
use Rattle.ff_headers.specs.Changes.{put, without}
use Rattle.ff_headers.proofs.EntryLemmas.{less_from, object_under-cons, put-cons}
use Rattle.ff_store.specs.Counts.{one_if}

same_both_ways : (a b : ℕ) → eqb a b ≡ eqb b a
same_both_ways a b = grind (arith, nat_tests)

at_itself : (a : ℕ) → is_at (nat_cmp a) a ≡ true
at_itself a = grind (arith, nat_tests)

module _ {X : Type 0} where
  -- an id below all others isn't held
  below_head : (e : ℕ × X) (es : List (ℕ × X)) (id : ℕ) → IsById (e ∷ es) → id < e.0 → object_under (e ∷ es) id ≡ None
  below_head e es id rising lt = lookup-none (is_at (nat_cmp id)) (e ∷ es) (none_below_head nat_cmp_total id e es rising (less_from id e.0 lt))

  -- no id comes twice
  past_head : (e : ℕ × X) (es : List (ℕ × X)) → IsById (e ∷ es) → object_under es e.0 ≡ None
  past_head e es rising =
      let apart = IsDistinct-from_sorted nat_cmp (keys_of (e ∷ es)) rising in
      lookup-none (is_at (nat_cmp e.0)) es (none_past_head (eq_by_cmp_equiv nat_cmp_total) e.0 e es apart (at_itself e.0))

  -- a put of what is held changes nothing
  pub put-held : (es : List (ℕ × X)) (id : ℕ) (x : X) → IsById es → object_under es id ≡ Some x → put es id x ≡ es
  put-held [] id x rising has = absurd cc
  put-held (e ∷ es) id x rising has = put-cons e.0 e.1 es id x ∙ by_place (ltb id e.0) (eqb id e.0) refl refl (sym (object_under-cons e.0 e.1 es id) ∙ has) (put-held es id x (sorted_tail nat_cmp e.0 (keys_of es) rising)) where
    by_place : (a b : Bool) → ltb id e.0 ≡ a → eqb id e.0 ≡ b → cond b (Some e.1) (object_under es id) ≡ Some x → (object_under es id ≡ Some x → put es id x ≡ es) → cond a ((id, x) ∷ e ∷ es) (cond b ((e.0, x) ∷ es) (e ∷ put es id x)) ≡ e ∷ es
    by_place true b lt same at later =
        let below : id < e.0 = grind (arith, nat_tests) in
        let none = below_head e es id rising below in
        absurd cc
    by_place false true lt same at later =
        let id_is : id ≡ e.0 = grind (arith, nat_tests) in
        ap (λ (y : X). (e.0, y) ∷ es) cc
    by_place false false lt same at later = ap (λ (l : List (ℕ × X)). e ∷ l) (later at)

  -- ---- counts by a test of the objects

  module _ (p : X → Bool) where
    abbrev counted : List (ℕ × X) → ℕ
    counted es = count_by (λ e. p e.1) es

    counted-cons : (e : ℕ × X) (es : List (ℕ × X)) → counted (e ∷ es) ≡ cond (p e.1) 1 0 + counted es
    counted-cons e es = sum_by-cons (λ (f : ℕ × X). cond (p f.1) 1 0) e es

    by_values : (es : List (ℕ × X)) → counted es ≡ sum_by (λ x. cond (p x) 1 0) (values_of es)
    by_values [] = refl
    by_values (e ∷ es) = counted-cons e es ∙ (ap (λ n. cond (p e.1) 1 0 + n) (by_values es) ∙ sym (sum_by-cons (λ x. cond (p x) 1 0) e.1 (values_of es)))

    one_if_is : (o : Option X) → one_if p o ≡ unwrap_or (option_map (λ x. cond (p x) 1 0) o) 0
    one_if_is None = refl
    one_if_is (Some x) = refl

    -- a put counts what is put, and no longer what stood there
    pub count-put : (es : List (ℕ × X)) (id : ℕ) (x : X) → IsById es → counted (put es id x) + one_if p (object_under es id) ≡ counted es + one_if p (Some x)
    count-put es id x rising =
        let sums = sum_by-insert_entry (λ x. cond (p x) 1 0) nat_cmp_total es id x rising in
        let after = by_values (put es id x) in
        let before = by_values es in
        let was = one_if_is (object_under es id) in
        cc

    -- a removal counts no longer what stood there
    pub count-without : (es : List (ℕ × X)) (id : ℕ) → counted (without es id) + one_if p (object_under es id) ≡ counted es
    count-without es id =
        let sums = sum_by-remove_entry (λ x. cond (p x) 1 0) (is_at (nat_cmp id)) es in
        let after = by_values (without es id) in
        let before = by_values es in
        let was = one_if_is (object_under es id) in
        cc

    -- some entry passes where one is counted
    pub some_counted : (es : List (ℕ × X)) → not (eqb (counted es) 0) ≡ list_any (λ e. p e.1) es
    some_counted [] = refl
    some_counted (e ∷ es) = ap (λ n. not (eqb n 0)) (counted-cons e es) ∙ by_test (p e.1) (some_counted es) where
      by_test : (b : Bool) → not (eqb (counted es) 0) ≡ list_any (λ e. p e.1) es → not (eqb (cond b 1 0 + counted es) 0) ≡ (b || list_any (λ e. p e.1) es)
      by_test true later = grind (arith, nat_tests)
      by_test false later = ap (λ n. not (eqb n 0)) (zero-add (counted es)) ∙ later

    -- ---- without an id

    abbrev others : ℕ → List (ℕ × X) → ℕ
    others id es = count_by (λ e. not (eqb e.0 id) && p e.1) es

    others-cons : (id : ℕ) (e : ℕ × X) (es : List (ℕ × X)) → others id (e ∷ es) ≡ cond (not (eqb e.0 id) && p e.1) 1 0 + others id es
    others-cons id e es = sum_by-cons (λ (f : ℕ × X). cond (not (eqb f.0 id) && p f.1) 1 0) e es

    all_others : (es : List (ℕ × X)) (id : ℕ) → object_under es id ≡ None → others id es ≡ counted es
    all_others [] id absent = refl
    all_others (e ∷ es) id absent = others-cons id e es ∙ (by_test (eqb id e.0) (eqb e.0 id) (same_both_ways id e.0) (sym (object_under-cons e.0 e.1 es id) ∙ absent) (all_others es id) ∙ sym (counted-cons e es)) where
      by_test : (a b : Bool) → a ≡ b → cond a (Some e.1) (object_under es id) ≡ None → (object_under es id ≡ None → others id es ≡ counted es) → cond (not b && p e.1) 1 0 + others id es ≡ cond (p e.1) 1 0 + counted es
      by_test true b same none later = absurd cc
      by_test false true same none later = absurd cc
      by_test false false same none later = ap (λ n. cond (p e.1) 1 0 + n) (later none)

    -- those of another id, and the one of the id
    count-others : (es : List (ℕ × X)) (id : ℕ) → IsById es → others id es + one_if p (object_under es id) ≡ counted es
    count-others [] id rising = refl
    count-others (e ∷ es) id rising = ap (λ n. n + one_if p (object_under (e ∷ es) id)) (others-cons id e es) ∙ (by_place (eqb id e.0) (eqb e.0 id) refl (same_both_ways id e.0) (object_under-cons e.0 e.1 es id) (count-others es id (sorted_tail nat_cmp e.0 (keys_of es) rising)) ∙ sym (counted-cons e es)) where
      by_place : (a b : Bool) → eqb id e.0 ≡ a → a ≡ b → object_under (e ∷ es) id ≡ cond a (Some e.1) (object_under es id) → others id es + one_if p (object_under es id) ≡ counted es → cond (not b && p e.1) 1 0 + others id es + one_if p (object_under (e ∷ es) id) ≡ cond (p e.1) 1 0 + counted es
      by_place true true is same at later =
          let id_is : id ≡ e.0 = grind (arith, nat_tests) in
          let absent : object_under es id ≡ None = ap (object_under es) id_is ∙ past_head e es rising in
          let rest = all_others es id absent in
          let here : one_if p (object_under (e ∷ es) id) ≡ cond (p e.1) 1 0 = ap (one_if p) at in
          omega arith
      by_place true false is same at later = absurd cc
      by_place false true is same at later = absurd cc
      by_place false false is same at later =
          let here : one_if p (object_under (e ∷ es) id) ≡ one_if p (object_under es id) = ap (one_if p) at in
          omega arith

    one_if_byte : (o : Option X) → one_if p o ≡ from_bool (option_map_or p o false)
    one_if_byte None = refl
    one_if_byte (Some x) = by_test (p x) where
      by_test : (b : Bool) → cond b 1 0 ≡ from_bool b
      by_test true = refl
      by_test false = refl

    pub others_left : (es : List (ℕ × X)) (id : ℕ) → IsById es → (all own : ℕ) (is_own : Bool) → all ≡ counted es → own ≡ from_bool is_own → is_own ≡ option_map_or p (object_under es id) false → (own ≤ all) × (all - own ≡ others id es)
    others_left es id rising all own is_own all_is own_is is =
        let parts = count-others es id rising in
        let one : own ≡ one_if p (object_under es id) = own_is ∙ (ap from_bool is ∙ sym (one_if_byte (object_under es id))) in
        (omega arith, omega arith)
