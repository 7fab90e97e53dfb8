-- The comparisons of the search for each shape, summed.
use Rattle.std.proofs.Common.{◌≡◌, ◌≢◌, ℕ, zero, suc, ◌+◌, ◌*◌, ◌^◌, ◌<◌, ◌≤◌, Bool, true, false, eqb, List, [], ◌∷◌, length, get_or, Option, Some, None, refl, sym, ap, ◌∙◌, ◌⊎◌, inl, inr, subst, arith, Contains, All}
use Rattle.std.specs.Prelude.{IsSome}
use Rattle.std.specs.List.{list_any}
use Rattle.std.specs.Option.{option_map_or}
use Rattle.std.specs.Map.{keys_of}
use Rattle.std.proofs.lemmas.Bool.{cases_lt}
use Rattle.std.proofs.lemmas.List.{get_or_default}
use Rattle.std.proofs.lemmas.List.Elements.{All-head, All-tail}
use Rattle.std.proofs.lemmas.List.Folds.{Any-from_list_any}
use Rattle.std.proofs.lemmas.Map.Entries.{length-keys_of}
use Rattle.std.proofs.Math.Nat.{mul-le-mul_right}
use Rattle.ff_headers.specs.SelectorParts.{SelectorParts}
use Rattle.ff_headers.specs.Frames.{HeaderBytes, header_at}
use Rattle.ff_headers.specs.Matching.{masked}
use Rattle.ff_headers.specs.declared.kind.Kind.{Kind}
use Rattle.ff_headers.specs.Objects.{FlowObjects}
use Rattle.matcher.specs.Keys.{Shape, shape_of, kind_and_mask, frame_key, joined_with}
use Rattle.matcher.specs.Rows.{Kept, kept_under, selectors_at, id_of, AreDistinctShapes, AreRows}
use Rattle.matcher.specs.Searches.{HasRow, AreOfNumbers, AreAllCarried, Differ, IsShapeCost, IsTotalCost}
use Rattle.matcher.specs.Comparisons.{IsUsed, HasHeaders, IsBounded}
use Rattle.matcher.specs.declared.rows.Row.{Row}
use Rattle.matcher.proofs.RoomLemmas.{differ_more, number_is, rows_within, key_held}
use Rattle.matcher.proofs.Pigeonhole.{no_longer}
use Rattle.matcher.proofs.ShapeLemmas.{unused}
use Rattle.matcher.proofs.RowLemmas.{some_same}
use Rattle.matcher.proofs.FirstLemmas.{kept_rule, rule_kept}
use Rattle.matcher.proofs.IndexLemmas.{kept_are_held}

some_row : (rows : List Row) (number : ℕ) → list_any (λ (row : Row). eqb row.shape number) rows ≡ true → HasRow rows number
some_row rows number h =
    let any = Any-from_list_any (λ (row : Row). eqb row.shape number) rows h in
    (any.1, (any.0, any.2, any.3), number_is any.1.shape number any.4)

-- a list with one more at its front
in_front : {X : Type 0} (x : X) (xs : List X) → Contains (x ∷ xs) x
in_front x xs = (0, omega arith, refl)

in_rest : {X : Type 0} (x y : X) (xs : List X) → Contains xs y → Contains (x ∷ xs) y
in_rest x y xs has = (suc has.0, omega (arith, has.1), has.2)

front_or_rest : {X : Type 0} (x y : X) (xs : List X) → Contains (x ∷ xs) y → (x ≡ y) ⊎ Contains xs y
front_or_rest {X} x y xs has = by has.0 has.1 has.2 where
  by : (k : ℕ) → k < suc (length xs) → get_or (x ∷ xs) k y ≡ y → (x ≡ y) ⊎ Contains xs y
  by zero lt at = inl at
  by (suc k) lt at = inr (k, omega arith, at)

module _ (shapes : List (List SelectorParts)) (rows : List Row) (headers : HeaderBytes) where
  pub cost_begun : (steps : ℕ) → IsTotalCost shapes rows headers 0 steps steps
  cost_begun steps = record {
    rising = omega arith;
    used = [];
    apart = λ i j d lt within. absurd (omega arith);
    of_numbers = λ shape has. absurd (omega (arith, has.1));
    most = λ d lt. omega arith;
    carried = [];
    all_carried = λ i lt. absurd (omega arith);
    least = omega arith;
  }

  shape : ℕ → Shape
  shape i = shape_of (selectors_at shapes i)

  module _ (n before mid after : ℕ) (apart : AreDistinctShapes shapes) (inside : n < length shapes) (was : IsTotalCost shapes rows headers n before mid) (cost : IsShapeCost shapes rows headers n mid after) where
    abbrev own : Shape
    own = shape_of (selectors_at shapes n)

    other_number : (s : Shape) → Contains was.used s → own ≢ s
    other_number s has same =
        let u = was.of_numbers s has in
        apart u.0 n u.1 inside (u.3 ∙ sym same)

    -- the shapes that are used, with this number's if some row has it
    record UsedMore : Type 0 where
      list : List Shape
      differ : Differ list
      of_numbers : AreOfNumbers shapes rows (n + 1) list
      most : (d : ℕ) → length rows < 2 ^ d → after ≤ before + length list * (d + 1)

    used_more : (b : Bool) → list_any (λ (row : Row). eqb row.shape n) rows ≡ b → UsedMore
    used_more true e = record {
      list = own ∷ was.used;
      differ = differ_more own was.used other_number was.apart;
      of_numbers = λ s has. elim (front_or_rest own s was.used has) [
        | inl same ↦ (n, omega arith, some_row rows n e, same)
        | inr there ↦ let u = was.of_numbers s there in (u.0, omega (arith, u.1), u.2, u.3)
      ];
      most = λ d lt.
          let a = was.most d lt in
          let b = cost.most d lt in
          let sum : suc (length was.used) * (d + 1) ≡ (d + 1) + length was.used * (d + 1) = grind arith in
          omega arith;
    }
    used_more false e = record {
      list = was.used;
      differ = was.apart;
      of_numbers = λ s has. let u = was.of_numbers s has in (u.0, omega (arith, u.1), u.2, u.3);
      most = λ d lt.
          let a = was.most d lt in
          let none = cost.none (λ row has. unused rows row n e has) in
          omega arith;
    }

    record CarriedMore : Type 0 where
      list : List Shape
      all : AreAllCarried shapes rows headers (n + 1) list
      least : before + length list ≤ after

    carried_more : (b : Bool) → list_any (λ (row : Row). eqb row.shape n) rows ≡ b → (o : Option (List ℕ)) → frame_key (selectors_at shapes n) headers ≡ o → CarriedMore
    carried_more true e (Some key) is = record {
      list = own ∷ was.carried;
      all = λ i lt row carried. elim (cases_lt i n) [
        | inl l ↦ in_rest own (shape_of (selectors_at shapes i)) was.carried (was.all_carried i l row carried)
        | inr ge ↦ let same : n ≡ i = omega arith in subst (λ (s : Shape). Contains (own ∷ was.carried) s) (ap (λ (k : ℕ). shape_of (selectors_at shapes k)) same) (in_front own was.carried)
      ];
      least =
          let r = some_row rows n e in
          let a = was.least in
          let b = cost.some r.0 r.1 r.2 (rw is refl) in
          omega arith;
    }
    carried_more true e None is = record {
      list = was.carried;
      all = λ i lt row carried. elim (cases_lt i n) [
        | inl l ↦ was.all_carried i l row carried
        | inr ge ↦ let same : i ≡ n = omega arith in absurd (lacks (frame_key (selectors_at shapes i) headers) (ap (λ (k : ℕ). frame_key (selectors_at shapes k) headers) same ∙ is) carried)
      ];
      least = let a = was.least in let b = cost.rising in omega arith;
    } where
      lacks : (o : Option (List ℕ)) → o ≡ None → IsSome o → ⊥
      lacks o h k = cc
    carried_more false e o is = record {
      list = was.carried;
      all = λ i lt row carried. elim (cases_lt i n) [
        | inl l ↦ was.all_carried i l row carried
        | inr ge ↦ let same : i ≡ n = omega arith in absurd (unused rows row.0 n e row.1 (row.2 ∙ same))
      ];
      least = let a = was.least in let b = cost.rising in omega arith;
    }

    pub cost_more : IsTotalCost shapes rows headers (n + 1) before after
    cost_more =
        let u = used_more (list_any (λ (row : Row). eqb row.shape n) rows) refl in
        let c = carried_more (list_any (λ (row : Row). eqb row.shape n) rows) refl (frame_key (selectors_at shapes n) headers) refl in
        record {
          rising = let a = was.rising in let b = cost.rising in omega arith;
          used = u.list;
          apart = u.differ;
          of_numbers = u.of_numbers;
          most = u.most;
          carried = c.list;
          all_carried = c.all;
          least = c.least;
        }

-- ---- in terms of the rules

-- a frame with each header of a shape has its key
key_of_headers : (headers : HeaderBytes) (selectors : List SelectorParts) → All (λ part. IsSome (header_at headers part.0)) (shape_of selectors) → IsSome (frame_key selectors headers)
key_of_headers headers [] all = refl
key_of_headers headers (s ∷ ss) all =
    let P : Kind × List ℕ → Type 0 = λ part. IsSome (header_at headers part.0) in
    by (header_at headers s.kind) (frame_key ss headers) (All-head P (kind_and_mask s) (shape_of ss) all) (key_of_headers headers ss (All-tail P (kind_and_mask s) (shape_of ss) all)) where
      by : (o p : Option (List ℕ)) → IsSome o → IsSome p → IsSome (option_map_or (λ value. joined_with (masked s.mask value) p) o None)
      by None p a b = absurd cc
      by (Some v) None a b = absurd cc
      by (Some v) (Some r) a b = refl

module _ (objects : FlowObjects) (headers : HeaderBytes) (shapes : List (List SelectorParts)) (rows : List Row) (was : AreRows (kept_under objects) shapes rows) (before after : ℕ) (cost : IsTotalCost shapes rows headers (length shapes) before after) where
  used_of_row : (i : ℕ) → HasRow rows i → IsUsed objects (shape_of (selectors_at shapes i))
  used_of_row i row =
      let s = was.sound row.0 row.1 in
      let k = kept_rule objects (id_of row.0) s.0 s.1 in
      record {
        id = id_of row.0;
        rule = k.rule;
        selectors = k.selectors;
        is_held = k.held;
        is_named = k.classified;
        has_shape = sym (ap (λ (one : Kept). one.shape) k.is) ∙ sym s.2.shape ∙ ap (λ (n : ℕ). shape_of (selectors_at shapes n)) row.2;
      }

  row_of_used : (shape : Shape) → IsUsed objects shape → (i : ℕ) × (i < length shapes) × HasRow rows i × (shape_of (selectors_at shapes i) ≡ shape)
  row_of_used shape u =
      let kept = rule_kept objects u.id u.rule u.selectors u.is_held u.is_named in
      let c = was.complete u.id _ kept in
      let s = was.sound c.0 c.1 in
      let same = some_same (kept_under objects u.id) s.0 _ (ap (kept_under objects) (sym c.2) ∙ s.1) kept in
      (c.0.shape, s.2.within, (c.0, c.1, refl), s.2.shape ∙ ap (λ (k : Kept). k.shape) same ∙ u.has_shape)

  rows_few : length rows ≤ length objects.rules
  rows_few =
      let long = length-keys_of objects.rules in
      let most = rows_within (kept_under objects) shapes rows was (keys_of objects.rules) (λ q one is. key_held objects.rules q (kept_are_held objects q one is).0) in
      omega arith

  pub bounded : IsBounded objects headers before after
  bounded = record {
    least = λ list searched.
        let most = no_longer list cost.carried (λ i j d lt within same. searched.distinct i j lt within (get_or_default list i [] d (omega arith) ∙ same ∙ get_or_default list j d [] within)) (λ shape has.
        let r = row_of_used shape (searched.used shape has) in
        let headers_there = subst (λ (s : Shape). HasHeaders headers s) (sym r.3) (searched.carried shape has) in
        subst (λ (s : Shape). Contains cost.carried s) r.3 (cost.all_carried r.0 r.1 r.2 (key_of_headers headers (selectors_at shapes r.0) headers_there))) in
        let least = cost.least in
        omega arith;
    most = λ list d all lt.
        let few = rows_few in
        let count = no_longer cost.used list cost.apart (λ shape has. let u = cost.of_numbers shape has in subst (λ (s : Shape). Contains list s) u.3 (all (shape_of (selectors_at shapes u.0)) (used_of_row u.0 u.2))) in
        let most = cost.most d (omega arith) in
        let times : length cost.used * (d + 1) ≤ length list * (d + 1) = mul-le-mul_right (d + 1) count in
        omega arith;
  }
