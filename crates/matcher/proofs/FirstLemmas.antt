-- The first among rows of several kinds, and what it says of the rules.
use Rattle.std.proofs.Common.{◌≡◌, ℕ, ◌+◌, Bool, true, false, cond, List, length, Option, Some, None, Ordering, refl, sym, ap, ◌∙◌, ◌⊎◌, inl, inr, arith, Contains}
use Rattle.std.specs.Prelude.{IsSome, IfSome, IsTrue, ◌↔◌, unwrap_or}
use Rattle.std.specs.Option.{option_map, option_map_or}
use Rattle.std.specs.Ordering.{is_lt, nat_cmp, ordering_then, ordering_reverse}
use Rattle.std.proofs.lemmas.Bool.Decides.{nat_tests}
use Rattle.std.specs.declared.cmp.Ordering.TheVariants.{Less, Equal, Greater}
use Rattle.ff_headers.specs.SelectorParts.{SelectorParts}
use Rattle.ff_headers.specs.RuleParts.{RuleParts}
use Rattle.ff_headers.specs.Frames.{HeaderBytes}
use Rattle.ff_headers.specs.Matching.{matches, key_size}
use Rattle.ff_headers.specs.Objects.{FlowObjects, object_under, IsWellFormed}
use Rattle.ff_headers.specs.Places.{RuleEntry, Place, place_cmp, place_of, is_before, IsMatching, IsFirst, first_rule, rule_matches}
use Rattle.ff_headers.specs.declared.limits.Limits.{Limits}
use Rattle.ff_headers.proofs.PlaceLemmas.{place_total, first_rule_is_first, first_rule_is_found}
use Rattle.matcher.specs.Candidates.{candidate_of, earlier}
use Rattle.matcher.specs.Keys.{shape_of, masked_key, frame_key}
use Rattle.matcher.specs.Rows.{Kept, kept_with, kept_by, kept_under, id_of, selectors_at, AreRows}
use Rattle.matcher.specs.Searches.{HasKey, FitsRow, FitsBelow, IsFirstAmong}
use Rattle.std.proofs.lemmas.Bool.{cases_lt}
use Rattle.matcher.specs.declared.scan.Candidate.{Candidate}
use Rattle.matcher.specs.declared.rows.Row.{Row}
use Rattle.matcher.proofs.RowLemmas.{less_from_test, option_parts, some_same}
use Rattle.matcher.proofs.MatchKeys.{HaveSizes, key_from_match, match_from_key, frame_key_by_shape}

-- ---- the order of places

-- what comes after a second place that isn't before the first
not_before_later : (x a b : Place) → is_lt (place_cmp x a) ≡ false → is_lt (place_cmp b a) ≡ true → is_lt (place_cmp x b) ≡ false
not_before_later x a b stays less = by (is_lt (place_cmp x b)) refl where
  two : (t : Bool) → t ≡ true → t ≡ false → ⊥
  two t h k = cc

  by : (t : Bool) → is_lt (place_cmp x b) ≡ t → is_lt (place_cmp x b) ≡ false
  by false e = e
  by true e = absurd (two (is_lt (place_cmp x a)) (ap is_lt (place_total.trans x b a (less_from_test _ e) (less_from_test _ less))) stays)

not_before_first : (x a b : Place) → is_lt (place_cmp x b) ≡ false → is_lt (place_cmp b a) ≡ false → is_lt (place_cmp x a) ≡ false
not_before_first x a b stays last = by (place_cmp b a) refl last where
  two : (t : Bool) → t ≡ true → t ≡ false → ⊥
  two t h k = cc

  under : place_cmp a b ≡ Less → (t : Bool) → is_lt (place_cmp x a) ≡ t → is_lt (place_cmp x a) ≡ false
  under less false e = e
  under less true e = absurd (two (is_lt (place_cmp x b)) (ap is_lt (place_total.trans x a b (less_from_test _ e) less)) stays)

  by : (o : Ordering) → place_cmp b a ≡ o → is_lt o ≡ false → is_lt (place_cmp x a) ≡ false
  by Less e h = absurd cc
  by Equal e h = ap is_lt (sym (right_same x b a e)) ∙ stays where
    right_same : (x b a : Place) → place_cmp b a ≡ Equal → place_cmp x b ≡ place_cmp x a
    right_same x b a e = place_total.antisymm x b ∙ ap ordering_reverse (place_total.congr b a x e) ∙ sym (place_total.antisymm x a)
  by Greater e h = under (place_total.antisymm a b ∙ ap ordering_reverse e) (is_lt (place_cmp x a)) refl

-- ---- two kinds of rows

module _ (rows : List Row) (P Q R : Row → Type 0) (split : (row : Row) → R row → P row ⊎ Q row) (from_p : (row : Row) → P row → R row) (from_q : (row : Row) → Q row → R row) where
  pub first_of_both : (a b : Option Candidate) → IsFirstAmong rows P a → IsFirstAmong rows Q b → IsFirstAmong rows R (earlier a b)
  first_of_both None None no_p no_q = λ row has r. elim (split row r) [
    | inl p ↦ no_p row has p
    | inr q ↦ no_q row has q
  ]
  first_of_both (Some x) None is_p no_q =
      let w = is_p.0 in (
        (w.0, w.1, from_p w.0 w.2, w.3),
        λ row has r. elim (split row r) [
          | inl p ↦ is_p.1 row has p
          | inr q ↦ absurd (no_q row has q)
        ],
      )
  first_of_both None (Some y) no_p is_q =
      let w = is_q.0 in (
        (w.0, w.1, from_q w.0 w.2, w.3),
        λ row has r. elim (split row r) [
          | inl p ↦ absurd (no_p row has p)
          | inr q ↦ is_q.1 row has q
        ],
      )
  first_of_both (Some x) (Some y) is_p is_q = by (is_lt (place_cmp y.place x.place)) refl where
    by : (t : Bool) → is_lt (place_cmp y.place x.place) ≡ t → IsFirstAmong rows R (Some (cond t y x))
    by true e =
        let w = is_q.0 in (
          (w.0, w.1, from_q w.0 w.2, w.3),
          λ row has r. elim (split row r) [
            | inl p ↦ not_before_later row.candidate.place x.place y.place (is_p.1 row has p) e
            | inr q ↦ is_q.1 row has q
          ],
        )
    by false e =
        let w = is_p.0 in (
          (w.0, w.1, from_p w.0 w.2, w.3),
          λ row has r. elim (split row r) [
            | inl p ↦ is_p.1 row has p
            | inr q ↦ not_before_first row.candidate.place x.place y.place (is_q.1 row has q) e
          ],
        )

-- rows of a kind that has the same rows
pub same_kind : (rows : List Row) (P Q : Row → Type 0) → ((row : Row) → Contains rows row → P row → Q row) → ((row : Row) → Contains rows row → Q row → P row) → (a : Option Candidate) → IsFirstAmong rows P a → IsFirstAmong rows Q a
same_kind rows P Q to back None lacks = λ row has q. lacks row has (back row has q)
same_kind rows P Q to back (Some x) is =
    let w = is.0 in
    ((w.0, w.1, to w.0 w.1 w.2, w.3), λ row has q. is.1 row has (back row has q))

-- ---- rows as rules

-- what is kept under an id is of a held rule with held selectors
pub record KeptRule (objects : FlowObjects) (id : ℕ) (one : Kept) : Type 0 where
  pub rule : RuleParts
  pub selectors : List SelectorParts
  pub held : object_under objects.rules id ≡ Some rule
  pub classified : object_under objects.classifiers rule.classifier ≡ Some selectors
  pub is : one ≡ kept_with (unwrap_or (object_under objects.groups rule.group) 0) (id, rule) selectors

pub kept_rule : (objects : FlowObjects) (id : ℕ) (one : Kept) → kept_under objects id ≡ Some one → KeptRule objects id one
unfolding kept_under
kept_rule objects id one is = by (object_under objects.rules id) refl is where
  by : (o : Option RuleParts) → object_under objects.rules id ≡ o → option_map_or (λ (rule : RuleParts). kept_by objects (unwrap_or (object_under objects.groups rule.group) 0) (id, rule)) o None ≡ Some one → KeptRule objects id one
  by None at h = absurd cc
  by (Some rule) at h =
      let p = option_parts (kept_with (unwrap_or (object_under objects.groups rule.group) 0) (id, rule)) (object_under objects.classifiers rule.classifier) one h in
      record { rule = rule; selectors = p.0; held = at; classified = p.1; is = sym p.2 }

-- and a held rule with held selectors is kept
pub rule_kept : (objects : FlowObjects) (id : ℕ) (rule : RuleParts) (selectors : List SelectorParts) → object_under objects.rules id ≡ Some rule → object_under objects.classifiers rule.classifier ≡ Some selectors → kept_under objects id ≡ Some (kept_with (unwrap_or (object_under objects.groups rule.group) 0) (id, rule) selectors)
unfolding kept_under
rule_kept objects id rule selectors held classified = rw held (rw classified refl)

-- a rule matches by its selectors
matches_by : (objects : FlowObjects) (headers : HeaderBytes) (rule : RuleParts) (selectors : List SelectorParts) → object_under objects.classifiers rule.classifier ≡ Some selectors → rule_matches objects headers rule ≡ matches selectors rule.key headers
unfolding rule_matches
matches_by objects headers rule selectors is = rw is refl

-- a rule that matches has selectors
matching_selectors : (objects : FlowObjects) (headers : HeaderBytes) (rule : RuleParts) → IsTrue (rule_matches objects headers rule) → (selectors : List SelectorParts) × (object_under objects.classifiers rule.classifier ≡ Some selectors) × (matches selectors rule.key headers ≡ true)
unfolding rule_matches
matching_selectors objects headers rule m = by (object_under objects.classifiers rule.classifier) refl m where
  by : (o : Option (List SelectorParts)) → object_under objects.classifiers rule.classifier ≡ o → option_map_or (λ (selectors : List SelectorParts). matches selectors rule.key headers) o false ≡ true → (selectors : List SelectorParts) × (object_under objects.classifiers rule.classifier ≡ Some selectors) × (matches selectors rule.key headers ≡ true)
  by None at h = absurd cc
  by (Some selectors) at h = (selectors, at, h)

-- a row fits exactly where it has the frame's key for its shape
pub fits_from_key : (shapes : List (List SelectorParts)) (headers : HeaderBytes) (number : ℕ) (key : List ℕ) (row : Row) → frame_key (selectors_at shapes number) headers ≡ Some key → HasKey number key row → (row.shape ≡ number) × FitsRow shapes headers row
fits_from_key shapes headers number key row keyed (h, k) =
    (h, ap (λ (n : ℕ). frame_key (selectors_at shapes n) headers) h ∙ keyed ∙ ap Some (sym k))

pub key_from_fits : (shapes : List (List SelectorParts)) (headers : HeaderBytes) (number : ℕ) (key : List ℕ) (row : Row) → frame_key (selectors_at shapes number) headers ≡ Some key → (row.shape ≡ number) × FitsRow shapes headers row → HasKey number key row
key_from_fits shapes headers number key row keyed (h, f) =
    (h, some_keys row.key.items key (sym f ∙ ap (λ (n : ℕ). frame_key (selectors_at shapes n) headers) h ∙ keyed)) where
      some_keys : (a b : List ℕ) → Some a ≡ Some b → a ≡ b
      some_keys a b e = cc

pub below_split : (shapes : List (List SelectorParts)) (headers : HeaderBytes) (n : ℕ) (row : Row) → FitsBelow (n + 1) shapes headers row → FitsBelow n shapes headers row ⊎ ((row.shape ≡ n) × FitsRow shapes headers row)
below_split shapes headers n row (lt, f) = elim (cases_lt row.shape n) [
  | inl l ↦ inl (l, f)
  | inr ge ↦ inr (omega arith, f)
]

pub below_kept : (shapes : List (List SelectorParts)) (headers : HeaderBytes) (n : ℕ) (row : Row) → FitsBelow n shapes headers row → FitsBelow (n + 1) shapes headers row
below_kept shapes headers n row (lt, f) = (omega arith, f)

pub below_last : (shapes : List (List SelectorParts)) (headers : HeaderBytes) (n : ℕ) (row : Row) → (row.shape ≡ n) × FitsRow shapes headers row → FitsBelow (n + 1) shapes headers row
below_last shapes headers n row (e, f) = (omega arith, f)

same_entry : (a b : RuleEntry) → a.0 ≡ b.0 → a.1 ≡ b.1 → a ≡ b
same_entry (i, x) (j, y) e f = cc

none_some : false ≡ true → ⊥
none_some h = cc

not_is_true : (b : Bool) → ¬ IsTrue b → b ≡ false
not_is_true true h = absurd (h refl)
not_is_true false h = refl

level_numbers : (m n : ℕ) → nat_cmp m n ≡ Equal → m ≡ n
level_numbers m n h = grind (arith, nat_tests)

level_parts : (o p : Ordering) → ordering_then o p ≡ Equal → (o ≡ Equal) × (p ≡ Equal)
level_parts Less p h = absurd cc
level_parts Equal p h = (refl, h)
level_parts Greater p h = absurd cc

-- two places of which neither is before the other are one
neither_before : (x y : Place) → is_lt (place_cmp x y) ≡ false → is_lt (place_cmp y x) ≡ false → x ≡ y
neither_before x y a b = by (place_cmp x y) refl a where
  by : (o : Ordering) → place_cmp x y ≡ o → is_lt o ≡ false → x ≡ y
  by Less e h = absurd cc
  by Greater e h = absurd (let r : place_cmp y x ≡ Less = place_total.antisymm y x ∙ ap ordering_reverse e in none_some (sym b ∙ ap is_lt r))
  by Equal e h =
      let p = level_parts (nat_cmp x.0 y.0) (ordering_then (nat_cmp x.1 y.1) (nat_cmp x.2 y.2)) e in
      let q = level_parts (nat_cmp x.1 y.1) (nat_cmp x.2 y.2) p.1 in
      same_place x y (level_numbers x.0 y.0 p.0) (level_numbers x.1 y.1 q.0) (level_numbers x.2 y.2 q.1) where
        same_place : (x y : Place) → x.0 ≡ y.0 → x.1 ≡ y.1 → x.2 ≡ y.2 → x ≡ y
        same_place (i, j, k) (l, m, n) a b c = cc

module _ (limits : Limits) (objects : FlowObjects) (well : IsWellFormed limits objects) (headers : HeaderBytes) (sizes : HaveSizes headers) (shapes : List (List SelectorParts)) (rows : List Row) (was : AreRows (kept_under objects) shapes rows) where
  sized : (id : ℕ) (rule : RuleParts) (selectors : List SelectorParts) → object_under objects.rules id ≡ Some rule → object_under objects.classifiers rule.classifier ≡ Some selectors → length rule.key ≡ key_size selectors
  sized id rule selectors held classified = rw classified at (well.backed id rule held).key_fits

  -- the rule of a row that fits matches
  rule_of_row : (row : Row) → Contains rows row → FitsRow shapes headers row → (rule : RuleParts) × IsMatching objects headers (id_of row, rule) × (row.candidate ≡ candidate_of objects (id_of row, rule))
  rule_of_row row has fits =
      let s = was.sound row has in
      let k = kept_rule objects (id_of row) s.0 s.1 in
      let shape : shape_of (selectors_at shapes row.shape) ≡ shape_of k.selectors = s.2.shape ∙ ap (λ (one : Kept). one.shape) k.is in
      let key : row.key.items ≡ masked_key k.selectors k.rule.key = s.2.key ∙ ap (λ (one : Kept). one.key) k.is in
      let same : frame_key k.selectors headers ≡ Some (masked_key k.selectors k.rule.key) = sym (frame_key_by_shape headers (selectors_at shapes row.shape) k.selectors shape) ∙ fits ∙ ap Some key in (
        k.rule,
        record {
          is_held = k.held;
          fits_headers = matches_by objects headers k.rule k.selectors k.classified ∙ match_from_key headers k.selectors k.rule.key sizes (sized (id_of row) k.rule k.selectors k.held k.classified) same;
        },
        s.2.candidate ∙ ap (λ (one : Kept). one.candidate) k.is,
      )

  -- the row of a rule that matches fits
  row_of_rule : (entry : RuleEntry) → IsMatching objects headers entry → (row : Row) × Contains rows row × FitsBelow (length shapes) shapes headers row × (row.candidate ≡ candidate_of objects entry)
  row_of_rule entry m =
      let p = matching_selectors objects headers entry.1 m.fits_headers in
      let one = kept_with (unwrap_or (object_under objects.groups entry.1.group) 0) entry p.0 in
      let kept : kept_under objects entry.0 ≡ Some one = rule_kept objects entry.0 entry.1 p.0 m.is_held p.1 in
      let c = was.complete entry.0 one kept in
      let s = was.sound c.0 c.1 in
      let same : s.0 ≡ one = some_same (kept_under objects entry.0) s.0 one (ap (kept_under objects) (sym c.2) ∙ s.1) kept in
      let shape : shape_of (selectors_at shapes c.0.shape) ≡ shape_of p.0 = s.2.shape ∙ ap (λ (k : Kept). k.shape) same in
      let key : c.0.key.items ≡ masked_key p.0 entry.1.key = s.2.key ∙ ap (λ (k : Kept). k.key) same in
      (c.0, c.1, (s.2.within, frame_key_by_shape headers (selectors_at shapes c.0.shape) p.0 shape ∙ key_from_match headers p.0 entry.1.key p.2 ∙ ap Some (sym key)), s.2.candidate ∙ ap (λ (k : Kept). k.candidate) same)

  -- the first row is that of the first rule
  pub first_row_is_first : (first : Option Candidate) → IsFirstAmong rows (FitsBelow (length shapes) shapes headers) first → first ≡ option_map (candidate_of objects) (first_rule objects headers)
  first_row_is_first None lacks = by (first_rule objects headers) refl (first_rule_is_found objects headers well.by_id.rules_rise) where
    by : (o : Option RuleEntry) → first_rule objects headers ≡ o → (IsSome o ↔ ((entry : RuleEntry) × IsMatching objects headers entry)) → None ≡ option_map (candidate_of objects) o
    by None is found = refl
    by (Some entry) is found =
        let m = found.0 refl in
        let r = row_of_rule m.0 m.1 in
        absurd (lacks r.0 r.1 r.2)
  first_row_is_first (Some c) is =
      let w = is.0 in
      let r = rule_of_row w.0 w.1 w.2.1 in
      let entry : RuleEntry = (id_of w.0, r.0) in
      let at : c ≡ candidate_of objects entry = sym w.3 ∙ r.2 in
      by entry r.1 at (first_rule objects headers) refl (first_rule_is_first objects headers well.by_id.rules_rise) (first_rule_is_found objects headers well.by_id.rules_rise) where
        by : (entry : RuleEntry) → IsMatching objects headers entry → c ≡ candidate_of objects entry → (o : Option RuleEntry) → first_rule objects headers ≡ o → IfSome o (IsFirst objects headers) → (IsSome o ↔ ((entry : RuleEntry) × IsMatching objects headers entry)) → Some c ≡ option_map (candidate_of objects) o
        by entry m at None e first found = absurd (let h = found.1 (entry, m) in none_some h)
        by entry m at (Some best) e first found =
            let mine : (other : RuleEntry) → IsMatching objects headers other → is_before objects other entry ≡ false = (λ other n.
            let row = row_of_rule other n in
            let h = is.1 row.0 row.1 row.2 in
            sym (ap (λ (x : Candidate). is_lt (place_cmp x.place (place_of objects entry))) row.3) ∙ sym (ap (λ (x : Candidate). is_lt (place_cmp row.0.candidate.place x.place)) at) ∙ h) in
            let a : place_of objects best ≡ place_of objects entry = neither_before (place_of objects best) (place_of objects entry) (mine best first.matching) (not_is_true _ (first.least entry m)) in
            let ids : best.0 ≡ entry.0 = ap (λ (p : Place). p.2) a in
            let rules : best.1 ≡ entry.1 = some_same (object_under objects.rules entry.0) best.1 entry.1 (ap (object_under objects.rules) (sym ids) ∙ first.matching.is_held) m.is_held in
            ap Some (at ∙ ap (candidate_of objects) (sym (same_entry best entry ids rules)))
