-- The first rule is there exactly where some rule matches, and it is first.
use Rattle.std.proofs.Common.{◌≡◌, ℕ, zero, suc, ◌<◌, Bool, true, false, cond, List, [], ◌∷◌, filter, length, get_or, refl, ap, ◌∙◌, subst, arith, Contains}
use Rattle.std.specs.Prelude.{IsSome, IfSome, IsTrue, ◌↔◌}
use Rattle.std.specs.List.{best_of}
use Rattle.std.specs.Cmp.{IsTotalOrder, IsStrictWeakOrder, nat_cmp_total}
use Rattle.std.proofs.lemmas.List.Elements.{All-contains, All-filter, All-contains_itself, filter_passes}
use Rattle.std.proofs.lemmas.List.{get_or_default}
use Rattle.std.proofs.lemmas.List.MinMax.{ranks_by, IsFirstBest-from_best_of}
use Rattle.ff_headers.specs.Frames.{HeaderBytes}
use Rattle.ff_headers.specs.Objects.{FlowObjects, IsById}
use Rattle.ff_headers.specs.Places.{RuleEntry, Place, place_of, place_cmp, is_before, rule_matches, IsMatching, IsFirst, matching_rules, least_rule, first_rule}
use Rattle.ff_headers.proofs.OrderLemmas.{then_total}
use Rattle.ff_headers.proofs.EntryLemmas.{held_from_entry, entry_from_held}

-- ---- an element through a filter

module _ {A : Type 0} (p : A → Bool) where
  kept_past : (b : Bool) (y x : A) (ys : List A) → Contains ys x → Contains (cond b (y ∷ ys) ys) x
  kept_past true y x ys h = (suc h.0, omega arith, h.2)
  kept_past false y x ys h = h

  pub Contains-filter : (xs : List A) (x : A) → Contains xs x → p x ≡ true → Contains (filter p xs) x
  Contains-filter xs x h passes = kept xs x h.0 h.1 h.2 passes where
    kept : (xs : List A) (x : A) (k : ℕ) → k < length xs → get_or xs k x ≡ x → p x ≡ true → Contains (filter p xs) x
    kept [] x k inside e passes = absurd (omega arith)
    kept (y ∷ ys) x zero inside e passes = rw (ap p e ∙ passes) (0, omega arith, e)
    kept (y ∷ ys) x (suc k) inside e passes = kept_past (p y) y x (filter p ys) (kept ys x k (omega arith) e passes)

  pub Contains-from_filter : (xs : List A) (x : A) → Contains (filter p xs) x → Contains xs x
  Contains-from_filter xs x h = All-contains (Contains xs) (filter p xs) x (All-filter p (Contains xs) xs (All-contains_itself xs)) h

  pub passes_from_filter : (xs : List A) (x : A) → Contains (filter p xs) x → p x ≡ true
  passes_from_filter xs x h = All-contains (λ (y : A). p y ≡ true) (filter p xs) x (filter_passes p xs) h

-- ---- the order of places

pub place_total : IsTotalOrder place_cmp
place_total = then_total (λ (x : Place). x.0) (λ (x : Place). x) nat_cmp_total (then_total (λ (x : Place). x.1) (λ (x : Place). x.2) nat_cmp_total nat_cmp_total)

pub before_ranks : (objects : FlowObjects) → IsStrictWeakOrder (is_before objects)
before_ranks objects = ranks_by place_total (place_of objects)

-- ---- the least of a list

-- an entry that is in the list, and that none in it comes before
pub record IsLeast (objects : FlowObjects) (entries : List RuleEntry) (entry : RuleEntry) : Type 0 where
  pub among : Contains entries entry
  pub least : (other : RuleEntry) → Contains entries other → is_before objects other entry ≡ false

pub best_is_least : (objects : FlowObjects) (e : RuleEntry) (es : List RuleEntry) → IsLeast objects (e ∷ es) (best_of (is_before objects) e es)
best_is_least objects e es =
    let found = IsFirstBest-from_best_of (before_ranks objects) e es in
    let at = found.2 in
    let at' = get_or_default (e ∷ es) found.0 (best_of (is_before objects) e es) e found.1.0 in
    record {
      among = (found.0, found.1.0, at' ∙ at);
      least = λ other has. subst (λ (b : RuleEntry). is_before objects other b ≡ false) at (subst (λ (o : RuleEntry). is_before objects o (get_or (e ∷ es) found.0 e) ≡ false) (get_or_default (e ∷ es) has.0 e other has.1 ∙ has.2) (found.1.1 has.0 e has.1));
    }

-- ---- the first rule

not_true : (b : Bool) → b ≡ false → IsTrue b → ⊥
not_true b h k = cc

-- of a list that has exactly the rules that match, the least is first
module _ (objects : FlowObjects) (headers : HeaderBytes) where
  pub least_is_first : (entries : List RuleEntry) → ((entry : RuleEntry) → Contains entries entry → IsMatching objects headers entry) → ((entry : RuleEntry) → IsMatching objects headers entry → Contains entries entry) → IfSome (least_rule objects entries) (IsFirst objects headers)
  least_is_first [] only all = tt
  least_is_first (e ∷ es) only all =
      let best = best_is_least objects e es in
      record {
        matching = only (best_of (is_before objects) e es) best.among;
        least = λ other m. not_true _ (best.least other (all other m));
      }

  pub least_is_found : (entries : List RuleEntry) → ((entry : RuleEntry) → Contains entries entry → IsMatching objects headers entry) → ((entry : RuleEntry) → IsMatching objects headers entry → Contains entries entry) → IsSome (least_rule objects entries) ↔ ((entry : RuleEntry) × IsMatching objects headers entry)
  least_is_found [] only all = (λ h. absurd (none_found h), λ m. let has = all m.0 m.1 in absurd (omega (arith, has.1))) where
    none_found : IsSome (least_rule objects []) → ⊥
    none_found h = cc
  least_is_found (e ∷ es) only all = (λ h. (e, only e (0, omega arith, refl)), λ m. refl)

  pub only_matching : IsById objects.rules → (entry : RuleEntry) → Contains (matching_rules objects headers) entry → IsMatching objects headers entry
  only_matching sorted entry has =
      let p = λ (e : RuleEntry). rule_matches objects headers e.1 in
      record {
        is_held = held_from_entry objects.rules entry sorted (Contains-from_filter p objects.rules entry has);
        fits_headers = passes_from_filter p objects.rules entry has;
      }

  pub all_matching : (entry : RuleEntry) → IsMatching objects headers entry → Contains (matching_rules objects headers) entry
  all_matching entry m =
      Contains-filter (λ (e : RuleEntry). rule_matches objects headers e.1) objects.rules entry (entry_from_held objects.rules entry.0 entry.1 m.is_held) m.fits_headers

  pub first_rule_is_first : IsById objects.rules → IfSome (first_rule objects headers) (IsFirst objects headers)
  unfolding first_rule
  first_rule_is_first sorted = least_is_first (matching_rules objects headers) (only_matching sorted) all_matching

  pub first_rule_is_found : IsById objects.rules → IsSome (first_rule objects headers) ↔ ((entry : RuleEntry) × IsMatching objects headers entry)
  unfolding first_rule
  first_rule_is_found sorted = least_is_found (matching_rules objects headers) (only_matching sorted) all_matching
