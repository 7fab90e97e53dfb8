-- The rules that stand for specs are in the specs' order, so the first of them that matches decides.
use Rattle.std.proofs.Common.{◌≡◌, ℕ, zero, suc, ◌+◌, ◌*◌, ◌/◌, ◌%◌, ◌<◌, ◌≤◌, Bool, true, false, cond, List, [], ◌∷◌, map, filter, length, Option, Some, refl, sym, ap, ◌∙◌, arith, ◌⊎◌, inl, inr, ⊎_elim}
use Rattle.std.specs.Prelude.{⊤, find, unwrap_or}
use Rattle.std.specs.List.{AllByRecursion, best_of, enumerate_from, range_with_len}
use Rattle.std.specs.Ordering.{is_lt}
use Rattle.std.specs.Int.{div_ceil}
use Rattle.std.proofs.Math.Nat.{div-add-mod, div-mul-le_self, le-div_iff_mul-le}
use Rattle.std.proofs.lemmas.Grind.{div_ceil_times}
use Rattle.std.proofs.lemmas.Nat.{le-div}
use Rattle.std.proofs.lemmas.Bool.{cases_eq, cases_lt, cases_order, eq-eqb, ne_eqb, le-ltb}
use Rattle.ff_headers.specs.Frames.{HeaderBytes}
use Rattle.ff_headers.specs.Objects.{FlowObjects, object_under}
use Rattle.ff_headers.specs.Places.{RuleEntry, Place, place_of, place_cmp, is_before, rule_matches, least_rule, first_rule}
use Rattle.ff_headers.specs.declared.limits.Limits.{Limits}
use Rattle.ff_headers.proofs.EntryLemmas.{object_under-cons}
use Rattle.ntuple_text.specs.declared.spec.Spec.{Spec}
use Rattle.ntuple_compile.specs.Compiled.{SelectorList, objects_of, rules_per_group, shapes_of, spec_rule}
use Rattle.ntuple_compile.proofs.EachElement.{each_kept}

-- ---- the first of rules in order

head_is_best : {X : Type 0} (beats : X → X → Bool) (x : X) (xs : List X) → AllByRecursion (λ y. beats y x ≡ false) xs → best_of beats x xs ≡ x
head_is_best beats x [] h = refl
head_is_best beats x (y ∷ ys) h = rw h.0 (head_is_best beats x ys h.1)

-- no rule comes before one that stands in front of it
abbrev pub InOrder : FlowObjects → List RuleEntry → Type 0
InOrder objects [] = ⊤
InOrder objects (entry ∷ entries) = AllByRecursion (λ later. is_before objects later entry ≡ false) entries × InOrder objects entries

least_is_found : (objects : FlowObjects) (p : RuleEntry → Bool) (entries : List RuleEntry) → InOrder objects entries → least_rule objects (filter p entries) ≡ find p entries
least_is_found objects p [] h = refl
least_is_found objects p (entry ∷ entries) h = by_test (p entry) (least_is_found objects p entries h.1) where
  by_test : (b : Bool) → least_rule objects (filter p entries) ≡ find p entries → least_rule objects (cond b (entry ∷ filter p entries) (filter p entries)) ≡ cond b (Some entry) (find p entries)
  by_test true rest = ap Some (head_is_best (is_before objects) entry (filter p entries) (each_kept (λ later. is_before objects later entry ≡ false) p entries h.0))
  by_test false rest = rest

-- of rules in order the first that matches is the first one there
pub first_in_order : (objects : FlowObjects) (headers : HeaderBytes) → InOrder objects objects.rules → first_rule objects headers ≡ find (λ entry. rule_matches objects headers entry.1) objects.rules
unfolding first_rule
first_in_order objects headers order = least_is_found objects (λ entry. rule_matches objects headers entry.1) objects.rules order

-- ---- the places of a table's rules

-- a group is there with its id as priority
pub group_is_held : (from count id : ℕ) → from ≤ id → id < from + count → object_under (map (λ g. (g, g)) (range_with_len from count)) id ≡ Some id
group_is_held from zero id low high = absurd (omega (arith, low, high))
group_is_held from (suc count) id low high =
    object_under-cons from from (map (λ g. (g, g)) (range_with_len (from + 1) count)) id ∙ ⊎_elim (λ (same : id ≡ from). rw (eq-eqb id from same) (ap Some (sym same))) (λ (apart : id ≡ from → ⊥). rw (ne_eqb id from apart) (group_is_held (from + 1) count id (above apart) (omega (arith, high)))) (cases_eq id from) where
      above : (id ≡ from → ⊥) → from + 1 ≤ id
      above apart = ⊎_elim (λ same. absurd (apart same)) (λ order. ⊎_elim (λ less. absurd (omega (arith, less, low))) (λ more. omega (arith, more)) order) (cases_order id from)

-- a place that comes later in its first two numbers isn't before
not_before : (a b c x y z : ℕ) → (x < a) ⊎ ((a ≡ x) × (y < b)) → is_lt (place_cmp (a, b, c) (x, y, z)) ≡ false
not_before a b c x y z (inl less) = rw (le-ltb a x (omega (arith, less)), ne_eqb a x (λ e. absurd (omega (arith, less, e)))) refl
not_before a b c x y z (inr h) =
    rw (le-ltb a x (omega (arith, h.0)), eq-eqb a x h.0, le-ltb b y (omega (arith, h.1)), ne_eqb b y (λ e. absurd (omega (arith, h.1, e)))) refl

-- of two numbers the later one has a later group, or a later priority in the same
later_place : (i j size : ℕ) → 0 < size → i < j → (i / size < j / size) ⊎ ((j / size ≡ i / size) × (i % size < j % size))
later_place i j size some less =
    let low = div-add-mod i size in
    let high = div-add-mod j size in
    let rises = le-div (i / size) j size some (omega (arith, less, div-mul-le_self i size)) in
    ⊎_elim (λ (same : j / size ≡ i / size). inr (same, omega (arith, low, high, less, ap (λ n. size * n) same))) (λ apart. inl (strict rises apart)) (cases_eq (j / size) (i / size)) where
      strict : i / size ≤ j / size → (j / size ≡ i / size → ⊥) → i / size < j / size
      strict rises apart = ⊎_elim (λ same. absurd (apart same)) (λ order. ⊎_elim (λ under. absurd (omega (arith, under, rises))) (λ over. over) order) (cases_order (j / size) (i / size))

-- the rules of specs, the first of which has this number
abbrev pub rules_from : ℕ → List SelectorList → ℕ → List Spec → List RuleEntry
rules_from size shapes from specs = map (λ e. (e.0, spec_rule size shapes e.0 e.1)) (enumerate_from from specs)

module _ (objects : FlowObjects) (count size : ℕ) (shapes : List SelectorList) (groups : objects.groups ≡ map (λ g. (g, g)) (range_with_len 0 count)) (some : 0 < size) where
  place_is : (i : ℕ) (spec : Spec) → i / size < count → place_of objects (i, spec_rule size shapes i spec) ≡ (i / size, i % size, i)
  place_is i spec held =
      let found : object_under objects.groups (i / size) ≡ Some (i / size) = rw groups (group_is_held 0 count (i / size) (omega arith) (omega (arith, held))) in
      ap (λ (o : Option ℕ). (unwrap_or o 0, i % size, i)) found

  none_before : (low : ℕ) (first : Spec) → low / size < count → (from : ℕ) (specs : List Spec) → low < from → ((k : ℕ) → k < from + length specs → k / size < count) → AllByRecursion (λ later. is_before objects later (low, spec_rule size shapes low first) ≡ false) (rules_from size shapes from specs)
  none_before low first held from [] less fits = tt
  none_before low first held from (spec ∷ specs) less fits =
      let late = place_is from spec (fits from (omega arith)) in
      let early = place_is low first held in
      let here : RuleEntry = (from, spec_rule size shapes from spec) in
      let there : RuleEntry = (low, spec_rule size shapes low first) in
      let placed : is_before objects here there ≡ is_lt (place_cmp (from / size, from % size, from) (low / size, low % size, low)) = ap (λ (p : Place). is_lt (place_cmp p (place_of objects there))) late ∙ ap (λ (p : Place). is_lt (place_cmp (from / size, from % size, from) p)) early in
      (placed ∙ not_before (from / size) (from % size) from (low / size) (low % size) low (later_place low from size some less), none_before low first held (from + 1) specs (omega (arith, less)) (λ k inside. fits k (omega (arith, inside))))

  pub rules_in_order : (from : ℕ) (specs : List Spec) → ((k : ℕ) → k < from + length specs → k / size < count) → InOrder objects (rules_from size shapes from specs)
  rules_in_order from [] fits = tt
  rules_in_order from (spec ∷ specs) fits =
      (none_before from spec (fits from (omega arith)) (from + 1) specs (omega arith) (λ k inside. fits k (omega (arith, inside))), rules_in_order (from + 1) specs (λ k inside. fits k (omega (arith, inside))))

-- every rule has a group
pub group_of_rule : (n size k : ℕ) → 0 < size → k < n → k / size < div_ceil n size
group_of_rule n size k some inside =
    let most = (div_ceil_times n size some).0 in
    ⊎_elim (λ less. less) (λ past. absurd (omega (arith, inside, most, (le-div_iff_mul-le {k = size} {x = div_ceil n size} {y = k} some).0 past))) (cases_lt (k / size) (div_ceil n size))

-- the rules that stand for specs are in order
pub objects_in_order : (limits : Limits) (specs : List Spec) → 0 < rules_per_group limits → InOrder (objects_of limits specs) (objects_of limits specs).rules
unfolding objects_of
objects_in_order limits specs some =
    rules_in_order (objects_of limits specs) (div_ceil (length specs) (rules_per_group limits)) (rules_per_group limits) (shapes_of specs) refl some 0 specs (λ k inside. group_of_rule (length specs) (rules_per_group limits) k some (omega (arith, inside)))
