-- What a search finds in a sorted index, and what an edit at that place does to it.
use Rattle.std.proofs.Common.{◌≡◌, ℕ, zero, suc, ◌+◌, ◌<◌, ◌≤◌, ◌^◌, List, [], ◌∷◌, length, get_or, insert, remove, Some, None, Result, Ok, Err, IfOk, IfErr, refl, sym, ap, inl, inr, arith}
use Rattle.std.specs.declared.cmp.Ordering.TheVariants.{Less, Equal, Greater}
use Rattle.std.specs.BTreeMap.{insert_entry, is_at}
use Rattle.std.specs.List.{AllByRecursion}
use Rattle.std.specs.List.Sorted.{IsStrictlySortedBy, IsSearchInRange, IsBinarySearchResult, IsNonDecreasingBy}
use Rattle.std.specs.Map.{keys_of, lookup, remove_entry}
use Rattle.std.specs.Ordering.{nat_cmp, ordering_index}
use Rattle.std.proofs.lemmas.Bool.{cases_lt}
use Rattle.std.proofs.lemmas.Bool.Decides.{nat_tests}
use Rattle.std.proofs.lemmas.Cmp.{ranked, nat_cmp_total}
use Rattle.std.proofs.lemmas.List.Elements.{All-from_recursion}
use Rattle.std.proofs.lemmas.List.Sorted.{IsNonDecreasingBy-from_default}
use Rattle.std.proofs.lemmas.Map.Keys.{below_from_sorted}
use Rattle.std.proofs.lemmas.Map.Entries.{length-keys_of}
use Rattle.std.proofs.lemmas.Map.Views.{length-le_from_below}
use Rattle.res_objects.specs.Places.{IsIdIndex, IsAt, IsGapFor, id_at}

-- how two ids compare
pub cmp_lesser : (a b : ℕ) → a < b → nat_cmp a b ≡ Less
cmp_lesser a b h = grind (arith, nat_tests)

pub cmp_same : (a b : ℕ) → a ≡ b → nat_cmp a b ≡ Equal
cmp_same a b h = grind (arith, nat_tests)

pub cmp_greater : (a b : ℕ) → b < a → nat_cmp a b ≡ Greater
cmp_greater a b h = grind (arith, nat_tests)

-- one of the three holds
pub data ComparesTo (a b : ℕ) : Type 0 where
  lesser : a < b → nat_cmp a b ≡ Less → ComparesTo a b
  same : a ≡ b → nat_cmp a b ≡ Equal → ComparesTo a b
  greater : b < a → nat_cmp a b ≡ Greater → ComparesTo a b

pub compared : (a b : ℕ) → ComparesTo a b
compared a b = elim (cases_lt a b) [
  | inl lt ↦ lesser lt (cmp_lesser a b lt)
  | inr le ↦ elim (cases_lt b a) [
    | inl gt ↦ greater gt (cmp_greater a b gt)
    | inr ge ↦ let is : a ≡ b = omega arith in same is (cmp_same a b is)
  ]
]

-- in the tail, a place is one lower
gap_tail : (e : ℕ × ℕ) (es : List (ℕ × ℕ)) (id i : ℕ) → IsGapFor (e ∷ es) id (suc i) → IsGapFor es id i
gap_tail e es id i gap = record {
  in_range = omega (arith, gap.in_range);
  lesser_before = λ k lt. gap.lesser_before (suc k) (omega arith);
  greater_after = λ k le lt. gap.greater_after (suc k) (omega arith) (omega arith);
}

-- a gap in front of all is one in front of the tail
gap_front : (e : ℕ × ℕ) (es : List (ℕ × ℕ)) (id : ℕ) → IsGapFor (e ∷ es) id 0 → IsGapFor es id 0
gap_front e es id gap = record {
  in_range = omega arith;
  lesser_before = λ k lt. absurd (omega arith);
  greater_after = λ k le lt. gap.greater_after (suc k) (omega arith) (omega arith);
}

at_tail : (e : ℕ × ℕ) (es : List (ℕ × ℕ)) (id i : ℕ) → IsAt (e ∷ es) id (suc i) → IsAt es id i
at_tail e es id i at = record {
  in_range = omega (arith, at.in_range);
  has_id = at.has_id;
  lesser_before = λ k lt. at.lesser_before (suc k) (omega arith);
}

-- the ids rise from place to place
id_at-keys : (es : List (ℕ × ℕ)) (i : ℕ) → id_at es i ≡ get_or (keys_of es) i 0
id_at-keys [] i = refl
id_at-keys (e ∷ es) zero = refl
id_at-keys (e ∷ es) (suc i) = id_at-keys es i

below_from_keys : (es : List (ℕ × ℕ)) (i j : ℕ) → i < j → j < length es → IsStrictlySortedBy nat_cmp (keys_of es) → id_at es i < id_at es j
below_from_keys es i j lt in_range sorted =
    rw (id_at-keys es i, id_at-keys es j) (below_from_sorted (keys_of es) i j 0 sorted lt (omega (arith, length-keys_of es, in_range)))

-- a search by halving ends at the id, or at the gap for it
module _ (index : List (ℕ × ℕ)) (sorted : IsStrictlySortedBy nat_cmp (keys_of index)) (id : ℕ) where
  rises : (i j : ℕ) → i < j → j < length index → id_at index i < id_at index j
  rises i j lt in_range = below_from_keys index i j lt in_range sorted

  comparisons_rise : IsNonDecreasingBy (λ entry. ordering_index (nat_cmp entry.0 id)) index
  comparisons_rise = IsNonDecreasingBy-from_default (λ entry. ordering_index (nat_cmp entry.0 id)) index (0, 0) (λ i j le in_range.
      let ids_rise : id_at index i ≤ id_at index j = grind (arith, rises i j, λ (same : i ≡ j). ap (id_at index) same) in
      grind (arith, nat_tests))

  pub searched : (r : Result ℕ ℕ) → IsSearchInRange r (length index) → IsBinarySearchResult (λ entry. nat_cmp entry.0 id) index r → record { found : IfOk r (IsAt index id); absent : IfErr r (IsGapFor index id) }
  searched (Ok at) in_range equal =
      let has : id_at index at ≡ id = ranked _ id _ (sym (equal (0, 0))) in
      record { found = record { in_range = in_range; has_id = has; lesser_before = λ k lt. grind (arith, rises k at lt in_range, has) }; absent = tt }
  searched (Err at) in_range parted = record {
    found = tt;
    absent = record {
      in_range = in_range;
      lesser_before = λ k lt. ranked _ id _ (sym ((parted comparisons_rise).0 k (0, 0) (omega arith) lt));
      greater_after = λ k le lt. ranked _ id _ (sym ((parted comparisons_rise).1 k (0, 0) le lt));
    };
  }

-- the slot at the place is the id's
pub lookup_at : (es : List (ℕ × ℕ)) (id i : ℕ) → IsAt es id i → lookup (is_at (nat_cmp id)) es ≡ Some (get_or es i (0, 0)).1
lookup_at [] id i at = absurd (omega (arith, at.in_range))
lookup_at (e ∷ es) id zero at = rw (cmp_same id e.0 (sym at.has_id)) refl
lookup_at (e ∷ es) id (suc i) at = rw (cmp_greater id e.0 (at.lesser_before 0 (omega arith))) (lookup_at es id i (at_tail e es id i at))

pub remove_at : (es : List (ℕ × ℕ)) (id i : ℕ) → IsAt es id i → remove es i ≡ remove_entry (is_at (nat_cmp id)) es
remove_at [] id i at = absurd (omega (arith, at.in_range))
remove_at (e ∷ es) id zero at = rw (cmp_same id e.0 (sym at.has_id)) refl
remove_at (e ∷ es) id (suc i) at = rw (cmp_greater id e.0 (at.lesser_before 0 (omega arith))) (ap (λ l. e ∷ l) (remove_at es id i (at_tail e es id i at)))

-- an id with a gap isn't held
pub lookup_gap : (es : List (ℕ × ℕ)) (id i : ℕ) → IsGapFor es id i → lookup (is_at (nat_cmp id)) es ≡ None
lookup_gap [] id i gap = refl
lookup_gap (e ∷ es) id zero gap = rw (cmp_lesser id e.0 (gap.greater_after 0 (omega arith) (omega arith))) (lookup_gap es id zero (gap_front e es id gap))
lookup_gap (e ∷ es) id (suc i) gap = rw (cmp_greater id e.0 (gap.lesser_before 0 (omega arith))) (lookup_gap es id i (gap_tail e es id i gap))

pub insert_gap : (es : List (ℕ × ℕ)) (id slot i : ℕ) → IsGapFor es id i → insert es i (id, slot) ≡ insert_entry nat_cmp es id slot
insert_gap [] id slot zero gap = refl
insert_gap [] id slot (suc i) gap = absurd (omega (arith, gap.in_range))
insert_gap (e ∷ es) id slot zero gap = rw (cmp_lesser id e.0 (gap.greater_after 0 (omega arith) (omega arith))) refl
insert_gap (e ∷ es) id slot (suc i) gap = rw (cmp_greater id e.0 (gap.lesser_before 0 (omega arith))) (ap (λ l. e ∷ l) (insert_gap es id slot i (gap_tail e es id i gap)))

-- what holds of an index's ids, one by one
ids_insert : (P : ℕ → Type 0) (es : List (ℕ × ℕ)) (id slot : ℕ) → P id → AllByRecursion P (keys_of es) → AllByRecursion P (keys_of (insert_entry nat_cmp es id slot))
ids_insert P [] id slot here all = (here, tt)
ids_insert P (e ∷ es) id slot here all = elim (compared id e.0) [
  | lesser lt h ↦ rw h (here, all)
  | same is h ↦ rw h all
  | greater gt h ↦ rw h (all.0, ids_insert P es id slot here all.1)
]

ids_remove : (P : ℕ → Type 0) (es : List (ℕ × ℕ)) (id : ℕ) → AllByRecursion P (keys_of es) → AllByRecursion P (keys_of (remove_entry (is_at (nat_cmp id)) es))
ids_remove P [] id all = tt
ids_remove P (e ∷ es) id all = elim (compared id e.0) [
  | lesser lt h ↦ rw h (all.0, ids_remove P es id all.1)
  | same is h ↦ rw h all.1
  | greater gt h ↦ rw h (all.0, ids_remove P es id all.1)
]

ids_map : (P Q : ℕ → Type 0) → ((x : ℕ) → P x → Q x) → (xs : List ℕ) → AllByRecursion P xs → AllByRecursion Q xs
ids_map P Q f [] all = tt
ids_map P Q f (x ∷ xs) all = (f x all.0, ids_map P Q f xs all.1)

cmp_trans : (a b x : ℕ) → nat_cmp a b ≡ Less → nat_cmp b x ≡ Less → nat_cmp a x ≡ Less
cmp_trans a b x h k = nat_cmp_total.trans a b x h k

-- the ids stay in order
sorted_insert : (es : List (ℕ × ℕ)) (id slot : ℕ) → IsStrictlySortedBy nat_cmp (keys_of es) → IsStrictlySortedBy nat_cmp (keys_of (insert_entry nat_cmp es id slot))
unfolding IsStrictlySortedBy
sorted_insert [] id slot sorted = (tt, tt)
sorted_insert (e ∷ es) id slot sorted = elim (compared id e.0) [
  | lesser lt h ↦ rw h ((h, ids_map (λ x. nat_cmp e.0 x ≡ Less) (λ x. nat_cmp id x ≡ Less) (λ x k. cmp_trans id e.0 x h k) (keys_of es) sorted.0), sorted)
  | same is h ↦ rw h sorted
  | greater gt h ↦ rw h (ids_insert (λ x. nat_cmp e.0 x ≡ Less) es id slot (cmp_lesser e.0 id gt) sorted.0, sorted_insert es id slot sorted.1)
]

sorted_remove : (es : List (ℕ × ℕ)) (id : ℕ) → IsStrictlySortedBy nat_cmp (keys_of es) → IsStrictlySortedBy nat_cmp (keys_of (remove_entry (is_at (nat_cmp id)) es))
unfolding IsStrictlySortedBy
sorted_remove [] id sorted = tt
sorted_remove (e ∷ es) id sorted = elim (compared id e.0) [
  | lesser lt h ↦ rw h (ids_remove (λ x. nat_cmp e.0 x ≡ Less) es id sorted.0, sorted_remove es id sorted.1)
  | same is h ↦ rw h sorted.1
  | greater gt h ↦ rw h (ids_remove (λ x. nat_cmp e.0 x ≡ Less) es id sorted.0, sorted_remove es id sorted.1)
]

-- the invariant of an index stays
pub IsIdIndex-none : IsIdIndex []
unfolding IsStrictlySortedBy
IsIdIndex-none = record { ordered = tt; small = tt }

pub IsIdIndex-insert_entry : (es : List (ℕ × ℕ)) (id slot : ℕ) → id < 2 ^ 32 → IsIdIndex es → IsIdIndex (insert_entry nat_cmp es id slot)
IsIdIndex-insert_entry es id slot fits index = record { ordered = sorted_insert es id slot index.ordered; small = ids_insert (λ x. x < 2 ^ 32) es id slot fits index.small }

pub IsIdIndex-remove_entry : (es : List (ℕ × ℕ)) (id : ℕ) → IsIdIndex es → IsIdIndex (remove_entry (is_at (nat_cmp id)) es)
IsIdIndex-remove_entry es id index = record { ordered = sorted_remove es id index.ordered; small = ids_remove (λ x. x < 2 ^ 32) es id index.small }

-- how many entries there are after an edit
pub length-insert_entry : {X : Type 0} (es : List (ℕ × X)) (id : ℕ) (x : X) → lookup (is_at (nat_cmp id)) es ≡ None → length (insert_entry nat_cmp es id x) ≡ length es + 1
length-insert_entry [] id x absent = refl
length-insert_entry (e ∷ es) id x absent = elim (compared id e.0) [
  | lesser lt h ↦ rw h (omega arith)
  | same is h ↦ absurd (let held = rw h at absent in cc)
  | greater gt h ↦ let rest = rw h at absent in rw h (omega (arith, length-insert_entry es id x rest))
]

pub length-remove_entry : {X : Type 0} (es : List (ℕ × X)) (id : ℕ) (x : X) → lookup (is_at (nat_cmp id)) es ≡ Some x → length (remove_entry (is_at (nat_cmp id)) es) + 1 ≡ length es
length-remove_entry [] id x held = absurd (cc)
length-remove_entry (e ∷ es) id x held = elim (compared id e.0) [
  | lesser lt h ↦ let rest = rw h at held in rw h (omega (arith, length-remove_entry es id x rest))
  | same is h ↦ rw h (omega arith)
  | greater gt h ↦ let rest = rw h at held in rw h (omega (arith, length-remove_entry es id x rest))
]

-- without an id that isn't held, nothing changes
pub remove_entry-absent : {X : Type 0} (es : List (ℕ × X)) (id : ℕ) → lookup (is_at (nat_cmp id)) es ≡ None → remove_entry (is_at (nat_cmp id)) es ≡ es
remove_entry-absent [] id absent = refl
remove_entry-absent (e ∷ es) id absent = elim (compared id e.0) [
  | lesser lt h ↦ let rest = rw h at absent in rw h (ap (λ l. e ∷ l) (remove_entry-absent es id rest))
  | same is h ↦ absurd (let held = rw h at absent in cc)
  | greater gt h ↦ let rest = rw h at absent in rw h (ap (λ l. e ∷ l) (remove_entry-absent es id rest))
]

-- there are 2^32 ids, so fewer are held where one isn't
pub spare_id : (es : List (ℕ × ℕ)) (id : ℕ) → id < 2 ^ 32 → IsIdIndex es → lookup (is_at (nat_cmp id)) es ≡ None → length es < 2 ^ 32
spare_id es id fits index absent =
    let more = IsIdIndex-insert_entry es id 0 fits index in
    let most = length-le_from_below (2 ^ 32) (keys_of (insert_entry nat_cmp es id 0)) more.ordered (All-from_recursion (λ x. x < 2 ^ 32) _ more.small) in
    omega (arith, most, length-keys_of (insert_entry nat_cmp es id 0), length-insert_entry es id 0 absent)
