-- A finite map as its entries by rising number: what is held after an entry is set or removed.
use Rattle.std.proofs.Common.{◌≡◌, ℕ, suc, ◌+◌, ◌<◌, ◌≤◌, Bool, true, false, cond, eqb, ltb, List, [], ◌∷◌, length, Some, None, refl, sym, ap, ◌∙◌, subst, arith, Contains, All}
use Rattle.std.specs.Prelude.{is_some}
use Rattle.std.specs.List.{list_any}
use Rattle.std.specs.List.Sorted.{IsStrictlySortedBy}
use Rattle.std.specs.Map.{keys_of}
use Rattle.std.specs.Ordering.{nat_cmp, match_ordering}
use Rattle.std.specs.declared.cmp.Ordering.TheVariants.{Less, Equal, Greater}
use Rattle.std.specs.BTreeMap.{is_at}
use Rattle.std.specs.Cmp.{nat_cmp_total}
use Rattle.std.proofs.lemmas.Bool.Decides.{nat_tests}
use Rattle.std.proofs.lemmas.List.Elements.{All-from_recursion, recursion_from_All, All-nil, All-cons, All-weaker}
use Rattle.std.proofs.lemmas.Cmp.{eq_by_cmp_equiv}
use Rattle.std.proofs.lemmas.Option.{slice_get_read}
use Rattle.std.proofs.lemmas.Map.Entries.{lookup_from_place, none_below_head}
use Rattle.std.proofs.lemmas.List.Folds.{list_any_at}
use Rattle.std.proofs.lemmas.Map.{lookup-none, lookup-remove_entry}
use Rattle.std.proofs.lemmas.Map.Keys.{sorted_head, sorted_tail, IsDistinct-from_sorted}
use Rattle.std.proofs.lemmas.Map.Views.{All-keys-insert_entry, All-map-remove_entry}
use Rattle.ff_headers.specs.Objects.{object_under, IsById}
use Rattle.ff_headers.specs.Changes.{put, without}

is_at-nat : (id key : ℕ) → is_at (nat_cmp id) key ≡ eqb id key
is_at-nat id key = grind (arith, nat_tests)

ordering_cases : {A : Type 0} (m n : ℕ) (x y z : A) → match_ordering (nat_cmp m n) x y z ≡ cond (ltb m n) x (cond (eqb m n) y z)
ordering_cases m n x y z = by (ltb m n) (eqb m n) where
  by : (b c : Bool) → match_ordering (cond b Less (cond c Equal Greater)) x y z ≡ cond b x (cond c y z)
  by true c = refl
  by false true = refl
  by false false = refl

pub less_from : (a b : ℕ) → a < b → nat_cmp a b ≡ Less
less_from a b h = grind (arith, nat_tests)

less_trans : (a b c : ℕ) → a < b → nat_cmp b c ≡ Less → a < c
less_trans a b c h k = grind (arith, nat_tests)

same_test : (id x y : ℕ) → is_at (nat_cmp id) x ≡ true → is_at (nat_cmp id) y ≡ is_at (nat_cmp x) y
same_test id x y h =
    let p = is_at-nat id x in
    let q = is_at-nat id y in
    let r = is_at-nat x y in
    grind (arith, nat_tests)

module _ {X : Type 0} where
  pub object_under-cons : (key : ℕ) (value : X) (es : List (ℕ × X)) (id : ℕ) → object_under ((key, value) ∷ es) id ≡ cond (eqb id key) (Some value) (object_under es id)
  object_under-cons key value es id = ap (λ b. cond b (Some value) (object_under es id)) (is_at-nat id key)

  pub put-cons : (key : ℕ) (value : X) (es : List (ℕ × X)) (id : ℕ) (x : X) → put ((key, value) ∷ es) id x ≡ cond (ltb id key) ((id, x) ∷ (key, value) ∷ es) (cond (eqb id key) ((key, x) ∷ es) ((key, value) ∷ put es id x))
  put-cons key value es id x = ordering_cases id key ((id, x) ∷ (key, value) ∷ es) ((key, x) ∷ es) ((key, value) ∷ put es id x)

  pub without-cons : (key : ℕ) (value : X) (es : List (ℕ × X)) (id : ℕ) → without ((key, value) ∷ es) id ≡ cond (eqb id key) es ((key, value) ∷ without es id)
  without-cons key value es id = ap (λ b. cond b es ((key, value) ∷ without es id)) (is_at-nat id key)

  -- an entry of the list is held, and one that is held is in the list
  pub held_from_entry : (es : List (ℕ × X)) (entry : ℕ × X) → IsById es → Contains es entry → object_under es entry.0 ≡ Some entry.1
  held_from_entry es entry sorted has =
      let laws = eq_by_cmp_equiv nat_cmp_total in
      let apart = IsDistinct-from_sorted nat_cmp (keys_of es) sorted in
      lookup_from_place laws es has.0 entry.0 entry.1 apart (slice_get_read es (length es) has.0 entry refl has.1 (sym has.2))

  pair_eq : {a b : ℕ} {x y : X} → a ≡ b → x ≡ y → let p : ℕ × X = (a, x) in let q : ℕ × X = (b, y) in p ≡ q
  pair_eq e f = cc

  pub entry_from_held : (es : List (ℕ × X)) (id : ℕ) (x : X) → object_under es id ≡ Some x → Contains es (id, x)
  entry_from_held [] id x h = absurd cc
  entry_from_held (e ∷ es) id x h = found (eqb id e.0) refl (sym (object_under-cons e.0 e.1 es id) ∙ h) (entry_from_held es id x) where
    found : (b : Bool) → eqb id e.0 ≡ b → cond b (Some e.1) (object_under es id) ≡ Some x → (object_under es id ≡ Some x → Contains es (id, x)) → Contains (e ∷ es) (id, x)
    found true same is later =
        let key : id ≡ e.0 = grind (arith, nat_tests) in
        (0, omega arith, pair_eq (sym key) cc)
    found false same is later = let rest = later is in (suc rest.0, omega arith, rest.2)

  -- ---- an entry that is set

  object_under-put_step : (key : ℕ) (value : X) (es : List (ℕ × X)) (id : ℕ) (x : X) (q : ℕ) → object_under (put es id x) q ≡ cond (eqb q id) (Some x) (object_under es q) → object_under (put ((key, value) ∷ es) id x) q ≡ cond (eqb q id) (Some x) (object_under ((key, value) ∷ es) q)
  object_under-put_step key value es id x q later =
      let p = put-cons key value es id x in
      let a = object_under-cons id x ((key, value) ∷ es) q in
      let b = object_under-cons key x es q in
      let c = object_under-cons key value (put es id x) q in
      let d = object_under-cons key value es q in
      grind (arith, nat_tests)

  -- what is held once an object is put
  pub object_under-put : (es : List (ℕ × X)) (id : ℕ) (x : X) (q : ℕ) → object_under (put es id x) q ≡ cond (eqb q id) (Some x) (object_under es q)
  object_under-put [] id x q = object_under-cons id x [] q
  object_under-put (e ∷ es) id x q = object_under-put_step e.0 e.1 es id x q (object_under-put es id x q)

  -- each id of the entries is above a number
  abbrev AllAbove : ℕ → List (ℕ × X) → Type 0
  AllAbove low es = All (λ (k : ℕ). nat_cmp low k ≡ Less) (keys_of es)

  rising : (e : ℕ × X) (es : List (ℕ × X)) → AllAbove e.0 es → IsById es → IsById (e ∷ es)
  unfolding IsStrictlySortedBy
  rising e es above sorted = (recursion_from_All (λ (k : ℕ). nat_cmp e.0 k ≡ Less) (keys_of es) above, sorted)

  above_head : (e : ℕ × X) (es : List (ℕ × X)) → IsById (e ∷ es) → AllAbove e.0 es
  above_head e es sorted = All-from_recursion (λ (k : ℕ). nat_cmp e.0 k ≡ Less) (keys_of es) (sorted_head nat_cmp e.0 (keys_of es) sorted)

  above_lower : (low high : ℕ) (es : List (ℕ × X)) → low < high → AllAbove high es → AllAbove low es
  above_lower low high es lt above = All-weaker (λ (k : ℕ). nat_cmp high k ≡ Less) (λ (k : ℕ). nat_cmp low k ≡ Less) (λ k h. less_from low k (less_trans low high k lt h)) (keys_of es) above

  -- the ids rise once an object is put
  pub IsById-put : (es : List (ℕ × X)) (id : ℕ) (x : X) → IsById es → IsById (put es id x)
  IsById-put [] id x sorted = rising (id, x) [] (All-nil (λ (k : ℕ). nat_cmp id k ≡ Less)) sorted
  IsById-put (e ∷ es) id x sorted = subst IsById (sym (put-cons e.0 e.1 es id x)) (by_place (ltb id e.0) (eqb id e.0) refl refl (IsById-put es id x (sorted_tail nat_cmp e.0 (keys_of es) sorted))) where
    by_place : (b c : Bool) → ltb id e.0 ≡ b → eqb id e.0 ≡ c → IsById (put es id x) → IsById (cond b ((id, x) ∷ e ∷ es) (cond c ((e.0, x) ∷ es) (e ∷ put es id x)))
    by_place true c lt same later =
        let below : id < e.0 = grind (arith, nat_tests) in
        rising (id, x) (e ∷ es) (All-cons (λ (k : ℕ). nat_cmp id k ≡ Less) e.0 (keys_of es) (less_from id e.0 below) (above_lower id e.0 es below (above_head e es sorted))) sorted
    by_place false true lt same later = sorted
    by_place false false lt same later =
        let above : e.0 < id = grind (arith, nat_tests) in
        rising e (put es id x) (All-keys-insert_entry nat_cmp id x (λ (k : ℕ). nat_cmp e.0 k ≡ Less) es (above_head e es sorted) (less_from e.0 id above)) later

  pub length-put_le : (es : List (ℕ × X)) (id : ℕ) (x : X) → length (put es id x) ≤ length es + 1
  length-put_le [] id x = omega arith
  length-put_le (e ∷ es) id x = subst (λ (r : List (ℕ × X)). length r ≤ suc (length es) + 1) (sym (put-cons e.0 e.1 es id x)) (by_place (ltb id e.0) (eqb id e.0) (length-put_le es id x)) where
    by_place : (b c : Bool) → length (put es id x) ≤ length es + 1 → length (cond b ((id, x) ∷ e ∷ es) (cond c ((e.0, x) ∷ es) (e ∷ put es id x))) ≤ suc (length es) + 1
    by_place true c later = omega arith
    by_place false true later = omega arith
    by_place false false later = omega arith

  pub length-put_held : (es : List (ℕ × X)) (id : ℕ) (x : X) → IsById es → is_some (object_under es id) ≡ true → length (put es id x) ≡ length es
  length-put_held [] id x sorted has = absurd cc
  length-put_held (e ∷ es) id x sorted has = ap length (put-cons e.0 e.1 es id x) ∙ by_place (ltb id e.0) (eqb id e.0) refl refl (length-put_held es id x (sorted_tail nat_cmp e.0 (keys_of es) sorted)) where
    by_place : (b c : Bool) → ltb id e.0 ≡ b → eqb id e.0 ≡ c → (is_some (object_under es id) ≡ true → length (put es id x) ≡ length es) → length (cond b ((id, x) ∷ e ∷ es) (cond c ((e.0, x) ∷ es) (e ∷ put es id x))) ≡ suc (length es)
    by_place true c lt same later =
        let below : id < e.0 = grind (arith, nat_tests) in
        let none = lookup-none (is_at (nat_cmp id)) (e ∷ es) (none_below_head nat_cmp_total id e es sorted (less_from id e.0 below)) in
        absurd cc
    by_place false true lt same later = refl
    by_place false false lt same later =
        let off : object_under (e ∷ es) id ≡ object_under es id = object_under-cons e.0 e.1 es id ∙ ap (λ b. cond b (Some e.1) (object_under es id)) same in
        ap suc (later (sym (ap is_some off) ∙ has))

  -- ---- an entry that is removed

  pub object_under-without : (es : List (ℕ × X)) (id q : ℕ) → IsById es → object_under (without es id) q ≡ cond (eqb id q) None (object_under es q)
  object_under-without es id q sorted =
      lookup-remove_entry (eq_by_cmp_equiv nat_cmp_total) (is_at (nat_cmp id)) (λ x y e. same_test id x y e) q es (IsDistinct-from_sorted nat_cmp (keys_of es) sorted) ∙ ap (λ b. cond b None (object_under es q)) (is_at-nat id q)

  pub IsById-without : (es : List (ℕ × X)) (id : ℕ) → IsById es → IsById (without es id)
  IsById-without [] id sorted = sorted
  IsById-without (e ∷ es) id sorted = subst IsById (sym (without-cons e.0 e.1 es id)) (by_test (eqb id e.0) (IsById-without es id (sorted_tail nat_cmp e.0 (keys_of es) sorted))) where
    by_test : (b : Bool) → IsById (without es id) → IsById (cond b es (e ∷ without es id))
    by_test true later = sorted_tail nat_cmp e.0 (keys_of es) sorted
    by_test false later = rising e (without es id) (All-map-remove_entry (is_at (nat_cmp id)) (λ (f : ℕ × X). f.0) (λ (k : ℕ). nat_cmp e.0 k ≡ Less) es (above_head e es sorted)) later

  pub length-without : (es : List (ℕ × X)) (id : ℕ) → length (without es id) ≤ length es
  length-without [] id = omega arith
  length-without (e ∷ es) id = subst (λ (r : List (ℕ × X)). length r ≤ suc (length es)) (sym (without-cons e.0 e.1 es id)) (by_test (eqb id e.0) (length-without es id)) where
    by_test : (b : Bool) → length (without es id) ≤ length es → length (cond b es (e ∷ without es id)) ≤ suc (length es)
    by_test true later = omega arith
    by_test false later = omega arith

  -- ---- tests of all entries

  -- a test that no entry passes fails at each object that is held
  pub fails_at_held : (p : ℕ × X → Bool) (es : List (ℕ × X)) (id : ℕ) (x : X) → list_any p es ≡ false → object_under es id ≡ Some x → p (id, x) ≡ false
  fails_at_held p es id x none h = by_test (p (id, x)) refl where
    by_test : (b : Bool) → p (id, x) ≡ b → p (id, x) ≡ false
    by_test true e =
        let has = entry_from_held es id x h in
        let any = list_any_at p es has.0 (id, x) has.1 (ap p has.2 ∙ e) in
        absurd cc
    by_test false e = e
