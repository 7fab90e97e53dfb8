-- What a change of an index and its slots does to the entries of the map that they make.
use Rattle.std.proofs.Common.{◌≡◌, ◌≢◌, ℕ, zero, suc, Bool, cond, true, false, List, [], ◌∷◌, length, slice_get, Option, Some, None, IsSome, refl, sym, ap, ◌∙◌, subst, inl, inr, arith}
use Rattle.std.specs.BTreeMap.{insert_entry, is_at}
use Rattle.std.specs.List.{AllByRecursion}
use Rattle.std.specs.Map.{keys_of, lookup, remove_entry}
use Rattle.std.specs.Option.{option_map, option_and_then}
use Rattle.std.specs.Ordering.{nat_cmp}
use Rattle.std.specs.List.Sorted.{IsStrictlySortedBy}
use Rattle.std.proofs.lemmas.Bool.{cases_eq}
use Rattle.std.proofs.lemmas.Cmp.{nat_cmp_total}
use Rattle.std.proofs.lemmas.Map.{lookup-none}
use Rattle.std.proofs.lemmas.Map.Entries.{none_below_head}
use Rattle.std.proofs.lemmas.Map.Keys.{sorted_tail}
use Rattle.std.proofs.lemmas.Option.{same_Some}
use Rattle.res_objects.specs.Linked.{entries_of, IsLinked}
use Rattle.res_objects.proofs.Places.{compared, lesser, same, greater}

-- the object of a slot that holds one
pub held : {T : Type 0} (o : Option T) → IsSome o → (x : T) × (o ≡ Some x)
held None h = absurd (cc)
held (Some x) h = (x, refl)

module _ {T : Type 0} (f : ℕ → Option T) where
  pub length-entries_of : (es : List (ℕ × ℕ)) → IsLinked f es → length (entries_of f es) ≡ length es
  length-entries_of [] linked = refl
  length-entries_of (e ∷ es) linked = let h = held (f e.1) linked.0 in rw h.1 (grind (arith, length-entries_of es linked.2))

  pub keys-entries_of : (es : List (ℕ × ℕ)) → IsLinked f es → keys_of (entries_of f es) ≡ keys_of es
  keys-entries_of [] linked = refl
  keys-entries_of (e ∷ es) linked = let h = held (f e.1) linked.0 in rw h.1 (ap (λ l. e.0 ∷ l) (keys-entries_of es linked.2))

  pick : (b : Bool) (o : Option ℕ) (s : ℕ) (x : T) → f s ≡ Some x → cond b (Some x) (option_and_then f o) ≡ option_and_then f (cond b (Some s) o)
  pick true o s x h = sym h
  pick false o s x h = refl

  pub lookup-entries_of : (test : ℕ → Bool) (es : List (ℕ × ℕ)) → IsLinked f es → lookup test (entries_of f es) ≡ option_and_then f (lookup test es)
  lookup-entries_of test [] linked = refl
  lookup-entries_of test (e ∷ es) linked = let h = held (f e.1) linked.0 in rw (h.1, lookup-entries_of test es linked.2) (pick (test e.0) (lookup test es) e.1 h.0 h.1)

  pub slice_get-entries_of : (es : List (ℕ × ℕ)) (i : ℕ) → IsLinked f es → slice_get (entries_of f es) i ≡ option_and_then (λ e. option_map (λ object. (e.0, object)) (f e.1)) (slice_get es i)
  slice_get-entries_of [] i linked = refl
  slice_get-entries_of (e ∷ es) zero linked = let h = held (f e.1) linked.0 in rw h.1 refl
  slice_get-entries_of (e ∷ es) (suc i) linked = let h = held (f e.1) linked.0 in rw h.1 (slice_get-entries_of es i linked.2)

  -- each slot that the index names holds an object
  pub held_by_lookup : (test : ℕ → Bool) (es : List (ℕ × ℕ)) (slot : ℕ) → IsLinked f es → lookup test es ≡ Some slot → IsSome (f slot)
  held_by_lookup test [] slot linked h = absurd (cc)
  held_by_lookup test (e ∷ es) slot linked h = elim (test e.0) as (λ b. cond b (Some e.1) (lookup test es) ≡ Some slot → IsSome (f slot)) [
    | true ↦ λ found. let same : e.1 ≡ slot = grind arith in subst (λ s. IsSome (f s)) same linked.0
    | false ↦ λ later. held_by_lookup test es slot linked.2 later
  ] h

  pub held_at : (es : List (ℕ × ℕ)) (i : ℕ) (e : ℕ × ℕ) → IsLinked f es → slice_get es i ≡ Some e → IsSome (f e.1)
  held_at [] i e linked h = absurd (cc)
  held_at (d ∷ es) zero e linked h = let same : d ≡ e = grind arith in subst (λ (x : ℕ × ℕ). IsSome (f x.1)) same linked.0
  held_at (d ∷ es) (suc i) e linked h = held_at es i e linked.2 h

  -- a slot that holds nothing isn't named
  pub not_named : (slot : ℕ) (es : List (ℕ × ℕ)) → f slot ≡ None → IsLinked f es → AllByRecursion (λ e. e.1 ≢ slot) es
  not_named slot [] h linked = tt
  not_named slot (e ∷ es) h linked = (λ same. absurd (let k = held (f e.1) linked.0 in let l = ap f same in cc), not_named slot es h linked.2)

-- what holds of each slot that an index names
named_insert : (P : ℕ → Type 0) (es : List (ℕ × ℕ)) (id slot : ℕ) → P slot → AllByRecursion (λ e. P e.1) es → AllByRecursion (λ e. P e.1) (insert_entry nat_cmp es id slot)
named_insert P [] id slot here all = (here, tt)
named_insert P (e ∷ es) id slot here all = elim (compared id e.0) [
  | lesser lt r ↦ rw r (here, all)
  | same is r ↦ rw r (here, all.1)
  | greater gt r ↦ rw r (all.0, named_insert P es id slot here all.1)
]

named_remove : (P : ℕ → Type 0) (es : List (ℕ × ℕ)) (id : ℕ) → AllByRecursion (λ e. P e.1) es → AllByRecursion (λ e. P e.1) (remove_entry (is_at (nat_cmp id)) es)
named_remove P [] id all = tt
named_remove P (e ∷ es) id all = elim (compared id e.0) [
  | lesser lt r ↦ rw r (all.0, named_remove P es id all.1)
  | same is r ↦ rw r all.1
  | greater gt r ↦ rw r (all.0, named_remove P es id all.1)
]

named_found : (P : ℕ → Type 0) (test : ℕ → Bool) (es : List (ℕ × ℕ)) (slot : ℕ) → AllByRecursion (λ e. P e.1) es → lookup test es ≡ Some slot → P slot
named_found P test [] slot all h = absurd (cc)
named_found P test (e ∷ es) slot all h = elim (test e.0) as (λ b. cond b (Some e.1) (lookup test es) ≡ Some slot → P slot) [
  | true ↦ λ found. subst P (same_Some _ _ found) all.0
  | false ↦ λ later. named_found P test es slot all.1 later
] h

-- g has what f has in each slot but one
module _ {T : Type 0} (f g : ℕ → Option T) (slot : ℕ) (others : (other : ℕ) → other ≢ slot → g other ≡ f other) where
  -- an index that doesn't name that slot makes the same entries
  pub entries_of-unnamed : (es : List (ℕ × ℕ)) → AllByRecursion (λ e. e.1 ≢ slot) es → entries_of g es ≡ entries_of f es
  entries_of-unnamed [] apart = refl
  entries_of-unnamed (e ∷ es) apart = rw (others e.1 apart.0, entries_of-unnamed es apart.1) refl

  pub IsLinked-unnamed : (es : List (ℕ × ℕ)) → AllByRecursion (λ e. e.1 ≢ slot) es → IsLinked f es → IsLinked g es
  IsLinked-unnamed [] apart linked = tt
  IsLinked-unnamed (e ∷ es) apart linked = (rw (others e.1 apart.0) linked.0, linked.1, IsLinked-unnamed es apart.1 linked.2)

  -- an id with that slot is added: the map has its object, and else what it had
  pub entries_of-insert : (es : List (ℕ × ℕ)) (id : ℕ) (x : T) → g slot ≡ Some x → AllByRecursion (λ e. e.1 ≢ slot) es → IsLinked f es → entries_of g (insert_entry nat_cmp es id slot) ≡ insert_entry nat_cmp (entries_of f es) id x
  entries_of-insert [] id x here apart linked = rw here refl
  entries_of-insert (e ∷ es) id x here apart linked =
      let h = held (f e.1) linked.0 in
      let rest = entries_of-unnamed es apart.1 in
      let first : g e.1 ≡ Some h.0 = others e.1 apart.0 ∙ h.1 in
      elim (compared id e.0) [
        | lesser lt r ↦ rw (r, h.1) (rw (r, here, first, rest) refl)
        | same is r ↦ rw (r, h.1) (rw (r, here, rest) refl)
        | greater gt r ↦ rw (r, h.1) (rw (r, first, entries_of-insert es id x here apart.1 linked.2) refl)
      ]

  pub IsLinked-insert : (es : List (ℕ × ℕ)) (id : ℕ) → IsSome (g slot) → AllByRecursion (λ e. e.1 ≢ slot) es → IsLinked f es → IsLinked g (insert_entry nat_cmp es id slot)
  IsLinked-insert [] id here apart linked = (here, tt, tt)
  IsLinked-insert (e ∷ es) id here apart linked =
      let first : IsSome (g e.1) = rw (others e.1 apart.0) linked.0 in
      let rest = IsLinked-unnamed es apart.1 linked.2 in
      elim (compared id e.0) [
        | lesser lt r ↦ rw r (here, apart, (first, linked.1, rest))
        | same is r ↦ rw r (here, apart.1, rest)
        | greater gt r ↦ rw r (first, named_insert (λ s. s ≢ e.1) es id slot (λ k. apart.0 (sym k)) linked.1, IsLinked-insert es id here apart.1 linked.2)
      ]

  -- an id's slot has another object: the map has that one, and else what it had
  pub entries_of-replace : (es : List (ℕ × ℕ)) (id : ℕ) (x : T) → g slot ≡ Some x → lookup (is_at (nat_cmp id)) es ≡ Some slot → IsStrictlySortedBy nat_cmp (keys_of es) → IsLinked f es → entries_of g es ≡ insert_entry nat_cmp (entries_of f es) id x
  entries_of-replace [] id x here found sorted linked = absurd (cc)
  entries_of-replace (e ∷ es) id x here found sorted linked =
      let h = held (f e.1) linked.0 in
      elim (compared id e.0) [
        | lesser lt r ↦ absurd (let none = lookup-none _ (e ∷ es) (none_below_head nat_cmp_total id e es sorted r) in cc)
        | same is r ↦
            let slot_is : e.1 ≡ slot = same_Some _ _ (rw r at found) in
            let first : g e.1 ≡ Some x = rw slot_is here in
            let apart = subst (λ s. AllByRecursion (λ (d : ℕ × ℕ). d.1 ≢ s) es) slot_is linked.1 in
            rw (h.1, r, first, entries_of-unnamed es apart) refl
        | greater gt r ↦
            let later = rw r at found in
            let first : g e.1 ≡ Some h.0 = others e.1 (λ k. named_found (λ s. s ≢ e.1) _ es slot linked.1 later (sym k)) ∙ h.1 in
            rw (h.1, r, first, entries_of-replace es id x here later (sorted_tail nat_cmp _ _ sorted) linked.2) refl
      ]

  kept : IsSome (g slot) → (other : ℕ) → IsSome (f other) → IsSome (g other)
  kept here other some = elim (cases_eq other slot) [
    | inl is ↦ rw is here
    | inr apart ↦ rw (others other apart) some
  ]

  pub IsLinked-replace : (es : List (ℕ × ℕ)) → IsSome (g slot) → IsLinked f es → IsLinked g es
  IsLinked-replace [] here linked = tt
  IsLinked-replace (e ∷ es) here linked = (kept here e.1 linked.0, linked.1, IsLinked-replace es here linked.2)

  -- an id goes, and its slot is free: the map has the other entries
  pub entries_of-remove : (es : List (ℕ × ℕ)) (id : ℕ) → lookup (is_at (nat_cmp id)) es ≡ Some slot → IsLinked f es → entries_of g (remove_entry (is_at (nat_cmp id)) es) ≡ remove_entry (is_at (nat_cmp id)) (entries_of f es)
  entries_of-remove [] id found linked = absurd (cc)
  entries_of-remove (e ∷ es) id found linked =
      let h = held (f e.1) linked.0 in
      elim (compared id e.0) [
        | lesser lt r ↦
            let later = rw r at found in
            let first : g e.1 ≡ Some h.0 = others e.1 (λ k. named_found (λ s. s ≢ e.1) _ es slot linked.1 later (sym k)) ∙ h.1 in
            rw (h.1, r, first, entries_of-remove es id later linked.2) refl
        | same is r ↦
            let slot_is : e.1 ≡ slot = same_Some _ _ (rw r at found) in
            let apart = subst (λ s. AllByRecursion (λ (d : ℕ × ℕ). d.1 ≢ s) es) slot_is linked.1 in
            rw (h.1, r) (entries_of-unnamed es apart)
        | greater gt r ↦
            let later = rw r at found in
            let first : g e.1 ≡ Some h.0 = others e.1 (λ k. named_found (λ s. s ≢ e.1) _ es slot linked.1 later (sym k)) ∙ h.1 in
            rw (h.1, r, first, entries_of-remove es id later linked.2) refl
      ]

  pub IsLinked-remove : (es : List (ℕ × ℕ)) (id : ℕ) → lookup (is_at (nat_cmp id)) es ≡ Some slot → IsLinked f es → IsLinked g (remove_entry (is_at (nat_cmp id)) es)
  IsLinked-remove [] id found linked = absurd (cc)
  IsLinked-remove (e ∷ es) id found linked =
      elim (compared id e.0) [
        | lesser lt r ↦
            let later = rw r at found in
            let first : IsSome (g e.1) = rw (others e.1 (λ k. named_found (λ s. s ≢ e.1) _ es slot linked.1 later (sym k))) linked.0 in
            rw r (first, named_remove (λ s. s ≢ e.1) es id linked.1, IsLinked-remove es id later linked.2)
        | same is r ↦
            let slot_is : e.1 ≡ slot = same_Some _ _ (rw r at found) in
            let apart = subst (λ s. AllByRecursion (λ (d : ℕ × ℕ). d.1 ≢ s) es) slot_is linked.1 in
            rw r (IsLinked-unnamed es apart linked.2)
        | greater gt r ↦
            let later = rw r at found in
            let first : IsSome (g e.1) = rw (others e.1 (λ k. named_found (λ s. s ≢ e.1) _ es slot linked.1 later (sym k))) linked.0 in
            rw r (first, named_remove (λ s. s ≢ e.1) es id linked.1, IsLinked-remove es id later linked.2)
      ]
