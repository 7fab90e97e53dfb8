-- Maps of objects with their counts: what an edit does to the objects and to the counts.
use Rattle.std.proofs.Common.{◌≡◌, ℕ, ◌+◌, ◌-◌, ◌<◌, Bool, true, false, cond, eqb, ltb, List, [], ◌∷◌, length, Option, Some, None, Result, Ok, Err, refl, sym, ap, ◌∙◌, arith, suc}
use Rattle.std.specs.Prelude.{is_some, IsSome, OnOk, OnErr, option_map}
use Rattle.std.specs.Borrow.{Bor}
use Rattle.std.specs.Option.{ok_or, option_map_or, option_copied}
use Rattle.std.specs.Ordering.{nat_cmp}
use Rattle.std.specs.BTreeMap.{is_at}
use Rattle.std.proofs.lemmas.Bool.Decides.{nat_tests}
use Rattle.std.proofs.lemmas.Map.Made.{lookup-map_values, keys_of-map_values}
use Rattle.ff_headers.specs.Objects.{object_under, IsById}
use Rattle.ff_headers.specs.Changes.{put, without, has_room}
use Rattle.ff_headers.proofs.EntryLemmas.{put-cons, without-cons, object_under-put, object_under-without}
use Rattle.res_objects.specs.BoundedMap.{BoundedMap, object_of, without_object}
use Rattle.res_objects.specs.declared.error.ObjErr.{ObjErr}
use Rattle.res_objects.specs.declared.error.ObjErr.TheVariants.{Missing}
use Rattle.res_objects.proofs.Places.{remove_entry-absent}
use Rattle.ff_store.specs.Counts.{objects_of, count_of}
use Rattle.ff_store.specs.declared.counted.Counted.{Counted}
use Rattle.ff_store.proofs.EntryLemmas.{put-held}

-- a removal that may find nothing
pub removed : {T : Type 0} (before after : BoundedMap T) (id : ℕ) (r : Result T ObjErr) → r ≡ ok_or (object_of before id) Missing → OnOk r (after ≡ without_object before id) → OnErr r (after ≡ before) → after ≡ without_object before id
removed {T} before after id r is ok err = by_held (object_of before id) r refl is ok err where
  by_held : (o : Option T) (r : Result T ObjErr) → object_of before id ≡ o → r ≡ ok_or o Missing → OnOk r (after ≡ without_object before id) → OnErr r (after ≡ before) → after ≡ without_object before id
  by_held o (Ok x) has is ok err = ok
  by_held (Some x) (Err e) has is ok err = absurd cc
  by_held None (Err e) has is ok err = err ∙ ap (λ (es : List (ℕ × T)). let m : BoundedMap T = record { entries = es; room = before.room } in m) (sym (remove_entry-absent before.entries id has))

-- what a call left that succeeded
pub on_ok : {T E : Type 0} {P : Type 0} (r : Result T E) (x : T) → r ≡ Ok x → OnOk r P → P
on_ok (Ok y) x h p = p
on_ok (Err e) x h p = absurd cc

is_some-copied : {X : Type 0} (o : Option (Bor X)) → is_some (option_copied o) ≡ is_some o
is_some-copied None = refl
is_some-copied (Some x) = refl

is_some-map : {A B : Type 0} (f : A → B) (o : Option A) → is_some (option_map f o) ≡ is_some o
is_some-map f None = refl
is_some-map f (Some x) = refl

module _ {T : Type 0} where
  -- ---- the objects

  pub object_under-objects : (es : List (ℕ × Counted T)) (id : ℕ) → object_under (objects_of es) id ≡ option_map (λ c. c.object) (object_under es id)
  object_under-objects es id = lookup-map_values (λ c. c.object) (is_at (nat_cmp id)) es

  pub some-objects : (es : List (ℕ × Counted T)) (id : ℕ) → is_some (object_under (objects_of es) id) ≡ is_some (object_under es id)
  some-objects es id = ap is_some (object_under-objects es id) ∙ is_some-map (λ c. c.object) (object_under es id)

  pub length-objects : (es : List (ℕ × Counted T)) → length (objects_of es) ≡ length es
  length-objects [] = refl
  length-objects (e ∷ es) = ap suc (length-objects es)

  pub room-objects : (es : List (ℕ × Counted T)) (id limit : ℕ) → has_room (objects_of es) id limit ≡ has_room es id limit
  room-objects es id limit = rw (some-objects es id, length-objects es) refl

  pub objects-put : (es : List (ℕ × Counted T)) (id : ℕ) (c : Counted T) → objects_of (put es id c) ≡ put (objects_of es) id c.object
  objects-put [] id c = refl
  objects-put (e ∷ es) id c = ap objects_of (put-cons e.0 e.1 es id c) ∙ (by_place (ltb id e.0) (eqb id e.0) (objects-put es id c) ∙ sym (put-cons e.0 e.1.object (objects_of es) id c.object)) where
    by_place : (a b : Bool) → objects_of (put es id c) ≡ put (objects_of es) id c.object → objects_of (cond a ((id, c) ∷ e ∷ es) (cond b ((e.0, c) ∷ es) (e ∷ put es id c))) ≡ cond a ((id, c.object) ∷ objects_of (e ∷ es)) (cond b ((e.0, c.object) ∷ objects_of es) ((e.0, e.1.object) ∷ put (objects_of es) id c.object))
    by_place true b later = refl
    by_place false true later = refl
    by_place false false later = ap (λ (l : List (ℕ × T)). (e.0, e.1.object) ∷ l) later

  pub objects-without : (es : List (ℕ × Counted T)) (id : ℕ) → objects_of (without es id) ≡ without (objects_of es) id
  objects-without [] id = refl
  objects-without (e ∷ es) id = ap objects_of (without-cons e.0 e.1 es id) ∙ (by_test (eqb id e.0) (objects-without es id) ∙ sym (without-cons e.0 e.1.object (objects_of es) id)) where
    by_test : (b : Bool) → objects_of (without es id) ≡ without (objects_of es) id → objects_of (cond b es (e ∷ without es id)) ≡ cond b (objects_of es) ((e.0, e.1.object) ∷ without (objects_of es) id)
    by_test true later = refl
    by_test false later = ap (λ (l : List (ℕ × T)). (e.0, e.1.object) ∷ l) later

  -- the objects stay where the count alone changes
  pub objects-recount : (es : List (ℕ × Counted T)) (id : ℕ) (c d : Counted T) → IsById es → object_under es id ≡ Some c → d.object ≡ c.object → objects_of (put es id d) ≡ objects_of es
  objects-recount es id c d rising has same =
      objects-put es id d ∙ (put-held (objects_of es) id d.object (rw (keys_of-map_values (λ (x : Counted T). x.object) es) rising) (object_under-objects es id ∙ (ap (option_map (λ (x : Counted T). x.object)) has ∙ ap Some (sym same))))

  -- a reference to what is held
  pub found : (es : List (ℕ × Counted T)) (id : ℕ) (o : Option (Bor (Counted T))) (c : Bor (Counted T)) → option_copied o ≡ object_under es id → o ≡ Some c → object_under es id ≡ Some c.now
  found es id o c value is = sym value ∙ ap option_copied is

  pub is_found : (es : List (ℕ × Counted T)) (id : ℕ) (o : Option (Bor (Counted T))) → option_copied o ≡ object_under es id → IsSome (object_under (objects_of es) id) → IsSome o
  is_found es id o value has = sym (is_some-copied o) ∙ (ap is_some value ∙ (sym (some-objects es id) ∙ has))

  -- ---- the counts

  pub count-put : (es : List (ℕ × Counted T)) (id : ℕ) (c : Counted T) (q : ℕ) → count_of (put es id c) q ≡ cond (eqb q id) c.rules (count_of es q)
  count-put es id c q = ap (λ (o : Option (Counted T)). option_map_or (λ x. x.rules) o 0) (object_under-put es id c q) ∙ by_test (eqb q id) where
    by_test : (b : Bool) → option_map_or (λ x. x.rules) (cond b (Some c) (object_under es q)) 0 ≡ cond b c.rules (count_of es q)
    by_test true = refl
    by_test false = refl

  count-at : (es : List (ℕ × Counted T)) (id : ℕ) (c : Counted T) → object_under es id ≡ Some c → count_of es id ≡ c.rules
  count-at es id c has = ap (λ (o : Option (Counted T)). option_map_or (λ x. x.rules) o 0) has

  -- a put with the count that stood there
  pub count-kept : (es : List (ℕ × Counted T)) (id : ℕ) (c : Counted T) (q : ℕ) → c.rules ≡ count_of es id → count_of (put es id c) q ≡ count_of es q
  count-kept es id c q same = count-put es id c q ∙ by_test (eqb q id) refl where
    by_test : (b : Bool) → eqb q id ≡ b → cond b c.rules (count_of es q) ≡ count_of es q
    by_test true is = let at : q ≡ id = grind (arith, nat_tests) in same ∙ ap (count_of es) (sym at)
    by_test false is = refl

  -- with one more
  pub count-raised : (es : List (ℕ × Counted T)) (id : ℕ) (c d : Counted T) (q : ℕ) → object_under es id ≡ Some c → d.rules ≡ c.rules + 1 → count_of (put es id d) q ≡ count_of es q + cond (eqb id q) 1 0
  count-raised es id c d q has more = count-put es id d q ∙ by_test (eqb q id) (eqb id q) refl refl where
    by_test : (a b : Bool) → eqb q id ≡ a → eqb id q ≡ b → cond a d.rules (count_of es q) ≡ count_of es q + cond b 1 0
    by_test true true is si =
        let at : q ≡ id = grind (arith, nat_tests) in
        let was : count_of es q ≡ c.rules = ap (count_of es) at ∙ count-at es id c has in
        omega arith
    by_test false false is si = omega arith
    by_test true false is si = absurd (grind (arith, nat_tests))
    by_test false true is si = absurd (grind (arith, nat_tests))

  pub one_fewer : (es : List (ℕ × Counted T)) (id : ℕ) (c : Counted T) → object_under es id ≡ Some c → 0 < count_of es id → c.rules - 1 + 1 ≡ c.rules
  one_fewer es id c has some = let at = count-at es id c has in omega arith

  -- with one fewer
  pub count-lowered : (es : List (ℕ × Counted T)) (id : ℕ) (c d : Counted T) (q : ℕ) → object_under es id ≡ Some c → d.rules + 1 ≡ c.rules → count_of (put es id d) q + cond (eqb id q) 1 0 ≡ count_of es q
  count-lowered es id c d q has fewer = ap (λ n. n + cond (eqb id q) 1 0) (count-put es id d q) ∙ by_test (eqb q id) (eqb id q) refl refl where
    by_test : (a b : Bool) → eqb q id ≡ a → eqb id q ≡ b → cond a d.rules (count_of es q) + cond b 1 0 ≡ count_of es q
    by_test true true is si =
        let at : q ≡ id = grind (arith, nat_tests) in
        let was : count_of es q ≡ c.rules = ap (count_of es) at ∙ count-at es id c has in
        omega arith
    by_test false false is si = omega arith
    by_test true false is si = absurd (grind (arith, nat_tests))
    by_test false true is si = absurd (grind (arith, nat_tests))

  -- without an id whose count is 0
  pub count-without : (es : List (ℕ × Counted T)) (id q : ℕ) → IsById es → count_of es id ≡ 0 → count_of (without es id) q ≡ count_of es q
  count-without es id q rising none = ap (λ (o : Option (Counted T)). option_map_or (λ x. x.rules) o 0) (object_under-without es id q rising) ∙ by_test (eqb id q) refl where
    by_test : (b : Bool) → eqb id q ≡ b → option_map_or (λ x. x.rules) (cond b None (object_under es q)) 0 ≡ count_of es q
    by_test true is = let at : id ≡ q = grind (arith, nat_tests) in sym none ∙ ap (count_of es) at
    by_test false is = refl
