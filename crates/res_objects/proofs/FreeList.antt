-- What a change of one slot does to the slots, to their count and to the list of the free ones.
use Rattle.std.proofs.Common.{◌≡◌, ◌≢◌, ℕ, zero, suc, ◌+◌, ◌<◌, ◌≤◌, ◌^◌, List, [], ◌∷◌, ◌++◌, length, length-append, Option, Some, None, IsSome, is_some, cond, refl, sym, ap, ◌∙◌, subst, arith}
use Rattle.std.proofs.Math.ListN.{set, length-set}
use Rattle.std.proofs.lemmas.List.{get_or-set_same, get_or-set_other}
use Rattle.std.specs.List.{AllByRecursion}
use Rattle.std.proofs.lemmas.Grind.{common_steps}
use Rattle.std.proofs.lemmas.List.Sums.{sum_by-set, sum_by-append}
use Rattle.res_objects.specs.Linked.{object_in, held_count, ChangesSlot, IsFreeList, HasFree}

last_of : (P : ℕ → Type 0) (xs : List ℕ) (y : ℕ) → AllByRecursion P (xs ++ y ∷ []) → AllByRecursion P xs × P y
last_of P [] y all = (tt, all.0)
last_of P (x ∷ xs) y all = let rest = last_of P xs y all.1 in ((all.0, rest.0), rest.1)

all_push : (P : ℕ → Type 0) (xs : List ℕ) (y : ℕ) → AllByRecursion P xs → P y → AllByRecursion P (xs ++ y ∷ [])
all_push P [] y all here = (here, tt)
all_push P (x ∷ xs) y all here = (all.0, all_push P xs y all.1 here)

module _ {T : Type 0} where
  -- a slot that holds an object is a used one
  pub in_range : (cells : List (Option T)) (slot : ℕ) → IsSome (object_in cells slot) → slot < length cells
  in_range [] slot h = absurd (cc)
  in_range (c ∷ cells) zero h = omega arith
  in_range (c ∷ cells) (suc slot) h = omega (arith, in_range cells slot h)

  -- a slot past the used ones holds nothing
  pub object_in-past : (cells : List (Option T)) → object_in cells (length cells) ≡ None
  object_in-past [] = refl
  object_in-past (c ∷ cells) = object_in-past cells

  pub ChangesSlot-set : (cells : List (Option T)) (slot : ℕ) (content : Option T) → slot < length cells → ChangesSlot cells (set cells slot content) slot content
  ChangesSlot-set cells slot content h = record {
    here = get_or-set_same cells slot content None h;
    others = λ other apart. get_or-set_other cells slot other content None apart;
  }

  pushed_here : (cells : List (Option T)) (content : Option T) → object_in (cells ++ content ∷ []) (length cells) ≡ content
  pushed_here [] content = refl
  pushed_here (c ∷ cells) content = pushed_here cells content

  pushed_others : (cells : List (Option T)) (content : Option T) (other : ℕ) → other ≢ length cells → object_in (cells ++ content ∷ []) other ≡ object_in cells other
  pushed_others [] content zero apart = absurd (apart refl)
  pushed_others [] content (suc other) apart = refl
  pushed_others (c ∷ cells) content zero apart = refl
  pushed_others (c ∷ cells) content (suc other) apart = pushed_others cells content other (λ same. apart (omega arith))

  pub ChangesSlot-push : (cells : List (Option T)) (content : Option T) → ChangesSlot cells (cells ++ content ∷ []) (length cells) content
  ChangesSlot-push cells content = record { here = pushed_here cells content; others = pushed_others cells content }

  -- how much a slot counts
  abbrev weight : Option T → ℕ
  weight content = cond (is_some content) 1 0

  held_count-set : (cells : List (Option T)) (slot : ℕ) (content : Option T) → slot < length cells → held_count (set cells slot content) + weight (object_in cells slot) ≡ held_count cells + weight content
  held_count-set cells slot content h = sum_by-set weight cells slot content None h

  -- the count of held slots after a change
  pub held_count-fill : (cells : List (Option T)) (slot : ℕ) (x : T) → slot < length cells → object_in cells slot ≡ None → held_count (set cells slot (Some x)) ≡ held_count cells + 1
  held_count-fill cells slot x h empty = let e = rw empty at (held_count-set cells slot (Some x) h) in omega arith

  pub held_count-replace : (cells : List (Option T)) (slot : ℕ) (x : T) → IsSome (object_in cells slot) → held_count (set cells slot (Some x)) ≡ held_count cells
  held_count-replace cells slot x held = let e = rw held at (held_count-set cells slot (Some x) (in_range cells slot held)) in omega arith

  pub held_count-take : (cells : List (Option T)) (slot : ℕ) → IsSome (object_in cells slot) → held_count (set cells slot None) + 1 ≡ held_count cells
  held_count-take cells slot held = let e = rw held at (held_count-set cells slot None (in_range cells slot held)) in omega arith

  pub held_count-push : (cells : List (Option T)) (x : T) → held_count (cells ++ Some x ∷ []) ≡ held_count cells + 1
  held_count-push cells x = sum_by-append weight cells (Some x ∷ [])

  -- the free list after a change
  pub last_free : (cells : List (Option T)) (rest : List ℕ) (slot : ℕ) → IsFreeList cells (rest ++ slot ∷ []) → (slot < length cells) × (object_in cells slot ≡ None)
  last_free cells [] slot free = (free.0, free.1)
  last_free cells (r ∷ rest) slot free = last_free cells rest slot free.3

  IsFreeList-pop : (cells : List (Option T)) (rest : List ℕ) (slot : ℕ) (x : T) → IsFreeList cells (rest ++ slot ∷ []) → IsFreeList (set cells slot (Some x)) rest
  IsFreeList-pop cells [] slot x free = tt
  IsFreeList-pop cells (r ∷ rest) slot x free =
      let parts = last_of (λ other. other ≢ r) rest slot free.2 in
      let apart : r ≢ slot = λ same. parts.1 (sym same) in
      let empty : object_in (set cells slot (Some x)) r ≡ None = get_or-set_other cells slot r (Some x) None apart ∙ free.1 in
      (grind (arith, common_steps), empty, parts.0, IsFreeList-pop cells rest slot x free.3)

  -- a change of a held slot leaves the free ones
  IsFreeList-set : (cells : List (Option T)) (free : List ℕ) (slot : ℕ) (content : Option T) → IsSome (object_in cells slot) → IsFreeList cells free → IsFreeList (set cells slot content) free
  IsFreeList-set cells [] slot content held free = tt
  IsFreeList-set cells (r ∷ rest) slot content held free =
      let apart : r ≢ slot = λ same. absurd (let e = ap (object_in cells) same in let n = free.1 in cc) in
      let empty : object_in (set cells slot content) r ≡ None = get_or-set_other cells slot r content None apart ∙ free.1 in
      (grind (arith, common_steps), empty, free.2, IsFreeList-set cells rest slot content held free.3)

  apart_from_held : (cells : List (Option T)) (free : List ℕ) (slot : ℕ) → IsSome (object_in cells slot) → IsFreeList cells free → AllByRecursion (λ r. slot ≢ r) free
  apart_from_held cells [] slot held free = tt
  apart_from_held cells (r ∷ rest) slot held free = (λ same. absurd (let e = ap (object_in cells) same in let n = free.1 in cc), apart_from_held cells rest slot held free.3)

  IsFreeList-push : (cells : List (Option T)) (free : List ℕ) (slot : ℕ) → slot < length cells → object_in cells slot ≡ None → AllByRecursion (λ r. slot ≢ r) free → IsFreeList cells free → IsFreeList cells (free ++ slot ∷ [])
  IsFreeList-push cells [] slot h empty apart free = (h, empty, tt, tt)
  IsFreeList-push cells (r ∷ rest) slot h empty apart free = (free.0, free.1, all_push (λ other. other ≢ r) rest slot free.2 apart.0, IsFreeList-push cells rest slot h empty apart.1 free.3)

  -- the invariant of the slots after a change
  pub HasFree-none : (room : ℕ) → room ≤ 2 ^ 32 → HasFree {T = T} [] [] room room
  HasFree-none room small = record { listed = tt; counted = refl; fits = omega arith; free_fits = omega arith; numbered = small }

  pub HasFree-pop : (cells : List (Option T)) (free rest : List ℕ) (slot : ℕ) (x : T) (room free_room : ℕ) → free ≡ rest ++ slot ∷ [] → HasFree cells free room free_room → HasFree (set cells slot (Some x)) rest room free_room
  HasFree-pop cells free rest slot x room free_room is has =
      let listed = subst (IsFreeList cells) is has.listed in
      let last = last_free cells rest slot listed in
      let shorter : length free ≡ length rest + 1 = rw is (length-append rest (slot ∷ [])) in
      record {
        listed = IsFreeList-pop cells rest slot x listed;
        counted = omega (arith, has.counted, length-set cells slot (Some x), held_count-fill cells slot x last.0 last.1);
        fits = omega (arith, has.fits, length-set cells slot (Some x));
        free_fits = has.free_fits;
        numbered = has.numbered;
      }

  pub HasFree-push : (cells : List (Option T)) (x : T) (room free_room : ℕ) → length cells < room → HasFree cells [] room free_room → HasFree (cells ++ Some x ∷ []) [] room free_room
  HasFree-push cells x room free_room below has = record {
    listed = tt;
    counted = omega (arith, has.counted, length-append cells (Some x ∷ []), held_count-push cells x);
    fits = omega (arith, length-append cells (Some x ∷ []));
    free_fits = has.free_fits;
    numbered = has.numbered;
  }

  pub HasFree-replace : (cells : List (Option T)) (free : List ℕ) (slot : ℕ) (x : T) (room free_room : ℕ) → IsSome (object_in cells slot) → HasFree cells free room free_room → HasFree (set cells slot (Some x)) free room free_room
  HasFree-replace cells free slot x room free_room held has = record {
    listed = IsFreeList-set cells free slot (Some x) held has.listed;
    counted = omega (arith, has.counted, length-set cells slot (Some x), held_count-replace cells slot x held);
    fits = omega (arith, has.fits, length-set cells slot (Some x));
    free_fits = has.free_fits;
    numbered = has.numbered;
  }

  pub HasFree-take : (cells : List (Option T)) (free : List ℕ) (slot room free_room : ℕ) → IsSome (object_in cells slot) → HasFree cells free room free_room → HasFree (set cells slot None) (free ++ slot ∷ []) room free_room
  HasFree-take cells free slot room free_room held has =
      let used = in_range cells slot held in
      let same = length-set cells slot None in
      record {
        listed = IsFreeList-push (set cells slot None) free slot (omega arith) (get_or-set_same cells slot None None used) (apart_from_held cells free slot held has.listed) (IsFreeList-set cells free slot None held has.listed);
        counted = omega (arith, has.counted, held_count-take cells slot held, length-append free (slot ∷ []));
        fits = omega (arith, has.fits);
        free_fits = has.free_fits;
        numbered = has.numbered;
      }
