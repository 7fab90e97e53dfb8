-- What a change of one descriptor does to a pool.
use Rattle.std.proofs.Common.{◌≡◌, ◌≢◌, ℕ, zero, suc, ◌+◌, ◌-◌, ◌^◌, ◌<◌, ◌≤◌, List, [], ◌∷◌, ◌++◌, length, length-append, length-take, replicate, map, take, drop, get_or, Option, Some, None, IsSome, is_some, Bool, true, false, cond, add-zero, add-one, refl, sym, ap, ◌∙◌, subst, arith}
use Rattle.std.proofs.Math.ListN.{set, length-set}
use Rattle.std.proofs.lemmas.List.{length-map, length-replicate, get_or-set_same, get_or-set_other, get_or-replicate, get_or_at, set_at, take_all, drop_all, take_more, append-nil, append_assoc, map-append}
use Rattle.std.specs.List.{AllByRecursion}
use Rattle.std.proofs.lemmas.Grind.{common_steps}
use Rattle.std.proofs.lemmas.List.Sums.{sum_by-set, sum_by-cons}
use Rattle.std.proofs.Math.Seq.{drop-cons}
use Rattle.split_queue.specs.Pools.{owner_of, is_owned_by, numbers_in_chain, owner_after_release, out_count, AreFree, IsPool}

last_of : (P : ℕ → Type 0) (xs : List ℕ) (y : ℕ) → AllByRecursion P (xs ++ y ∷ []) → AllByRecursion P xs × P y
last_of P [] y all = (tt, all.0)
last_of P (x ∷ xs) y all = let rest = last_of P xs y all.1 in ((all.0, rest.0), rest.1)

pub all_push : (P : ℕ → Type 0) (xs : List ℕ) (y : ℕ) → AllByRecursion P xs → P y → AllByRecursion P (xs ++ y ∷ [])
all_push P [] y all here = (here, tt)
all_push P (x ∷ xs) y all here = (all.0, all_push P xs y all.1 here)

-- a descriptor that is out is one of the table
pub in_range : (owners : List (Option ℕ)) (number : ℕ) → IsSome (owner_of owners number) → number < length owners
in_range [] number h = absurd (cc)
in_range (o ∷ owners) zero h = omega arith
in_range (o ∷ owners) (suc number) h = omega (arith, in_range owners number h)

abbrev weight : Option ℕ → ℕ
weight content = cond (is_some content) 1 0

out_count-set : (owners : List (Option ℕ)) (number : ℕ) (content : Option ℕ) → number < length owners → out_count (set owners number content) + weight (owner_of owners number) ≡ out_count owners + weight content
out_count-set owners number content h = sum_by-set weight owners number content None h

-- the last free descriptor
pub last_free : (owners : List (Option ℕ)) (rest : List ℕ) (number : ℕ) → AreFree owners (rest ++ number ∷ []) → (number < length owners) × (owner_of owners number ≡ None)
last_free owners [] number free = (free.0, free.1)
last_free owners (r ∷ rest) number free = last_free owners rest number free.3

pub AreFree-pop : (owners : List (Option ℕ)) (rest : List ℕ) (number x : ℕ) → AreFree owners (rest ++ number ∷ []) → AreFree (set owners number (Some x)) rest
AreFree-pop owners [] number x free = tt
AreFree-pop owners (r ∷ rest) number x free =
    let parts = last_of (λ other. other ≢ r) rest number free.2 in
    let apart : r ≢ number = λ same. parts.1 (sym same) in
    let empty : owner_of (set owners number (Some x)) r ≡ None = get_or-set_other owners number r (Some x) None apart ∙ free.1 in
    (grind (arith, common_steps), empty, parts.0, AreFree-pop owners rest number x free.3)

AreFree-set : (owners : List (Option ℕ)) (free : List ℕ) (number : ℕ) (content : Option ℕ) → IsSome (owner_of owners number) → AreFree owners free → AreFree (set owners number content) free
AreFree-set owners [] number content held free = tt
AreFree-set owners (r ∷ rest) number content held free =
    let apart : r ≢ number = λ same. absurd (let e = ap (owner_of owners) same in let n = free.1 in cc) in
    let empty : owner_of (set owners number content) r ≡ None = get_or-set_other owners number r content None apart ∙ free.1 in
    (grind (arith, common_steps), empty, free.2, AreFree-set owners rest number content held free.3)

apart_from_held : (owners : List (Option ℕ)) (free : List ℕ) (number : ℕ) → IsSome (owner_of owners number) → AreFree owners free → AllByRecursion (λ r. number ≢ r) free
apart_from_held owners [] number held free = tt
apart_from_held owners (r ∷ rest) number held free = (λ same. absurd (let e = ap (owner_of owners) same in let n = free.1 in cc), apart_from_held owners rest number held free.3)

pub AreFree-push : (owners : List (Option ℕ)) (free : List ℕ) (number : ℕ) → number < length owners → owner_of owners number ≡ None → AllByRecursion (λ r. number ≢ r) free → AreFree owners free → AreFree owners (free ++ number ∷ [])
AreFree-push owners [] number h empty apart free = (h, empty, tt, tt)
AreFree-push owners (r ∷ rest) number h empty apart free = (free.0, free.1, all_push (λ other. other ≢ r) rest number free.2 apart.0, AreFree-push owners rest number h empty apart.1 free.3)

pub IsPool-claim : (owners : List (Option ℕ)) (free rest : List ℕ) (number x room : ℕ) → free ≡ rest ++ number ∷ [] → IsPool owners free room → IsPool (set owners number (Some x)) rest room
IsPool-claim owners free rest number x room is has =
    let free_list = subst (AreFree owners) is has.free_list in
    let last = last_free owners rest number free_list in
    let shorter : length free ≡ length rest + 1 = rw is (length-append rest (number ∷ [])) in
    let count = rw last.1 at (out_count-set owners number (Some x) last.0) in
    record {
      free_list = AreFree-pop owners rest number x free_list;
      count = omega (arith, has.count, length-set owners number (Some x), count);
      fits = omega (arith, has.fits, length-set owners number (Some x));
      few = omega (arith, has.few, length-set owners number (Some x));
    }

pub IsPool-free : (owners : List (Option ℕ)) (free : List ℕ) (number room : ℕ) → IsSome (owner_of owners number) → IsPool owners free room → IsPool (set owners number None) (free ++ number ∷ []) room
IsPool-free owners free number room held has =
    let used = in_range owners number held in
    let same = length-set owners number None in
    let count = rw held at (out_count-set owners number None used) in
    record {
      free_list = AreFree-push (set owners number None) free number (omega arith) (get_or-set_same owners number None None used) (apart_from_held owners free number held has.free_list) (AreFree-set owners free number None held has.free_list);
      count = omega (arith, has.count, count, length-append free (number ∷ []));
      fits = omega (arith, has.fits);
      few = omega (arith, has.few);
    }

-- a fresh pool while it is filled: so many stand in the free list, the greatest numbers first
pub record IsFilling (size i : ℕ) (free : List ℕ) : Type 0 where
  pub free_list : AreFree (replicate size None) free
  pub above : AllByRecursion (λ r. size - i ≤ r) free
  pub count : length free ≡ i

pub all_weaker : (P Q : ℕ → Type 0) → ((r : ℕ) → P r → Q r) → (xs : List ℕ) → AllByRecursion P xs → AllByRecursion Q xs
all_weaker P Q imp [] all = tt
all_weaker P Q imp (x ∷ xs) all = (imp x all.0, all_weaker P Q imp xs all.1)

pub filling-none : (size : ℕ) → IsFilling size 0 []
filling-none size = record { free_list = tt; above = tt; count = refl }

pub filling-more : (size i : ℕ) (free : List ℕ) → i < size → IsFilling size i free → IsFilling size (i + 1) (free ++ (size - 1 - i) ∷ [])
filling-more size i free below so_far =
    let number = size - 1 - i in
    let none : Option ℕ = None in
    let within : number < length (replicate size none) = rw length-replicate (omega arith) in
    record {
      free_list = AreFree-push (replicate size None) free number within (get_or-replicate size number None None (omega arith)) (all_weaker (λ r. size - i ≤ r) (λ r. number ≢ r) (λ r h same. omega (arith, h, same)) free so_far.above) so_far.free_list;
      above = all_push (λ r. size - (i + 1) ≤ r) free number (all_weaker (λ r. size - i ≤ r) (λ r. size - (i + 1) ≤ r) (λ r h. omega (arith, h)) free so_far.above) (omega arith);
      count = omega (arith, length-append free (number ∷ []), so_far.count);
    }

none_out : (size : ℕ) → out_count (replicate size None) ≡ 0
none_out zero = refl
none_out (suc size) = sum_by-cons weight None (replicate size None) ∙ rw (none_out size) refl

pub filling-all : (size room : ℕ) (free : List ℕ) → size < 2 ^ 16 → size ≤ room → IsFilling size size free → IsPool (replicate size None) free room
filling-all size room free small fits so_far =
    let none : Option ℕ = None in
    let len : length (replicate size none) ≡ size = length-replicate size none in
    record { free_list = so_far.free_list; count = omega (arith, none_out size, so_far.count, len); fits = omega (arith, len); few = omega (arith, len) }

-- a free descriptor at a place
pub free_at : (owners : List (Option ℕ)) (free : List ℕ) (k d : ℕ) → k < length free → AreFree owners free → (get_or free k d < length owners) × (owner_of owners (get_or free k d) ≡ None)
free_at owners [] k d below free_list = absurd (omega arith)
free_at owners (r ∷ free) zero d below free_list = (free_list.0, free_list.1)
free_at owners (r ∷ free) (suc k) d below free_list = free_at owners free k d (omega arith) free_list.3

-- ---- a chain comes back

numbers_in_chain-push : (head from : ℕ) (xs : List (Option ℕ)) (o : Option ℕ) → numbers_in_chain head from (xs ++ o ∷ []) ≡ numbers_in_chain head from xs ++ cond (is_owned_by head o) ((from + length xs) ∷ []) []
numbers_in_chain-push head from [] o = elim (is_owned_by head o) as (λ b. cond b (from ∷ []) [] ≡ cond b ((from + 0) ∷ []) []) [ true ↦ rw add-zero refl | false ↦ refl ]
numbers_in_chain-push head from (x ∷ xs) o =
    let later = numbers_in_chain-push head (from + 1) xs o in
    let at : from + 1 + length xs ≡ from + suc (length xs) = omega arith in
    let here = rw at at later in
    elim (is_owned_by head x) as (λ b. cond b (from ∷ numbers_in_chain head (from + 1) (xs ++ o ∷ [])) (numbers_in_chain head (from + 1) (xs ++ o ∷ [])) ≡ cond b (from ∷ numbers_in_chain head (from + 1) xs) (numbers_in_chain head (from + 1) xs) ++ cond (is_owned_by head o) ((from + suc (length xs)) ∷ []) []) [
      | true ↦ ap (λ ys. from ∷ ys) here
      | false ↦ here
    ]

-- after some descriptors were looked at
pub record IsReleasing (head : ℕ) (owners : List (Option ℕ)) (free : List ℕ) (number : ℕ) (owners_now : List (Option ℕ)) (free_now : List ℕ) : Type 0 where
  pub same_size : length owners_now ≡ length owners
  pub owners_are : owners_now ≡ map (owner_after_release head) (take number owners) ++ drop number owners
  pub free_is : free_now ≡ free ++ numbers_in_chain head 0 (take number owners)

module _ (head : ℕ) (owners : List (Option ℕ)) (free : List ℕ) where
  pub releasing-none : IsReleasing head owners free 0 owners free
  releasing-none = record { same_size = refl; owners_are = refl; free_is = sym (append-nil free) }

  pub releasing-all : (owners_now : List (Option ℕ)) (free_now : List ℕ) (number : ℕ) → length owners ≤ number → IsReleasing head owners free number owners_now free_now → (owners_now ≡ map (owner_after_release head) owners) × (free_now ≡ free ++ numbers_in_chain head 0 owners)
  releasing-all owners_now free_now number all so_far =
      let whole : take number owners ≡ owners = take_all number owners all in
      let none : drop number owners ≡ [] = drop_all number owners all in
      (so_far.owners_are ∙ rw (whole, none) (append-nil (map (owner_after_release head) owners)), so_far.free_is ∙ rw whole refl)

  module _ (owners_now : List (Option ℕ)) (free_now : List ℕ) (number : ℕ) (below : number < length owners) (so_far : IsReleasing head owners free number owners_now free_now) where
    front_len : length (map (owner_after_release head) (take number owners)) ≡ number
    front_len = omega (arith, length-map (take number owners) (owner_after_release head), length-take number owners)

    one_more : take (number + 1) owners ≡ take number owners ++ owner_of owners number ∷ []
    one_more = take_more owners number None below

    left : drop number owners ≡ owner_of owners number ∷ drop (number + 1) owners
    left = rw add-one (drop-cons owners number None below)

    now_is : owners_now ≡ map (owner_after_release head) (take number owners) ++ owner_of owners number ∷ drop (number + 1) owners
    now_is = so_far.owners_are ∙ ap (λ ys. map (owner_after_release head) (take number owners) ++ ys) left

    pub same_owner : owner_of owners_now number ≡ owner_of owners number
    same_owner = ap (λ ys. owner_of ys number) now_is ∙ get_or_at (map (owner_after_release head) (take number owners)) (owner_of owners number) (drop (number + 1) owners) None number front_len

    places_more : (b : Bool) → is_owned_by head (owner_of owners number) ≡ b → numbers_in_chain head 0 (take (number + 1) owners) ≡ numbers_in_chain head 0 (take number owners) ++ cond b (number ∷ []) []
    places_more b e =
        let len : 0 + length (take number owners) ≡ number = omega (arith, length-take number owners) in
        let part : cond (is_owned_by head (owner_of owners number)) ((0 + length (take number owners)) ∷ []) [] ≡ cond b (number ∷ []) [] = rw (len, e) refl in
        ap (numbers_in_chain head 0) one_more ∙ numbers_in_chain-push head 0 (take number owners) (owner_of owners number) ∙ ap (λ ys. numbers_in_chain head 0 (take number owners) ++ ys) part

    pub releasing-owned : is_owned_by head (owner_of owners_now number) ≡ true → IsReleasing head owners free (number + 1) (set owners_now number None) (free_now ++ number ∷ [])
    releasing-owned e =
        let owned : is_owned_by head (owner_of owners number) ≡ true = rw same_owner at e in
        let gone : owner_after_release head (owner_of owners number) ≡ None = rw owned refl in
        let front = map (owner_after_release head) (take number owners) in
        let more : map (owner_after_release head) (take (number + 1) owners) ≡ front ++ None ∷ [] = ap (map (owner_after_release head)) one_more ∙ map-append (owner_after_release head) (take number owners) (owner_of owners number ∷ []) ∙ ap (λ (o : Option ℕ). front ++ o ∷ []) gone in
        record {
          same_size = length-set owners_now number None ∙ so_far.same_size;
          owners_are = ap (λ (os : List (Option ℕ)). set os number None) now_is ∙ set_at front (owner_of owners number) (drop (number + 1) owners) None number front_len ∙ sym (append_assoc front (None ∷ []) (drop (number + 1) owners)) ∙ ap (λ (os : List (Option ℕ)). os ++ drop (number + 1) owners) (sym more);
          free_is = ap (λ ns. ns ++ number ∷ []) so_far.free_is ∙ append_assoc free (numbers_in_chain head 0 (take number owners)) (number ∷ []) ∙ ap (λ ns. free ++ ns) (sym (places_more true owned));
        }

    pub releasing-other : is_owned_by head (owner_of owners_now number) ≡ false → IsReleasing head owners free (number + 1) owners_now free_now
    releasing-other e =
        let other : is_owned_by head (owner_of owners number) ≡ false = rw same_owner at e in
        let kept : owner_after_release head (owner_of owners number) ≡ owner_of owners number = rw other refl in
        let front = map (owner_after_release head) (take number owners) in
        let more : map (owner_after_release head) (take (number + 1) owners) ≡ front ++ owner_of owners number ∷ [] = ap (map (owner_after_release head)) one_more ∙ map-append (owner_after_release head) (take number owners) (owner_of owners number ∷ []) ∙ ap (λ (o : Option ℕ). front ++ o ∷ []) kept in
        record {
          same_size = so_far.same_size;
          owners_are = now_is ∙ sym (append_assoc front (owner_of owners number ∷ []) (drop (number + 1) owners)) ∙ ap (λ (os : List (Option ℕ)). os ++ drop (number + 1) owners) (sym more);
          free_is = so_far.free_is ∙ ap (λ ns. free ++ ns) (sym (places_more false other ∙ append-nil (numbers_in_chain head 0 (take number owners))));
        }
