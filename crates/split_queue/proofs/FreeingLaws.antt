-- The way along the links of a chain that comes back: what it frees is the chain, each descriptor once.
use Rattle.std.proofs.Common.{◌≡◌, ◌≢◌, ℕ, zero, suc, ◌+◌, ◌-◌, ◌<◌, ◌≤◌, ◌==◌, inl, inr, Bool, true, false, cond, List, [], ◌∷◌, ◌++◌, length, length-append, map, take, drop, get_or, Option, Some, None, IsSome, add-one, refl, sym, ap, ◌∙◌, subst, arith}
use Rattle.std.specs.List.Sorted.{IsPermutation, IsNonDecreasing}
use Rattle.std.proofs.Math.ListN.{set, length-set, get_or-map}
use Rattle.std.proofs.lemmas.Bool.{cases_Bool, cases_eq}
use Rattle.std.proofs.lemmas.List.{length-map, get_or-set_same, get_or-set_other, ext_get_or, append-nil, append_assoc, take-append-drop, take_all, drop_all, drop_at, length-drop, length-take-le}
use Rattle.std.proofs.lemmas.List.Sorted.{sum_by-IsPermutation}
use Rattle.std.specs.List.{AllByRecursion}
use Rattle.split_queue.specs.Pools.{owner_of, is_owned_by, owner_after_release, numbers_in_chain, times, AreOut, LinksLead, IsLinkedChain, IsPool}
use Rattle.split_queue.proofs.PoolLaws.{all_weaker, in_range, IsPool-free, IsReleasing, releasing-none, releasing-all, releasing-owned, releasing-other}
use Rattle.split_queue.proofs.RisingLists.{here, here-same, here-other, times-cons, times-append, times-above, Rises, non_decreasing-rises, rises-same}
use Rattle.split_queue.proofs.LinkLaws.{weight, owned-is, is-owned}

-- ---- the free list's new part

-- the descriptors of a chain by number
in_chain-above : (head from : ℕ) (owners : List (Option ℕ)) → AllByRecursion (λ n. from ≤ n) (numbers_in_chain head from owners)
in_chain-above head from [] = tt
in_chain-above head from (o ∷ owners) =
    let later = all_weaker (λ n. from + 1 ≤ n) (λ n. from ≤ n) (λ n up. omega (arith, up)) (numbers_in_chain head (from + 1) owners) (in_chain-above head (from + 1) owners) in
    elim (is_owned_by head o) as (λ b. AllByRecursion (λ n. from ≤ n) (cond b (from ∷ numbers_in_chain head (from + 1) owners) (numbers_in_chain head (from + 1) owners))) [
      | true ↦ (omega arith, later)
      | false ↦ later
    ]

pub in_chain-rises : (head from : ℕ) (owners : List (Option ℕ)) → Rises (numbers_in_chain head from owners)
in_chain-rises head from [] = tt
in_chain-rises head from (o ∷ owners) =
    let above = all_weaker (λ n. from + 1 ≤ n) (λ n. from ≤ n) (λ n up. omega (arith, up)) (numbers_in_chain head (from + 1) owners) (in_chain-above head (from + 1) owners) in
    let later = in_chain-rises head (from + 1) owners in
    elim (is_owned_by head o) as (λ b. Rises (cond b (from ∷ numbers_in_chain head (from + 1) owners) (numbers_in_chain head (from + 1) owners))) [
      | true ↦ (above, later)
      | false ↦ later
    ]

times-choice : (number from : ℕ) (b : Bool) (numbers : List ℕ) → times number (cond b (from ∷ numbers) numbers) ≡ cond b (here number from) 0 + times number numbers
times-choice number from true numbers = times-cons number from numbers
times-choice number from false numbers = omega arith

choice-none : (b : Bool) (n : ℕ) → n ≡ 0 → cond b n 0 ≡ 0
choice-none true n none = none
choice-none false n none = refl

zero-add : (n : ℕ) → 0 + n ≡ n
zero-add n = omega arith

choice-one : (b : Bool) (n later : ℕ) → n ≡ 1 → later ≡ 0 → cond b n 0 + later ≡ cond b 1 0
choice-one true n later one none = omega (arith, one, none)
choice-one false n later one none = omega (arith, none)

in_chain-times : (head from : ℕ) (owners : List (Option ℕ)) (k : ℕ) → times (from + k) (numbers_in_chain head from owners) ≡ weight head (owner_of owners k)
in_chain-times head from [] k = refl
in_chain-times head from (o ∷ owners) zero =
    let at : from + 0 ≡ from = omega arith in
    let later = times-above from (numbers_in_chain head (from + 1) owners) (all_weaker (λ n. from + 1 ≤ n) (λ n. from < n) (λ n up. omega (arith, up)) _ (in_chain-above head (from + 1) owners)) in
    subst (λ n. times n (numbers_in_chain head from (o ∷ owners)) ≡ weight head o) (sym at)
    (times-choice from from (is_owned_by head o) (numbers_in_chain head (from + 1) owners)
    ∙ choice-one (is_owned_by head o) (here from from) (times from (numbers_in_chain head (from + 1) owners)) (here-same from) later)
in_chain-times head from (o ∷ owners) (suc k) =
    let at : from + 1 + k ≡ from + suc k = omega arith in
    let later = rw at at (in_chain-times head (from + 1) owners k) in
    let first : here (from + suc k) from ≡ 0 = here-other (from + suc k) from (λ same. omega (arith, same)) in
    times-choice (from + suc k) from (is_owned_by head o) (numbers_in_chain head (from + 1) owners)
    ∙ ap (λ n. n + times (from + suc k) (numbers_in_chain head (from + 1) owners)) (choice-none (is_owned_by head o) (here (from + suc k) from) first)
    ∙ zero-add (times (from + suc k) (numbers_in_chain head (from + 1) owners)) ∙ later

pub in_chain-out : (head : ℕ) (owners : List (Option ℕ)) → AreOut head owners (numbers_in_chain head 0 owners)
in_chain-out head owners = λ number.
    let at : 0 + number ≡ number = omega arith in
    rw at at (in_chain-times head 0 owners number)

-- what was freed along the links, sorted, is the chain by number
pub sorted-in_chain : (head : ℕ) (owners : List (Option ℕ)) (freed sorted : List ℕ) → AreOut head owners freed
    → IsPermutation freed sorted → IsNonDecreasing sorted → sorted ≡ numbers_in_chain head 0 owners
sorted-in_chain head owners freed sorted out moved up =
    rises-same sorted (numbers_in_chain head 0 owners)
    (λ number. sum_by-IsPermutation (here number) freed sorted moved ∙ out number ∙ sym (in_chain-out head owners number))
    (non_decreasing-rises sorted up) (in_chain-rises head 0 owners)

-- the free list behind its old part, where that was sorted
pub free-sorted : (head : ℕ) (owners : List (Option ℕ)) (free freed now : List ℕ) (kept : ℕ) → kept ≡ length free
    → take (length free) freed ≡ free → AreOut head owners (drop (length free) freed)
    → take kept now ≡ take kept freed → IsPermutation (drop kept freed) (drop kept now)
    → IsNonDecreasing (drop kept now) → now ≡ free ++ numbers_in_chain head 0 owners
free-sorted head owners free freed now kept all front out same moved up =
    let behind = subst (λ n. IsPermutation (drop n freed) (drop kept now)) all moved in
    let first : take kept now ≡ free = same ∙ ap (λ n. take n freed) all ∙ front in
    sym (take-append-drop kept now) ∙ ap (λ xs. xs ++ drop kept now) first
    ∙ ap (λ xs. free ++ xs) (sorted-in_chain head owners (drop (length free) freed) (drop kept now) out behind up)

-- a list whose end was sorted in its place
pub end-put : (items now sorted : List ℕ) (kept n : ℕ) → now ≡ items → n ≡ length items → kept ≤ length items
    → length sorted ≡ length items - kept
    → let whole = take kept now ++ (sorted ++ drop (length now - kept) (drop kept now)) in
    drop kept (take n (whole ++ drop (length whole) items)) ≡ sorted
end-put items now sorted kept n same len within size =
    let now_len : length now ≡ length items = ap length same in
    let behind : drop (length now - kept) (drop kept now) ≡ [] = drop_all (length now - kept) (drop kept now) (omega (arith, length-drop kept now)) in
    let front_len : length (take kept now) ≡ kept = length-take-le kept now (omega (arith, now_len, within)) in
    let whole : take kept now ++ (sorted ++ drop (length now - kept) (drop kept now)) ≡ take kept now ++ sorted =
    ap (λ xs. take kept now ++ xs) (ap (λ xs. sorted ++ xs) behind ∙ append-nil sorted) in
    let long : length (take kept now ++ sorted) ≡ n = omega (arith, length-append (take kept now) sorted, front_len, size, len, within) in
    let none : drop (length (take kept now ++ sorted)) items ≡ [] = drop_all (length (take kept now ++ sorted)) items (omega (arith, long, len)) in
    rw (whole, none, append-nil (take kept now ++ sorted))
    (ap (drop kept) (take_all n (take kept now ++ sorted) (omega (arith, long))) ∙ drop_at (take kept now) sorted kept front_len)

-- the pool after that
releasing-upto : (head : ℕ) (owners : List (Option ℕ)) (free : List ℕ) (room k : ℕ) → k ≤ length owners → IsPool owners free room
    → (owners_now : List (Option ℕ)) × (free_now : List ℕ) × IsReleasing head owners free k owners_now free_now × IsPool owners_now free_now room
releasing-upto head owners free room zero within has = (owners, free, releasing-none head owners free, has)
releasing-upto head owners free room (suc k) within has =
    let (owners_now, free_now, so_far, pool) = releasing-upto head owners free room k (omega arith) has in
    let below : k < length owners = omega arith in
    elim (cases_Bool (is_owned_by head (owner_of owners_now k))) [
      | inl owned ↦
          let out : IsSome (owner_of owners_now k) = rw (owned-is head (owner_of owners_now k) owned) refl in (
            set owners_now k None,
            free_now ++ k ∷ [],
            subst (λ n. IsReleasing head owners free n (set owners_now k None) (free_now ++ k ∷ [])) (add-one k) (releasing-owned head owners free owners_now free_now k below so_far owned),
            IsPool-free owners_now free_now k room out pool,
          )
      | inr other ↦ (
        owners_now,
        free_now,
        subst (λ n. IsReleasing head owners free n owners_now free_now) (add-one k) (releasing-other head owners free owners_now free_now k below so_far other),
        pool,
      )
    ]

pub IsPool-release : (head : ℕ) (owners : List (Option ℕ)) (free : List ℕ) (room : ℕ) → IsPool owners free room
    → IsPool (map (owner_after_release head) owners) (free ++ numbers_in_chain head 0 owners) room
IsPool-release head owners free room has =
    let (owners_now, free_now, done, pool) = releasing-upto head owners free room (length owners) (omega arith) has in
    let is = releasing-all head owners free owners_now free_now (length owners) (omega arith) done in
    rw (← is.0, ← is.1) pool

-- ---- along the links

-- after some descriptors of the chain of the head were freed, where these are left besides the head
pub record IsFreeing (head : ℕ) (owners : List (Option ℕ)) (links free front rest : List ℕ) (owners_now : List (Option ℕ)) (free_now : List ℕ) (number : ℕ) : Type 0 where
  pub in_line : LinksLead links head number rest
  pub once : AreOut head owners (head ∷ (front ++ rest))
  pub owners_are : (n : ℕ) → owner_of owners_now n ≡ cond (times n front == 0) (owner_of owners n) None
  pub same_size : length owners_now ≡ length owners
  pub free_is : free_now ≡ free ++ front

pub freeing-none : (head : ℕ) (owners : List (Option ℕ)) (links free rest : List ℕ) → IsLinkedChain owners links head rest
    → IsFreeing head owners links free [] rest owners free (get_or links head 0)
freeing-none head owners links free rest chain = record {
  in_line = chain.in_line;
  once = chain.once;
  owners_are = λ n. refl;
  same_size = refl;
  free_is = sym (append-nil free);
}

at_most_one : (head : ℕ) (owner : Option ℕ) → weight head owner ≤ 1
at_most_one head owner = elim (is_owned_by head owner) as (λ b. cond b 1 0 ≤ 1) [ true ↦ omega arith | false ↦ omega arith ]

some_weight : (head : ℕ) (owner : Option ℕ) → 0 < weight head owner → owner ≡ Some head
some_weight head owner some = elim (cases_Bool (is_owned_by head owner)) [
  | inl owned ↦ owned-is head owner owned
  | inr not ↦ let none : weight head owner ≡ 0 = rw not refl in absurd (omega (arith, some, none))
]

chosen_owner : (head : ℕ) (owner : Option ℕ) → cond (weight head owner == 0) owner None ≡ owner_after_release head owner
chosen_owner head owner = elim (cases_Bool (is_owned_by head owner)) [ inl owned ↦ rw owned refl | inr not ↦ rw not refl ]

pub linked-head : (head : ℕ) (owners : List (Option ℕ)) (links rest : List ℕ) → IsLinkedChain owners links head rest → owner_of owners head ≡ Some head
linked-head head owners links rest chain =
    some_weight head (owner_of owners head) (omega (arith, chain.once head, here-same head, times-cons head head rest))

module _ (head : ℕ) (owners : List (Option ℕ)) (links free front : List ℕ) (owners_now : List (Option ℕ)) (free_now : List ℕ) (number : ℕ) where
  -- the head is out still, and no one is left where the links came back to it
  module _ (rest : List ℕ) (so_far : IsFreeing head owners links free front rest owners_now free_now number) where
    head-times : times head front + times head rest ≡ 0
    head-times = omega (arith, so_far.once head, at_most_one head (owner_of owners head), here-same head, times-cons head head (front ++ rest), times-append head front rest)

    head-was_out : owner_of owners head ≡ Some head
    head-was_out = some_weight head (owner_of owners head) (omega (arith, so_far.once head, here-same head, times-cons head head (front ++ rest)))

    pub head-still_out : owner_of owners_now head ≡ Some head
    head-still_out =
        let none : times head front ≡ 0 = omega (arith, head-times) in
        let is : cond (times head front == 0) (owner_of owners head) None ≡ owner_of owners head = rw none refl in
        so_far.owners_are head ∙ is ∙ head-was_out

  no_rest : (rest : List ℕ) → number ≡ head → IsFreeing head owners links free front rest owners_now free_now number → rest ≡ []
  no_rest [] back so_far = refl
  no_rest (r ∷ rest) back so_far =
      let first : here head r ≡ 1 = ap (here head) (sym so_far.in_line.0 ∙ back) ∙ here-same head in
      absurd (omega (arith, first, head-times (r ∷ rest) so_far, times-cons head r rest))

  -- one more
  module _ (rest : List ℕ) (apart : number ≢ head) (so_far : IsFreeing head owners links free front (number ∷ rest) owners_now free_now number) where
    number-times : times number (head ∷ (front ++ number ∷ rest)) ≡ times number front + (1 + times number rest)
    number-times = omega (arith, here-other number head (λ same. apart (sym same)), here-same number, times-cons number head (front ++ number ∷ rest), times-append number front (number ∷ rest), times-cons number number rest)

    number-was_out : owner_of owners number ≡ Some head
    number-was_out = some_weight head (owner_of owners number) (omega (arith, so_far.once number, number-times))

    number-new : times number front ≡ 0
    number-new = omega (arith, so_far.once number, number-times, at_most_one head (owner_of owners number))

    number-out : owner_of owners_now number ≡ Some head
    number-out =
        let is : cond (times number front == 0) (owner_of owners number) None ≡ owner_of owners number = rw number-new refl in
        so_far.owners_are number ∙ is ∙ number-was_out

    owners-after : (n : ℕ) → owner_of (set owners_now number None) n ≡ cond (times n (front ++ number ∷ []) == 0) (owner_of owners n) None
    owners-after n = elim (cases_eq n number) [
      | inl same ↦
          let within : number < length owners_now = in_range owners_now number (rw number-out refl) in
          let gone : owner_of (set owners_now number None) n ≡ None = ap (owner_of (set owners_now number None)) same ∙ get_or-set_same owners_now number None None within in
          let some : times n (front ++ number ∷ []) ≡ 1 = omega (arith, times-append n front (number ∷ []), times-cons n number [], ap (here n) (sym same) ∙ here-same n, ap (λ k. times k front) same ∙ number-new) in
          gone ∙ rw some refl
      | inr other ↦
          let more : times n (front ++ number ∷ []) ≡ times n front = omega (arith, times-append n front (number ∷ []), times-cons n number [], here-other n number (λ same. other (sym same))) in
          get_or-set_other owners_now number n None None other ∙ so_far.owners_are n ∙ rw more refl
    ]

    freeing-next : IsFreeing head owners links free (front ++ number ∷ []) rest (set owners_now number None) (free_now ++ number ∷ []) (get_or links number 0)
    freeing-next = record {
      in_line = so_far.in_line.1;
      once = λ n. ap (λ xs. times n (head ∷ xs)) (append_assoc front (number ∷ []) rest) ∙ so_far.once n;
      owners_are = owners-after;
      same_size = length-set owners_now number None ∙ so_far.same_size;
      free_is = ap (λ xs. xs ++ number ∷ []) so_far.free_is ∙ append_assoc free front (number ∷ []);
    }

  pub number-is_out : (rest : List ℕ) → number ≢ head → IsFreeing head owners links free front rest owners_now free_now number → owner_of owners_now number ≡ Some head
  number-is_out [] apart so_far = absurd (apart so_far.in_line)
  number-is_out (r ∷ rest) apart so_far =
      number-out rest apart (subst (λ n. IsFreeing head owners links free front (n ∷ rest) owners_now free_now number) (sym so_far.in_line.0) so_far)

  pub freeing-more : (rest : List ℕ) → number ≢ head → IsFreeing head owners links free front rest owners_now free_now number → (left : List ℕ) × IsFreeing head owners links free (front ++ number ∷ []) left (set owners_now number None) (free_now ++ number ∷ []) (get_or links number 0)
  freeing-more [] apart so_far = absurd (apart so_far.in_line)
  freeing-more (r ∷ rest) apart so_far =
      (rest, freeing-next rest apart (subst (λ n. IsFreeing head owners links free front (n ∷ rest) owners_now free_now number) (sym so_far.in_line.0) so_far))

  -- at last the head
  module _ (rest : List ℕ) (back : number ≡ head) (so_far : IsFreeing head owners links free front rest owners_now free_now number) where
    front-is : (n : ℕ) → times n (front ++ rest) ≡ times n front
    front-is n = ap (λ xs. times n (front ++ xs)) (no_rest rest back so_far) ∙ ap (times n) (append-nil front)

    pub all-out : AreOut head owners (front ++ head ∷ [])
    all-out = λ n. omega (arith, so_far.once n, front-is n, times-cons n head (front ++ rest), times-append n front (head ∷ []), times-cons n head [])

    each-owner : (n : ℕ) → owner_of (set owners_now head None) n ≡ owner_after_release head (owner_of owners n)
    each-owner n = elim (cases_eq n head) [
      | inl same ↦
          let within : head < length owners_now = in_range owners_now head (rw (head-still_out rest so_far) refl) in
          let gone : owner_of (set owners_now head None) n ≡ None = ap (owner_of (set owners_now head None)) same ∙ get_or-set_same owners_now head None None within in
          let is : is_owned_by head (owner_of owners n) ≡ true = is-owned head (owner_of owners n) (ap (owner_of owners) same ∙ head-was_out rest so_far) in
          gone ∙ rw is refl
      | inr other ↦
          let count : times n front ≡ weight head (owner_of owners n) = omega (arith, so_far.once n, front-is n, times-cons n head (front ++ rest), here-other n head (λ same. other (sym same))) in
          get_or-set_other owners_now head n None None other ∙ so_far.owners_are n ∙ rw count (chosen_owner head (owner_of owners n))
    ]

    pub owners-back : set owners_now head None ≡ map (owner_after_release head) owners
    owners-back =
        let none : Option ℕ = None in
        ext_get_or none (set owners_now head None) (map (owner_after_release head) owners)
        (length-set owners_now head None ∙ so_far.same_size ∙ sym (length-map owners (owner_after_release head)))
        (λ n below. each-owner n ∙ sym (get_or-map (owner_after_release head) owners n None))

    pub free-back : free_now ++ head ∷ [] ≡ free ++ (front ++ head ∷ [])
    free-back = ap (λ xs. xs ++ head ∷ []) so_far.free_is ∙ append_assoc free front (head ∷ [])
