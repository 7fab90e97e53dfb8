-- How a walk begins, how it grows, and where it is the longest.
use Rattle.std.proofs.Common.{◌≡◌, ◌≢◌, ℕ, zero, suc, ◌+◌, ◌<◌, ◌≤◌, ◌==◌, inl, inr, true, false, List, [], ◌∷◌, ◌++◌, length, length-append, get_or, refl, sym, ap, ◌∙◌, subst, arith}
use Rattle.std.specs.List.{list_any}
use Rattle.std.proofs.lemmas.Bool.{cases_lt, false≢true, eq-eqb}
use Rattle.std.proofs.lemmas.List.Folds.{list_any_at}
use Rattle.std.proofs.lemmas.List.{get_or_append_left, get_or_at}
use Rattle.split_queue.specs.Descriptors.{descriptor_at, has_next}
use Rattle.split_queue.specs.Walks.{NamesNext, IsWalk}
use Rattle.split_queue.specs.declared.queue_place.Place.{Place}

-- the head alone
pub head_walk : (mem : List ℕ) (place : Place) (head : ℕ) → head < place.size → IsWalk mem place head (head ∷ [])
head_walk mem place head inside = record {
  some = omega arith;
  begins = refl;
  below = λ k h. let e : k ≡ 0 = omega arith in rw e inside;
  distinct = λ j k apart h. absurd (omega arith);
  names_next = λ k h. absurd (omega arith);
}

not_visited : (visited : List ℕ) (n j : ℕ) → list_any (λ m. m == n) visited ≡ false → j < length visited → get_or visited j 0 ≢ n
not_visited visited n j none below = λ same. absurd (let there = list_any_at (λ m. m == n) visited j 0 below (eq-eqb (get_or visited j 0) n same) in cc)

-- the walk with the descriptor that its last one names
pub push_walk : (mem : List ℕ) (place : Place) (head : ℕ) (front : List ℕ) (number n : ℕ) → IsWalk mem place head (front ++ number ∷ []) → NamesNext mem place number n → n < place.size → list_any (λ m. m == n) (front ++ number ∷ []) ≡ false → IsWalk mem place head ((front ++ number ∷ []) ++ n ∷ [])
push_walk mem place head front number n walk names inside new =
    let xs = front ++ number ∷ [] in
    let old_len : length xs ≡ length front + 1 = length-append front (number ∷ []) in
    let new_len : length (xs ++ n ∷ []) ≡ length xs + 1 = length-append xs (n ∷ []) in
    let left : (k : ℕ) → k < length xs → get_or (xs ++ n ∷ []) k 0 ≡ get_or xs k 0 = λ k h. get_or_append_left xs (n ∷ []) 0 k h in
    let last : get_or (xs ++ n ∷ []) (length xs) 0 ≡ n = get_or_at xs n [] 0 (length xs) refl in
    let before_last : get_or xs (length front) 0 ≡ number = get_or_at front number [] 0 (length front) refl in
    record {
      some = omega arith;
      begins = left 0 (omega arith) ∙ walk.begins;
      below = λ k h. elim (cases_lt k (length xs)) [
        | inl l ↦ rw (left k l) (walk.below k l)
        | inr g ↦ let e : k ≡ length xs = omega arith in rw (e, last) inside
      ];
      distinct = λ j k apart h same. elim (cases_lt k (length xs)) [
        | inl l ↦ walk.distinct j k apart l (sym (left j (omega arith)) ∙ same ∙ left k l)
        | inr g ↦
            let e : k ≡ length xs = omega arith in
            let at_k : get_or (xs ++ n ∷ []) k 0 ≡ n = rw e last in
            not_visited xs n j new (omega arith) (sym (left j (omega arith)) ∙ same ∙ at_k)
      ];
      names_next = λ k h. elim (cases_lt (suc k) (length xs)) [
        | inl l ↦ rw (left k (omega arith), left (suc k) l) (walk.names_next k l)
        | inr g ↦
            let e : suc k ≡ length xs = omega arith in
            let f : k ≡ length front = omega arith in
            let at_k : get_or (xs ++ n ∷ []) k 0 ≡ number = left k (omega arith) ∙ rw f before_last in
            let at_next : get_or (xs ++ n ∷ []) (suc k) 0 ≡ n = rw e last in
            rw (at_k, at_next) names
      ];
    }

-- two walks from one head agree as far as both go
agree : (mem : List ℕ) (place : Place) (head : ℕ) (xs ys : List ℕ) → IsWalk mem place head xs → IsWalk mem place head ys → (k : ℕ) → k < length xs → k < length ys → get_or ys k 0 ≡ get_or xs k 0
agree mem place head xs ys walk other zero h g = other.begins ∙ sym walk.begins
agree mem place head xs ys walk other (suc k) h g =
    let same = agree mem place head xs ys walk other k (omega arith) (omega arith) in
    sym (other.names_next k g).next_is ∙ ap (λ m. (descriptor_at mem place m).next) same ∙ (walk.names_next k h).next_is

-- a walk to a descriptor that none follows is the longest
pub longest_walk : (mem : List ℕ) (place : Place) (head : ℕ) (front : List ℕ) (number : ℕ) → IsWalk mem place head (front ++ number ∷ []) → has_next (descriptor_at mem place number) ≡ false → (other : List ℕ) → IsWalk mem place head other → length other ≤ length (front ++ number ∷ [])
longest_walk mem place head front number walk ends other is_other =
    let len : length (front ++ number ∷ []) ≡ length front + 1 = length-append front (number ∷ []) in
    elim (cases_lt (length (front ++ number ∷ [])) (length other)) [
      | inr fits ↦ fits
      | inl longer ↦
          let last : get_or (front ++ number ∷ []) (length front) 0 ≡ number = get_or_at front number [] 0 (length front) refl in
          let same : get_or other (length front) 0 ≡ number = agree mem place head (front ++ number ∷ []) other walk is_other (length front) (omega arith) (omega arith) ∙ last in
          let names = is_other.names_next (length front) (omega arith) in
          let goes_on : has_next (descriptor_at mem place number) ≡ true = subst (λ m. has_next (descriptor_at mem place m) ≡ true) same names.goes_on in
          absurd (false≢true (sym ends ∙ goes_on))
    ]
