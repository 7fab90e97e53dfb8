-- Facts on the pieces of a list of bytes.
use Rattle.std.proofs.Common.{◌≡◌, ℕ, zero, suc, ◌+◌, ◌-◌, ◌<◌, ◌≤◌, List, [], ◌∷◌, ◌++◌, length, get_or, take, slice_range, Some, refl, ap, sym, ◌∙◌, arith, ⊎_elim, ◌⊎◌, inl, inr, subst, add-one}
use Rattle.std.specs.List.{slice_get}
use Rattle.std.proofs.lemmas.Bool.{cases_lt}
use Rattle.std.proofs.lemmas.List.{same_lists, length-append, get_or_push, length_push, get_or_append_left, drop_at, take_all}
use Rattle.std.proofs.lemmas.Grind.{common_steps}
use Rattle.std.proofs.lemmas.Option.{get_or_from_slice_get}
use Rattle.capture.specs.Pieces.{pieces, ArePlaces}

-- how many there are
pub length-pieces : (bytes places : List ℕ) → length (pieces bytes places) ≡ length places - 1
length-pieces bytes [] = refl
length-pieces bytes (from ∷ []) = refl
length-pieces bytes (from ∷ to ∷ places) = let more = length-pieces bytes (to ∷ places) in omega arith

-- one of them
pub pieces-at : (bytes places : List ℕ) (k : ℕ) → k + 1 < length places → slice_get (pieces bytes places) k ≡ Some (slice_range bytes (get_or places k 0) (get_or places (k + 1) 0))
pieces-at bytes [] k within = absurd (omega arith)
pieces-at bytes (from ∷ []) k within = absurd (omega arith)
pieces-at bytes (from ∷ to ∷ places) zero within = refl
pieces-at bytes (from ∷ to ∷ places) (suc k) within =
    let next : suc (k + 1) ≡ suc k + 1 = omega arith in
    pieces-at bytes (to ∷ places) k (omega arith) ∙ ap (λ n. Some (slice_range bytes (get_or (to ∷ places) k 0) (get_or (from ∷ to ∷ places) n 0))) next

-- a piece of the front, where more bytes follow
slice_range-front : (xs ys : List ℕ) (from to : ℕ) → from ≤ to → to ≤ length xs → slice_range (xs ++ ys) from to ≡ slice_range xs from to
slice_range-front xs ys from to up within = grind (arith, common_steps)

-- the k-th piece
pieces-get_or : (bytes places : List ℕ) (k : ℕ) (d : List ℕ) → k + 1 < length places → get_or (pieces bytes places) k d ≡ slice_range bytes (get_or places k 0) (get_or places (k + 1) 0)
pieces-get_or bytes places k d within = get_or_from_slice_get (pieces bytes places) k _ d (pieces-at bytes places k within)

-- a place within the first ones
place-front : (places : List ℕ) (k last : ℕ) → k < length places → get_or (places ++ last ∷ []) k 0 ≡ get_or places k 0
place-front places k last within = get_or_append_left places (last ∷ []) 0 k within

-- what stands behind the front
slice_range-behind : (xs ys : List ℕ) (from to : ℕ) → from ≡ length xs → to ≡ length (xs ++ ys) → slice_range (xs ++ ys) from to ≡ ys
slice_range-behind xs ys from to begins ends =
    let whole : to - from ≡ length ys = omega (arith, length-append xs ys) in
    ap (λ n. take (to - from) n) (drop_at xs ys from (sym begins)) ∙ take_all (to - from) ys (omega arith)

-- the pieces with one more, at each place
push-at : (bytes piece places : List ℕ) (k : ℕ) (d : List ℕ) → ArePlaces bytes places → k < length places → get_or (pieces (bytes ++ piece) (places ++ length (bytes ++ piece) ∷ [])) k d ≡ get_or (pieces bytes places ++ piece ∷ []) k d
push-at bytes piece places k d are within =
    let end = length (bytes ++ piece) in
    let more = length_push places end in
    let count = length-pieces bytes places in
    let first = pieces-get_or (bytes ++ piece) (places ++ end ∷ []) k d (omega arith) in
    let from = place-front places k end within in
    ⊎_elim (λ inner. let to = place-front places (k + 1) end inner in
    let up = are.rise k inner in
    let same = slice_range-front bytes piece (get_or places k 0) (get_or places (k + 1) 0) up (are.within (k + 1) inner) in
    first ∙ ap (λ n. slice_range (bytes ++ piece) n (get_or (places ++ end ∷ []) (k + 1) 0)) from ∙ ap (slice_range (bytes ++ piece) (get_or places k 0)) to ∙ same ∙ sym (pieces-get_or bytes places k d inner) ∙ sym (get_or_append_left (pieces bytes places) (piece ∷ []) d k (omega arith)))
    (λ outer. let at_end : k + 1 ≡ length places = omega arith in
    let before : length places - 1 ≡ k = omega arith in
    let begins : get_or places k 0 ≡ length bytes = ap (λ n. get_or places n 0) (sym before) ∙ are.last in
    let to : get_or (places ++ end ∷ []) (k + 1) 0 ≡ end = get_or_push places end 0 (k + 1) (sym at_end) in
    first ∙ slice_range-behind bytes piece _ _ (from ∙ begins) to ∙ sym (get_or_push (pieces bytes places) piece d k (omega arith)))
    (cases_lt (k + 1) (length places))

-- one more piece, at the end
pub pieces-push : (bytes piece places : List ℕ) → ArePlaces bytes places → pieces (bytes ++ piece) (places ++ (length (bytes ++ piece) ∷ [])) ≡ pieces bytes places ++ (piece ∷ [])
pieces-push bytes piece places are =
    let end = length (bytes ++ piece) in
    let some = are.some in
    let left = length-pieces (bytes ++ piece) (places ++ end ∷ []) in
    let more = length_push places end in
    let right = length_push (pieces bytes places) piece in
    let count = length-pieces bytes places in
    same_lists _ _ (omega arith) (λ k d within. push-at bytes piece places k d are (omega arith))

-- where a piece begins and ends, where the first begins at 0
pub record HasEnds (bytes ends : List ℕ) (place : ℕ) : Type 0 where
  pub up : get_or (0 ∷ ends) place 0 ≤ get_or ends place 0
  pub inside : get_or ends place 0 ≤ length bytes
  pub is : slice_get (pieces bytes (0 ∷ ends)) place ≡ Some (slice_range bytes (get_or (0 ∷ ends) place 0) (get_or ends place 0))

pub ends-at : (bytes ends : List ℕ) (place : ℕ) → ArePlaces bytes (0 ∷ ends) → place < length ends → HasEnds bytes ends place
ends-at bytes ends place are below =
    let next : get_or (0 ∷ ends) (place + 1) 0 ≡ get_or ends place 0 = ap (λ n. get_or (0 ∷ ends) n 0) (add-one place) in
    let start = get_or (0 ∷ ends) place 0 in
    record {
      up = subst (λ n. start ≤ n) next (are.rise place (omega arith));
      inside = subst (λ n. n ≤ length bytes) next (are.within (place + 1) (omega arith));
      is = pieces-at bytes (0 ∷ ends) place (omega arith) ∙ ap (λ n. Some (slice_range bytes start n)) next;
    }

-- the places with one more
push-place : (places : List ℕ) (last k : ℕ) → k ≤ length places → (k < length places) × (get_or (places ++ last ∷ []) k 0 ≡ get_or places k 0) ⊎ (k ≡ length places) × (get_or (places ++ last ∷ []) k 0 ≡ last)
push-place places last k within = ⊎_elim
    (λ (inner : k < length places). inl (inner, place-front places k last inner))
    (λ (outer : length places ≤ k). let at_end : k ≡ length places = omega arith in inr (at_end, get_or_push places last 0 k (sym at_end)))
    (cases_lt k (length places))

pub ArePlaces-push : (bytes piece places : List ℕ) → ArePlaces bytes places → ArePlaces (bytes ++ piece) (places ++ (length (bytes ++ piece) ∷ []))
ArePlaces-push bytes piece places are =
    let end = length (bytes ++ piece) in
    let more = length_push places end in
    let long : length bytes ≤ end = omega (arith, length-append bytes piece) in
    let some = are.some in
    record {
      some = omega (arith, more);
      rise = λ k inner. elim (push-place places end (k + 1) (omega (arith, inner, more))) [
        | inl here ↦ rw (here.1, place-front places k end (omega (arith, here.0))) (are.rise k here.0)
        | inr last ↦ rw (last.1, place-front places k end (omega (arith, last.0))) (omega (arith, are.within k (omega (arith, last.0)), long))
      ];
      within = λ k inner. elim (push-place places end k (omega (arith, inner, more))) [
        | inl here ↦ rw here.1 (omega (arith, are.within k here.0, long))
        | inr last ↦ rw last.1 (omega arith)
      ];
      last =
          let at : length (places ++ end ∷ []) - 1 ≡ length places = omega (arith, more) in
          rw at (get_or_push places end 0 (length places) refl);
    }

pub ruleset piece_facts = (length-pieces, pieces-at)

pub ruleset pieces_push = pieces-push
