-- Which frames a worker reads: each is there, and each frame is read by one worker, at one turn.
use Rattle.std.proofs.Common.{◌≡◌, ℕ, ◌+◌, ◌*◌, ◌/◌, ◌%◌, ◌<◌, ◌≤◌, List, [], ◌∷◌, ◌++◌, length, get_or, take, cond, Some, sym, ap, ◌∙◌, arith, ⊎_elim}
use Rattle.std.specs.Prelude.{slice_get}
use Rattle.std.proofs.Math.Nat.{mul-le-mul_right}
use Rattle.std.proofs.lemmas.Nat.{div-add-mod', le-div}
use Rattle.std.proofs.lemmas.Bool.{cases_lt, lt-ltb, le-ltb}
use Rattle.std.proofs.lemmas.List.{take_all, take_more}
use Rattle.std.proofs.lemmas.List.FromFn.{length-map-range_with_len, get_or-map-range_with_len}
use Rattle.std.proofs.lemmas.Option.{get_or_from_slice_get}
use Rattle.steer.specs.Shares.{share_len, share}

-- a worker of a place below the remainder has one frame more
long_share : (n w p : ℕ) → p < n % w → share_len n w p ≡ n / w + 1
long_share n w p lt = ap (λ b. n / w + cond b 1 0) (lt-ltb p (n % w) lt)

short_share : (n w p : ℕ) → n % w ≤ p → share_len n w p ≡ n / w + 0
short_share n w p le = ap (λ b. n / w + cond b 1 0) (le-ltb p (n % w) le)

-- the frame of a turn is there
pub turn_within : (n w p t : ℕ) → p < w → t < share_len n w p → p + t * w < n
turn_within n w p t within h = ⊎_elim long short (cases_lt p (n % w)) where
  whole : n / w * w + n % w ≡ n
  whole = div-add-mod' n w

  long : p < n % w → p + t * w < n
  long lt =
      let len = long_share n w p lt in
      let le : t ≤ n / w = omega arith in
      omega (arith, mul-le-mul_right w le, whole)

  short : n % w ≤ p → p + t * w < n
  short ge =
      let len = short_share n w p ge in
      let le : t + 1 ≤ n / w = omega arith in
      omega (arith, mul-le-mul_right w le, whole)

-- each frame has its turn
pub turn_of : (n w i : ℕ) → 0 < w → i < n → i / w < share_len n w (i % w)
turn_of n w i some lt = ⊎_elim long short (cases_lt (i % w) (n % w)) where
  whole : n / w * w + n % w ≡ n
  whole = div-add-mod' n w

  mine : i / w * w + i % w ≡ i
  mine = div-add-mod' i w

  long : i % w < n % w → i / w < share_len n w (i % w)
  long small =
      let len = long_share n w (i % w) small in
      let le : i / w ≤ n / w = le-div (i / w) n w some (omega arith) in
      omega arith

  short : n % w ≤ i % w → i / w < share_len n w (i % w)
  short large =
      let len = short_share n w (i % w) large in
      ⊎_elim (λ (below : i / w < n / w). omega arith) (λ (above : n / w ≤ i / w). absurd (omega (arith, mul-le-mul_right w above))) (cases_lt (i / w) (n / w))

pub share_long : (frames : List (List ℕ)) (w p : ℕ) → length (share frames w p) ≡ share_len (length frames) w p
unfolding share
share_long frames w p = length-map-range_with_len (λ turn. get_or frames (p + turn * w) []) 0 (share_len (length frames) w p)

-- the frame at a turn
pub share_at : (frames : List (List ℕ)) (w p t : ℕ) → t < share_len (length frames) w p → get_or (share frames w p) t [] ≡ get_or frames (p + t * w) []
unfolding share
share_at frames w p t lt = get_or-map-range_with_len (λ turn. get_or frames (p + turn * w) []) 0 (share_len (length frames) w p) t t [] lt (omega arith)

-- one turn more
pub share_more : (frames : List (List ℕ)) (w p t : ℕ) → t < share_len (length frames) w p → take (t + 1) (share frames w p) ≡ take t (share frames w p) ++ get_or frames (p + t * w) [] ∷ []
share_more frames w p t lt =
    let inside : t < length (share frames w p) = omega (arith, share_long frames w p) in
    take_more (share frames w p) t [] inside ∙ ap (λ f. take t (share frames w p) ++ f ∷ []) (share_at frames w p t lt)

-- a frame in its worker's share
pub share_has : (frames : List (List ℕ)) (w i : ℕ) → 0 < w → i < length frames → get_or (share frames w (i % w)) (i / w) [] ≡ get_or frames i []
share_has frames w i some lt =
    let place : i % w + i / w * w ≡ i = omega (arith, div-add-mod' i w) in
    share_at frames w (i % w) (i / w) (turn_of (length frames) w i some lt) ∙ ap (λ k. get_or frames k []) place

-- one turn more, whose frame was read at its place
pub share_step : (frames : List (List ℕ)) (w p t i : ℕ) (frame : List ℕ) → t < share_len (length frames) w p → i ≡ p + t * w → slice_get frames i ≡ Some frame → take (t + 1) (share frames w p) ≡ take t (share frames w p) ++ frame ∷ []
share_step frames w p t i frame lt is at =
    share_more frames w p t lt ∙ ap (λ f. take t (share frames w p) ++ f ∷ []) (ap (λ k. get_or frames k []) (sym is) ∙ get_or_from_slice_get frames i frame [] at)

-- all turns
pub share_all : (frames : List (List ℕ)) (w p t : ℕ) → share_len (length frames) w p ≤ t → take t (share frames w p) ≡ share frames w p
share_all frames w p t le = take_all t (share frames w p) (omega (arith, share_long frames w p))
