-- Workers in a row, of which one more did its turn.
use Rattle.std.proofs.Common.{◌≡◌, ◌≢◌, ℕ, zero, suc, ◌+◌, ◌<◌, ◌≤◌, List, ◌∷◌, length, get_or, refl, sym, ap, subst, ◌∙◌, add-zero, arith, ⊎_elim}
use Rattle.std.proofs.Math.ListN.{set, length-set}
use Rattle.std.proofs.lemmas.Bool.{cases_lt}
use Rattle.std.specs.Prelude.{All}
use Rattle.std.proofs.lemmas.List.{get_or_default, get_or-set_same, get_or-set_other}
use Rattle.snapshots.specs.Workers.{WorkerState}
use Rattle.steer.specs.LiveSteps.{HaveTurned, HasReadOn, HaveRead, HaveRoom}
use Rattle.steer.specs.Shares.{share, share_len}

pub none_turned : (R : ℕ → WorkerState → WorkerState → Type 0) (ws : List WorkerState) → HaveTurned R 0 ws ws
none_turned R ws = record { as_many = refl; done = λ k d lt. absurd (omega arith); rest = λ k d le. refl }

pub turn_more : (R : ℕ → WorkerState → WorkerState → Type 0) (i : ℕ) (before now : List WorkerState) (v : WorkerState) → i < length now → ((d : WorkerState) → R i (get_or now i d) v) → HaveTurned R i before now → HaveTurned R (i + 1) before (set now i v)
turn_more R i before now v inside turned h = record {
  as_many = length-set now i v ∙ h.as_many;
  done = λ k d lt. ⊎_elim (λ (below : k < i). old k d below) (λ (above : i ≤ k). new k d (omega arith)) (cases_lt k i);
  rest = λ k d le. let ne : k ≢ i = omega arith in get_or-set_other now i k v d ne ∙ h.rest k d (omega arith);
} where
  old : (k : ℕ) (d : WorkerState) → k < i → R k (get_or before k d) (get_or (set now i v) k d)
  old k d below = let ne : k ≢ i = omega arith in subst (λ x. R k (get_or before k d) x) (sym (get_or-set_other now i k v d ne)) (h.done k d below)

  here : (d : WorkerState) → R i (get_or before i d) (get_or (set now i v) i d)
  here d = subst (λ x. R i (get_or before i d) x) (sym (get_or-set_same now i v d inside)) (subst (λ x. R i x v) (h.rest i d (omega arith)) (turned d))

  new : (k : ℕ) (d : WorkerState) → k ≡ i → R k (get_or before k d) (get_or (set now i v) k d)
  new k d same = subst (λ j. R j (get_or before j d) (get_or (set now i v) j d)) (sym same) (here d)

-- the same, where the worker was read at its place
pub turn_at : (R : ℕ → WorkerState → WorkerState → Type 0) (i : ℕ) (before now : List WorkerState) (o v : WorkerState) → i < length before → R i (get_or now i o) v → HaveTurned R i before now → HaveTurned R (i + 1) before (set now i v)
turn_at R i before now o v inside turned h =
    let within : i < length now = omega (arith, h.as_many, inside) in
    turn_more R i before now v within (λ d. subst (λ x. R i x v) (get_or_default now i o d within) turned) h

-- what holds of each worker still holds of those that didn't have their turn
pub holds_unturned : (P : WorkerState → Type 0) (R : ℕ → WorkerState → WorkerState → Type 0) (i : ℕ) (before now : List WorkerState) (o : WorkerState) → i < length before → All P before → HaveTurned R i before now → P (get_or now i o)
holds_unturned P R i before now o inside all h = subst P (sym (h.rest i o (omega arith))) (all i o inside)

-- ---- the first of them, and the others

pub rooms_rest : (n workers place : ℕ) (ws : List WorkerState) (x : WorkerState) (xs : List WorkerState) → ws ≡ x ∷ xs → HaveRoom n workers place ws → HaveRoom n workers (place + 1) xs
rooms_rest n workers place ws x xs is h = record {
  each = λ k d lt.
      let all : HaveRoom n workers place (x ∷ xs) = subst (HaveRoom n workers place) is h in
      let next : place + suc k ≡ place + 1 + k = omega arith in
      subst (λ p. share_len n workers p < (get_or xs k d).spare) next (all.each (suc k) d (omega arith));
}

pub reads_cons : (frames : List (List ℕ)) (workers place : ℕ) (before : List WorkerState) (x y : WorkerState) (xs ys : List WorkerState) → before ≡ x ∷ xs → HasReadOn x y (share frames workers place) → HaveRead frames workers (place + 1) xs ys → HaveRead frames workers place before (y ∷ ys)
reads_cons frames workers place before x y xs ys is one others = subst (λ b. HaveRead frames workers place b (y ∷ ys)) (sym is) (record { as_many = ap suc others.as_many; each = each }) where
  each : (k : ℕ) (d : WorkerState) → k < length (x ∷ xs) → HasReadOn (get_or (x ∷ xs) k d) (get_or (y ∷ ys) k d) (share frames workers (place + k))
  each zero d lt = subst (λ p. HasReadOn x y (share frames workers p)) (sym (add-zero place)) one
  each (suc k) d lt =
      let next : place + 1 + k ≡ place + suc k = omega arith in
      subst (λ p. HasReadOn (get_or xs k d) (get_or ys k d) (share frames workers p)) next (others.each k d (omega arith))
