-- A log stands for its reads still when the list has grown, and when one read more was logged.
use Rattle.std.proofs.Common.{◌≡◌, ℕ, zero, suc, ◌+◌, ◌-◌, ◌<◌, ◌≤◌, ◌^◌, true, not, cond, fold, List, [], ◌∷◌, ◌++◌, length, take, get_or, nat_lt, Some, slice_get, All, refl, ap, sym, subst, ◌∙◌, ◌⊎◌, inl, inr, arith, length-append, le_trans}
use Rattle.std.proofs.lemmas.List.{take-append-le}
use Rattle.std.proofs.lemmas.Option.{slice_get-get_or}
use Rattle.std.proofs.lemmas.List.Sums.{count_by-le-length, sum_by-append}
use Rattle.std.specs.List.{sum_by}
use Rattle.std.proofs.lemmas.Bool.Decides.{nat_tests}
use mathlib.Core.List.{IsPrefix}
use Rattle.ff_headers.specs.Frames.{headers_of}
use Rattle.ff_headers.specs.Objects.{no_objects}
use Rattle.ff_headers.specs.Changes.{after, step, change_count, saturated, is_close}
use Rattle.ff_headers.specs.Places.{action_of}
use Rattle.ff_headers.specs.declared.limits.Limits.{Limits}
use Rattle.ff_headers.specs.declared.change.Change.{Change}
use Rattle.snapshots.specs.Lists.{Covers}
use Rattle.snapshots.specs.Reads.{IsRead, seen_after}
use Rattle.snapshots.specs.Workers.{WorkerState, Logged, IsLogged, first_floor, log_after}
use Rattle.snapshots.specs.declared.seen.Seen.{Seen}
use Rattle.snapshots.proofs.Beginnings.{prefix_self}

-- one element more
get_more : {A : Type 0} (xs : List A) (x y : A) (k : ℕ) → slice_get (xs ++ x ∷ []) k ≡ Some y
    → ((k < length xs) × (slice_get xs k ≡ Some y)) ⊎ ((k ≡ length xs) × (x ≡ y))
get_more [] x y zero h = inr (refl, cc (h))
get_more [] x y (suc k) h = absurd (cc (h))
get_more (z ∷ xs) x y zero h = inl (omega arith, h)
get_more (z ∷ xs) x y (suc k) h =
    elim (get_more xs x y k h) [
      | inl l ↦ inl (omega (arith, l.0), l.1)
      | inr r ↦ inr (omega (arith, r.0), r.1)
    ]

get_within : {A : Type 0} (xs : List A) (y : A) (k : ℕ) → slice_get xs k ≡ Some y → k < length xs
get_within [] y k h = absurd (cc (h))
get_within (x ∷ xs) y zero h = omega arith
get_within (x ∷ xs) y (suc k) h = omega (arith, get_within xs y k h)

-- a longer list has no fewer changes
count_front : (xs ys : List Change) → IsPrefix xs ys → change_count xs ≤ change_count ys
count_front xs ys p =
    let f : Change → ℕ = λ c. cond (not (is_close c)) 1 0 in
    omega (arith, sum_by-append f xs p.0, ap (sum_by f) p.1)

after_front : (limits : Limits) (xs ys : List Change) (k : ℕ) → IsPrefix xs ys → k ≤ length xs
    → after limits xs k ≡ after limits ys k
unfolding after
after_front limits xs ys k p le =
    let same : take k ys ≡ take k xs = ap (take k) (sym p.1) ∙ take-append-le k xs p.0 le in
    ap (λ cs. fold (step limits) no_objects cs) (sym same)

logged_front : (limits : Limits) (xs ys : List Change) (frame : List ℕ) (seen : Seen) → IsPrefix xs ys
    → IsLogged limits xs frame seen → IsLogged limits ys frame seen
logged_front limits xs ys frame seen p h = record {
  counted = le_trans h.counted (count_front xs ys p);
  acted = h.acted ∙ ap (λ o. action_of o (headers_of frame))
      (after_front limits xs ys seen.after p (le_trans h.counted (count_by-le-length (λ c. not (is_close c)) xs)));
}

-- the first floor stays when floors come behind
pub floor_more : (floors : List (List Change)) (list : List Change)
    → IsPrefix (first_floor floors) (first_floor (floors ++ list ∷ []))
floor_more [] list = (list, refl)
floor_more (f ∷ floors) list = prefix_self f

-- a list that covers all floors begins with the first
pub floor_covered : (floors : List (List Change)) (list : List Change) → All (Covers list) floors
    → IsPrefix (first_floor floors) list
floor_covered [] list h = (list, refl)
floor_covered (f ∷ floors) list h = (h 0 [] (omega arith)).begins

-- a worker whose first floor has grown
pub logged_on : (old new : WorkerState) → new.limits ≡ old.limits → new.log ≡ old.log
    → IsPrefix (first_floor old.floors) (first_floor new.floors)
    → (frames : List (List ℕ)) → Logged old frames → Logged new frames
logged_on old new limits log p frames h = record {
  long = ap length log ∙ h.long;
  each = λ at seen frame s f.
      subst (λ l. IsLogged l (first_floor new.floors) frame seen) (sym limits)
      (logged_front old.limits _ _ frame seen p (h.each at seen frame (ap (λ xs. slice_get xs at) (sym log) ∙ s) f));
  rises = λ i j a b less s t.
      h.rises i j a b less (ap (λ xs. slice_get xs i) (sym log) ∙ s) (ap (λ xs. slice_get xs j) (sym log) ∙ t);
}

-- a read of a list that isn't too long
read_logged : (limits : Limits) (list : List Change) (frame : List ℕ) → length list < 2 ^ 64 - 1
    → IsLogged limits list frame (seen_after limits list (headers_of frame))
read_logged limits list frame short =
    let within = count_by-le-length (λ c. not (is_close c)) list in
    let n : saturated (change_count list) ≡ change_count list = omega (arith, within, short) in
    record {
      counted = omega (arith, n);
      acted = ap (λ k. action_of (after limits list k) (headers_of frame)) (sym n);
    }

rise_more : (list : List Change) (log : List Seen) (seen : Seen)
    → ((at : ℕ) (s : Seen) → slice_get log at ≡ Some s → s.after ≤ seen.after)
    → ((i j : ℕ) (a b : Seen) → i < j → slice_get log i ≡ Some a → slice_get log j ≡ Some b → a.after ≤ b.after)
    → (i j : ℕ) (a b : Seen) → i < j → slice_get (log ++ seen ∷ []) i ≡ Some a → slice_get (log ++ seen ∷ []) j ≡ Some b
    → a.after ≤ b.after
rise_more list log seen below rises i j a b less s t =
    elim (get_more log seen b j t) [
      | inl r ↦ elim (get_more log seen a i s) [
        | inl l ↦ rises i j a b less l.1 r.1
        | inr l ↦ absurd (omega (arith, l.0, r.0, less))
      ]
      | inr r ↦ elim (get_more log seen a i s) [
        | inl l ↦ subst (λ x. a.after ≤ x.after) r.1 (below i a l.1)
        | inr l ↦ absurd (omega (arith, l.0, r.0, less))
      ]
    ]

logged_grown : (limits : Limits) (from list : List Change) (log : List Seen) (frames : List (List ℕ)) (frame : List ℕ)
    → IsPrefix from list → length list < 2 ^ 64 - 1 → length log ≡ length frames
    → ((at : ℕ) (s : Seen) (f : List ℕ) → slice_get log at ≡ Some s → slice_get frames at ≡ Some f → IsLogged limits from f s)
    → (at : ℕ) (s : Seen) (f : List ℕ) → slice_get (log ++ seen_after limits list (headers_of frame) ∷ []) at ≡ Some s
    → slice_get (frames ++ frame ∷ []) at ≡ Some f → IsLogged limits list f s
logged_grown limits from list log frames frame p short long each at s f hs hf =
    elim (get_more log (seen_after limits list (headers_of frame)) s at hs) [
      | inl l ↦ elim (get_more frames frame f at hf) [
        | inl r ↦ logged_front limits from list f s p (each at s f l.1 r.1)
        | inr r ↦ absurd (omega (arith, l.0, r.0, long))
      ]
      | inr l ↦ elim (get_more frames frame f at hf) [
        | inl r ↦ absurd (omega (arith, l.0, r.0, long))
        | inr r ↦ subst (λ x. IsLogged limits list f x) l.1
            (subst (λ x. IsLogged limits list x (seen_after limits list (headers_of frame))) r.1
            (read_logged limits list frame short))
      ]
    ]

-- each number in the log is of changes in the first floor
below_floor : (worker : WorkerState) (frames : List (List ℕ)) → Logged worker frames
    → (at : ℕ) (s : Seen) → slice_get worker.log at ≡ Some s → s.after ≤ change_count (first_floor worker.floors)
below_floor worker frames h at s hs =
    let in_frames : at < length frames = omega (arith, get_within worker.log s at hs, h.long) in
    (h.each at s (get_or frames at []) hs (slice_get-get_or frames at [] in_frames)).counted

-- a worker that logged one read more
pub logged_more : (old new : WorkerState) (frames : List (List ℕ)) (frame : List ℕ) (seen : Seen) → new.limits ≡ old.limits
    → new.log ≡ old.log ++ seen ∷ [] → IsRead old.limits old.floors new.floors (headers_of frame) seen
    → length (first_floor new.floors) < 2 ^ 64 - 1 → Logged old frames → Logged new (frames ++ frame ∷ [])
logged_more old new frames frame seen limits log read short h =
    let list = read.list in
    let first : first_floor new.floors ≡ list = ap first_floor read.floors in
    let p = floor_covered old.floors list read.covers in
    let short_list : length list < 2 ^ 64 - 1 = subst (λ l. length l < 2 ^ 64 - 1) first short in
    let log_is : new.log ≡ old.log ++ seen_after old.limits list (headers_of frame) ∷ [] =
    log ∙ ap (λ s. old.log ++ s ∷ []) read.value in
    let now = seen_after old.limits list (headers_of frame) in
    let n : now.after ≡ change_count list =
    omega (arith, count_by-le-length (λ c. not (is_close c)) list, short_list) in
    record {
      long = ap length log_is ∙ (length-append old.log (now ∷ []) ∙ (ap (λ k. k + 1) h.long ∙ sym (length-append frames (frame ∷ []))));
      each = λ at s f hs hf.
          subst (λ l. IsLogged l (first_floor new.floors) f s) (sym limits)
          (subst (λ l. IsLogged old.limits l f s) (sym first)
          (logged_grown old.limits (first_floor old.floors) list old.log frames frame p short_list h.long h.each at s f
          (ap (λ xs. slice_get xs at) (sym log_is) ∙ hs) hf));
      rises = λ i j a b less s t.
          rise_more list old.log now
          (λ at x hx. let low = below_floor old frames h at x hx in omega (arith, low, count_front (first_floor old.floors) list p, n))
          h.rises i j a b less (ap (λ xs. slice_get xs i) (sym log_is) ∙ s) (ap (λ xs. slice_get xs j) (sym log_is) ∙ t);
    }

pub log_after_more : (log : List Seen) (spare : ℕ) (seen : Seen) → 0 < spare → log_after log spare seen ≡ log ++ seen ∷ []
log_after_more log spare seen h = let e : nat_lt 0 spare ≡ true = grind (arith, nat_tests) in rw e refl

pub after_counted : (limits : Limits) (list floor : List Change) (k : ℕ) → IsPrefix floor list → k ≤ change_count floor
    → after limits floor k ≡ after limits list k
after_counted limits list floor k p le =
    after_front limits floor list k p (le_trans le (count_by-le-length (λ c. not (is_close c)) floor))

pub logged_empty : (worker : WorkerState) → worker.log ≡ [] → Logged worker []
logged_empty worker e = record {
  long = ap length e;
  each = λ at s f hs hf. absurd (none_there f at hf);
  rises = λ i j a b less hs ht. absurd (none_there a i (ap (λ xs. slice_get xs i) (sym e) ∙ hs));
}
  where
    none_there : {A : Type 0} (x : A) (k : ℕ) → slice_get [] k ≡ Some x → ⊥
    none_there x k h = cc (h)
