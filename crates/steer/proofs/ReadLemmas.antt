-- The reads of one worker: one read, and several one after another.
use Rattle.std.proofs.Common.{◌≡◌, ℕ, ◌+◌, ◌-◌, ◌^◌, ◌<◌, ◌≤◌, true, false, cond, List, [], ◌∷◌, ◌++◌, length, refl, sym, ap, subst, ◌∙◌, append_assoc, append-nil, length-append, arith}
use Rattle.std.specs.Prelude.{All, Option, None, Some, IsSome, MatchOption, is_some, not, slice_get}
use mathlib.Core.List.{IsPrefix}
use Rattle.std.proofs.lemmas.Bool.{lt-ltb}
use Rattle.std.proofs.lemmas.List.Sums.{sum_by-append}
use Rattle.std.proofs.lemmas.List.Elements.{All-contains, All-push, All-head}
use Rattle.ff_headers.specs.Changes.{change_count, saturated, is_close}
use Rattle.ff_headers.specs.Frames.{HeaderBytes, headers_of}
use Rattle.ff_headers.specs.declared.change.Change.{Change}
use Rattle.ff_headers.specs.declared.limits.Limits.{Limits}
use Rattle.snapshots.specs.Lists.{Covers}
use Rattle.snapshots.specs.Reads.{IsRead}
use Rattle.snapshots.specs.Workers.{WorkerState, Logged, IsLogged, first_floor, log_after}
use Rattle.snapshots.specs.declared.seen.Seen.{Seen}
use Rattle.steer.specs.LiveSteps.{HasEntered, HasFloor, SeesAtLeast, HasNotRead, HasReadOn}

-- ---- lists that begin with others

pub prefix_shorter : (a b : List Change) → IsPrefix a b → length a ≤ length b
prefix_shorter a b p = omega (arith, length-append a p.0, ap length p.1)

count-append : (a b : List Change) → change_count (a ++ b) ≡ change_count a + change_count b
count-append a b = sum_by-append (λ change. cond (not (is_close change)) 1 0) a b

pub prefix_fewer : (a b : List Change) → IsPrefix a b → change_count a ≤ change_count b
prefix_fewer a b p = omega (arith, count-append a p.0, ap change_count p.1)

first_covered : (floors : List (List Change)) (list : List Change) → All (Covers list) floors → length (first_floor floors) ≤ length list
first_covered [] list covers = omega arith
first_covered (floor ∷ floors) list covers =
    let head : Covers list floor = All-head (Covers list) floor floors covers in
    prefix_shorter floor list head.begins

-- ---- nothing was read

logged_same : (a b : WorkerState) → HasNotRead a b → (frames : List (List ℕ)) → Logged a frames → Logged b frames
logged_same a b same frames h = record {
  long = ap length same.log ∙ h.long;
  each = λ at seen frame e f.
      let at_a : slice_get a.log at ≡ Some seen = ap (λ l. slice_get l at) (sym same.log) ∙ e in
      subst (λ l. IsLogged l (first_floor b.floors) frame seen) (sym same.limits)
      (subst (λ fl. IsLogged a.limits (first_floor fl) frame seen) (sym same.floors) (h.each at seen frame at_a f));
  rises = λ i j x y lt e f. h.rises i j x y lt (ap (λ l. slice_get l i) (sym same.log) ∙ e) (ap (λ l. slice_get l j) (sym same.log) ∙ f);
}

sees_same : (a b : WorkerState) → HasNotRead a b → (low : ℕ) → SeesAtLeast low a → SeesAtLeast low b
sees_same a b same low h = record {
  floor = subst (HasFloor low) (sym same.floors) h.floor;
  log = subst (All (λ seen. low ≤ seen.after)) (sym same.log) h.log;
}

pub reads_nothing : (a b : WorkerState) → HasNotRead a b → HasReadOn a b []
reads_nothing a b same = record {
  identity = same.identity;
  limits = same.limits;
  spare = omega (arith, same.spare);
  longer = let e = ap (λ fl. length (first_floor fl)) same.floors in omega arith;
  logged = λ bound earlier h. subst (Logged b) (sym (append-nil earlier)) (logged_same a b same earlier h);
  sees = λ low le h. sees_same a b same low h;
}

pub not_read : (a : WorkerState) → HasNotRead a a
not_read a = record { identity = refl; limits = refl; floors = refl; log = refl; spare = refl }

-- ---- several reads, one after another

pub reads_more : (a b c : WorkerState) (fs gs : List (List ℕ)) → HasReadOn a b fs → HasReadOn b c gs → HasReadOn a c (fs ++ gs)
reads_more a b c fs gs p q = record {
  identity = q.identity ∙ p.identity;
  limits = q.limits ∙ p.limits;
  spare = omega (arith, length-append fs gs, p.spare, q.spare);
  longer = omega (arith, p.longer, q.longer);
  logged = λ bound earlier h.
      let inner : length (first_floor b.floors) < 2 ^ 64 - 1 = omega (arith, q.longer, bound) in
      subst (Logged c) (append_assoc earlier fs gs) (q.logged bound (earlier ++ fs) (p.logged inner earlier h));
  sees = λ low le h. q.sees low le (p.sees low le h);
}

-- ---- one read

pub entered : (limits : Limits) (before now : List (List Change)) (headers : HeaderBytes) (seen : Seen) → IsRead limits before now headers seen → HasEntered before now
entered limits before now headers seen r = record { list = r.list; floors = r.floors; covers = r.covers }

pub one_read : (a b : WorkerState) (frame : List ℕ) (headers : HeaderBytes) (seen : Seen) → b.identity ≡ a.identity → b.limits ≡ a.limits → 0 < a.spare → IsRead a.limits a.floors b.floors headers seen → b.log ≡ log_after a.log a.spare seen → b.spare ≡ a.spare - 1 → ((frames : List (List ℕ)) → Logged a frames → length (first_floor b.floors) < 2 ^ 64 - 1 → Logged b (frames ++ frame ∷ [])) → HasReadOn a b (frame ∷ [])
one_read a b frame headers seen identity limits some r log spare logged = record {
  identity = identity;
  limits = limits;
  spare = omega arith;
  longer = let e = ap (λ fl. length (first_floor fl)) r.floors in let le = first_covered a.floors r.list r.covers in omega arith;
  logged = λ bound earlier h. logged earlier h bound;
  sees = sees_more;
} where
  enough : (low : ℕ) → low ≤ 2 ^ 64 - 1 → SeesAtLeast low a → low ≤ change_count r.list
  enough low le h =
      let cover : Covers r.list h.floor.0 = All-contains (Covers r.list) a.floors h.floor.0 r.covers h.floor.1 in
      omega (arith, prefix_fewer h.floor.0 r.list cover.begins, h.floor.2)

  after : seen.after ≡ saturated (change_count r.list)
  after = ap (λ (s : Seen). s.after) r.value

  longer_log : b.log ≡ a.log ++ seen ∷ []
  longer_log = log ∙ ap (λ t. cond t (a.log ++ seen ∷ []) a.log) (lt-ltb 0 a.spare some)

  sees_more : (low : ℕ) → low ≤ 2 ^ 64 - 1 → SeesAtLeast low a → SeesAtLeast low b
  sees_more low le h =
      let many = enough low le h in
      record {
        floor = subst (HasFloor low) (sym r.floors) (r.list, (0, omega arith, refl), many);
        log = subst (All (λ s. low ≤ s.after)) (sym longer_log) (All-push (λ s. low ≤ s.after) a.log seen h.log (omega (arith, after)));
      }

-- ---- one call of a worker that may have asked before

-- what a call that gave nothing leaves
pub asks_again : (a m b : WorkerState) (r : Option Seen) (R : Seen → Type 0) (S : Seen → Type 0) (P : Type 0) → HasNotRead a m → is_some r ≡ false → b.identity ≡ m.identity → b.limits ≡ m.limits → MatchOption r (P × (b.floors ≡ m.floors)) R → MatchOption r ((b.log ≡ m.log) × (b.spare ≡ m.spare)) S → HasNotRead a b
asks_again a m b None R S P h none identity limits answer log = record {
  identity = identity ∙ h.identity;
  limits = limits ∙ h.limits;
  floors = answer.1 ∙ h.floors;
  log = log.0 ∙ h.log;
  spare = log.1 ∙ h.spare;
}
asks_again a m b (Some seen) R S P h none identity limits answer log = absurd cc

-- what a call that gave an answer leaves
pub has_read : (a m b : WorkerState) (frame : List ℕ) (headers : HeaderBytes) (r : Option Seen) (P Q : Type 0) → headers ≡ headers_of frame → HasNotRead a m → 0 < a.spare → is_some r ≡ true → b.identity ≡ m.identity → b.limits ≡ m.limits → MatchOption r P (λ seen. IsRead m.limits m.floors b.floors headers seen) → MatchOption r Q (λ seen. (b.log ≡ log_after m.log m.spare seen) × (b.spare ≡ m.spare - 1)) → ((frames : List (List ℕ)) (f : List ℕ) → Logged m frames → 0 < m.spare → headers ≡ headers_of f → IsSome r → length (first_floor b.floors) < 2 ^ 64 - 1 → Logged b (frames ++ f ∷ [])) → HasReadOn a b (frame ∷ []) × HasEntered a.floors b.floors
has_read a m b frame headers None P Q is h some given identity limits answer log logged = absurd cc
has_read a m b frame headers (Some seen) P Q is h some given identity limits answer log logged =
    let room : 0 < m.spare = omega (arith, h.spare) in
    let one = one_read m b frame headers seen identity limits room answer log.0 log.1 (λ frames l bound. logged frames frame l room is refl bound) in
    let found : HasEntered m.floors b.floors = entered m.limits m.floors b.floors headers seen answer in
    (reads_more a m b [] (frame ∷ []) (reads_nothing a m h) one, subst (λ fl. HasEntered fl b.floors) h.floors found)
