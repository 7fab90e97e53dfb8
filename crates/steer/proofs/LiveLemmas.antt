-- The phases of a live run, put together.
use Rattle.std.proofs.Common.{◌≡◌, ℕ, ◌+◌, ◌/◌, ◌%◌, ◌^◌, ◌<◌, ◌≤◌, List, [], ◌∷◌, ◌++◌, length, get_or, take, drop, false, Some, Result, Ok, Err, refl, sym, ap, subst, ◌∙◌, append-nil, zero-add, arith}
use Rattle.std.specs.Prelude.{All, OnOk, is_err, slice_get}
use Rattle.std.proofs.Math.ListN.{drop_of_length-le}
use Rattle.std.proofs.Math.Seq.{take-length}
use Rattle.std.proofs.lemmas.List.{take-map, take_all}
use Rattle.std.proofs.lemmas.Option.{slice_get_within, get_or_from_slice_get}
use Rattle.arrayvec.specs.ArrayVec.{ArrayVec}
use Rattle.ff_headers.specs.Changes.{change_count}
use Rattle.ff_headers.specs.declared.change.Change.{Change}
use Rattle.ff_headers.specs.declared.change.Change.TheVariants.{Close}
use Rattle.cap_table.specs.Caps.{CapsParts}
use Rattle.cap_table.specs.States.{DeviceState, start_state}
use Rattle.cap_table.specs.declared.start.Start.{Start}
use Rattle.snapshots.specs.Ends.{EndState}
use Rattle.snapshots.specs.Fresh.{IsFresh}
use Rattle.snapshots.specs.Workers.{WorkerState}
use Rattle.steer.specs.AdminSides.{HasRunTo}
use Rattle.steer.specs.LiveCommands.{state_behind, changes_made}
use Rattle.steer.specs.LivePhases.{IsReady, IsLiveStart, HasBeenLive, HasClosed}
use Rattle.steer.specs.LiveRuns.{IsLiveRun, accepted_changes, told_changes}
use Rattle.steer.specs.LiveSteps.{HasRun, HasLearned, HasReadOn, HasReadLast, HaveTurned, HasKept, HaveRoom}
use Rattle.steer.specs.Results.{replies_in, log_at, read_of, packet_lines, HasRead}
use Rattle.steer.specs.Shares.{share_len, share}
use Rattle.steer.specs.declared.admin_line.AdminLine.{AdminLine}
use Rattle.steer.specs.declared.admin_side.AdminSide.{AdminSide}
use Rattle.steer.specs.declared.live_result.LiveResult.{LiveResult}
use Rattle.steer.proofs.MergeLemmas.{HasEnded, AllEnded, reader_ends, is_live, logged_reads}
use Rattle.steer.proofs.LiveCommandLemmas.{fewer_made}
use Rattle.steer.proofs.OpenLists.{made_open, made_fits, open_count}
use Rattle.steer.proofs.ShareLemmas.{share_long}

-- ---- values on the way

-- what is lent of a whole vector comes back into it
pub lent_back : {A : Type 0} (len : ℕ) (now items : List A) → length now ≡ length items → len ≡ length items → take len (now ++ drop (length now) items) ≡ now
lent_back len now items same all =
    let rest : drop (length now) items ≡ [] = drop_of_length-le items (omega arith) in
    ap (λ l. take len (now ++ l)) rest ∙ (ap (take len) (append-nil now) ∙ take_all len now (omega arith))

pub on_ok : {T E : Type 0} (r : Result T E) (P : Type 0) → is_err r ≡ false → OnOk r P → P
on_ok (Ok x) P e h = h
on_ok (Err x) P e h = absurd cc

-- ---- workers that are ready

pub all_ready : (end : EndState) (n workers : ℕ) (fresh kept : List WorkerState) → length fresh ≡ workers → All (IsFresh end) fresh → HaveTurned (HasKept n workers) workers fresh kept → (place : ℕ) (d : WorkerState) → place < workers → IsReady end n workers place (get_or kept place d)
all_ready end n workers fresh kept as_many each turned place d lt =
    let f = each place d (omega arith) in
    let k = turned.done place d lt in
    record {
      identity = ap (λ (w : WorkerState). w.identity) k ∙ f.identity;
      limits = ap (λ (w : WorkerState). w.limits) k ∙ f.limits;
      floors = ap (λ (w : WorkerState). w.floors) k ∙ f.floors;
      log = ap (λ (w : WorkerState). w.log) k ∙ f.log;
      spare = ap (λ (w : WorkerState). w.spare) k;
    }

pub ready_rooms : (end : EndState) (n workers : ℕ) (ws : List WorkerState) → length ws ≡ workers → ((place : ℕ) (d : WorkerState) → place < workers → IsReady end n workers place (get_or ws place d)) → HaveRoom n workers 0 ws
ready_rooms end n workers ws as_many ready = record {
  each = λ k d lt.
      let r = ready k d (omega arith) in
      subst (λ p. share_len n workers p < (get_or ws k d).spare) (sym (zero-add k)) (omega (arith, r.spare));
}

pub told_rooms : (list : List Change) (n workers : ℕ) (fresh told : List WorkerState) → HaveRoom n workers 0 fresh → HaveTurned (λ _. HasLearned list) (length fresh) fresh told → HaveRoom n workers 0 told
told_rooms list n workers fresh told room turned = record {
  each = λ k d lt.
      let inside : k < length fresh = omega (arith, turned.as_many) in
      let learned = turned.done k d inside in
      subst (λ s. share_len n workers (0 + k) < s) (sym learned.spare) (room.each k d inside);
}

-- ---- workers that have read their frames

-- one of them, with where it came from
record Was (lines : List AdminLine) (frames : List (List ℕ)) (workers place : ℕ) (end : EndState) (first : List Change) (w2 : WorkerState) : Type 0 where
  w0 : WorkerState
  w1 : WorkerState
  ready : IsReady end (length frames) workers place w0
  learned : HasLearned first w0 w1
  read : HasReadOn w1 w2 (share frames workers place)

was : (caps : CapsParts) (start : Start) (lines : List AdminLine) (frames : List (List ℕ)) (workers first : ℕ) (s0 s1 : AdminSide) (r0 r1 : List WorkerState) → IsLiveStart caps start (length lines) (length frames) workers s0 r0 → (m : HasBeenLive lines frames workers first s0 s1 r0 r1) → (place : ℕ) (d : WorkerState) → place < workers → Was lines frames workers place s0.end m.middle.end.list (get_or r1 place d)
was caps start lines frames workers first s0 s1 r0 r1 o m place d lt =
    let inside : place < length r0 = omega (arith, o.as_many) in
    let in_told : place < length m.told = omega (arith, m.telling.as_many) in
    record {
      w0 = get_or r0 place d;
      w1 = get_or m.told place d;
      ready = o.ready place d lt;
      learned = m.telling.done place d inside;
      read = subst (λ p. HasReadOn (get_or m.told place d) (get_or r1 place d) (share frames workers p)) (zero-add place) (m.reads.each place d in_told);
    }

-- what closing asks of them
pub record AreStillOpen (end : EndState) (workers : ℕ) (ws : List WorkerState) : Type 0 where
  pub as_many : length ws ≡ workers
  pub identity : All (λ worker. worker.identity ≡ end.identity) ws
  pub room : All (λ worker. 0 < worker.spare) ws

pub still_open : (caps : CapsParts) (start : Start) (lines : List AdminLine) (frames : List (List ℕ)) (workers first : ℕ) (s0 s1 : AdminSide) (r0 r1 : List WorkerState) → IsLiveStart caps start (length lines) (length frames) workers s0 r0 → HasBeenLive lines frames workers first s0 s1 r0 r1 → AreStillOpen s1.end workers r1
still_open caps start lines frames workers first s0 s1 r0 r1 o m = record {
  as_many = long;
  identity = λ k d lt.
      let w = was caps start lines frames workers first s0 s1 r0 r1 o m k d (omega (arith, long)) in
      w.read.identity ∙ (w.learned.identity ∙ (w.ready.identity ∙ sym (m.others.identity ∙ m.firsts.identity)));
  room = λ k d lt.
      let w = was caps start lines frames workers first s0 s1 r0 r1 o m k d (omega (arith, long)) in
      omega (arith, w.read.spare, w.learned.spare, w.ready.spare, share_long frames workers k);
} where
  long : length r1 ≡ workers
  long = m.reads.as_many ∙ (m.telling.as_many ∙ o.as_many)

-- ---- the whole run

-- what a live run promises
pub record LiveEnds (caps : CapsParts) (start : Start) (lines : List AdminLine) (frames : List (List ℕ)) (workers first : ℕ) (run : LiveResult) : Type 0 where
  pub legal : IsLiveRun caps start lines frames workers first (replies_in run.replies) (packet_lines run.workers workers (length frames))
  pub published : run.closed.list ≡ accepted_changes caps start lines (replies_in run.replies) ++ Close ∷ []
  pub limits : run.closed.limits ≡ caps.limits
  pub as_many : length run.workers ≡ workers
  pub read : (place : ℕ) (worker : WorkerState) → slice_get run.workers place ≡ Some worker → HasRead run.closed worker (share frames workers place ++ [] ∷ [])
  pub logged : (i : ℕ) → i < length frames → slice_get (log_at run.workers (i % workers)) (i / workers) ≡ Some (read_of run.workers workers i)

nothing_left : (s : DeviceState) → s ≡ state_behind s [] []
unfolding state_behind
nothing_left s = refl

nothing_made : (s : DeviceState) → [] ≡ changes_made s [] []
unfolding changes_made
nothing_made s = refl

none_carried_out : (caps : CapsParts) (start : Start) (lines : List AdminLine) (n workers : ℕ) (s0 : AdminSide) (r0 : List WorkerState) → IsLiveStart caps start (length lines) n workers s0 r0 → HasRunTo (start_state caps start) lines 0 s0
none_carried_out caps start lines n workers s0 r0 o =
    let s = start_state caps start in
    subst (λ rs. HasRun s [] rs s0.device s0.end.list) (sym (ap replies_in o.replies)) (record { answered = tt; left = o.device ∙ nothing_left s; published = o.list ∙ nothing_made s })

pub live_ends : (caps : CapsParts) (start : Start) (lines : List AdminLine) (frames : List (List ℕ)) (workers first : ℕ) (s0 s1 : AdminSide) (r0 r1 : List WorkerState) (run : LiveResult) → 1 ≤ workers → length lines < 2 ^ 32 → IsLiveStart caps start (length lines) (length frames) workers s0 r0 → HasBeenLive lines frames workers first s0 s1 r0 r1 → HasClosed s1 r1 run → LiveEnds caps start lines frames workers first run
live_ends caps start lines frames workers first s0 s1 r0 r1 run some few o m h = record {
  legal = is_live caps start lines frames workers first rs run.workers some whole.answered ended;
  published = closed_list;
  limits = ap (λ (e : EndState). e.limits) h.closed ∙ limits_kept;
  as_many = long;
  read = λ place w at.
      let e = ended.each place w at in
      let x = one place w at in
      record {
        identity = x.0 ∙ sym (ap (λ (s : EndState). s.identity) h.closed);
        limits = e.limits_are ∙ sym (ap (λ (s : EndState). s.limits) h.closed ∙ limits_kept);
        floors = e.floors ∙ ap (λ l. l ∷ []) (sym closed_list);
        logged = e.logged;
      };
  logged = λ i lt. logged_reads caps.limits made told frames workers run.workers some ended i lt;
} where
  s : DeviceState
  s = start_state caps start

  rs : List (List ℕ)
  rs = replies_in run.replies

  same : replies_in s1.replies.items ≡ rs
  same = sym (ap replies_in h.replies)

  run_first : HasRunTo s lines first m.middle
  run_first = m.firsts.run s (none_carried_out caps start lines (length frames) workers s0 r0 o)

  whole : HasRun s lines rs s1.device s1.end.list
  whole = subst (λ ls. HasRun s ls rs s1.device s1.end.list) (take-length lines) (subst (λ r. HasRun s (take (length lines) lines) r s1.device s1.end.list) same (m.others.run s run_first))

  made : List Change
  made = changes_made s lines rs

  closed_list : run.closed.list ≡ made ++ Close ∷ []
  closed_list = ap (λ (e : EndState). e.list) h.closed ∙ ap (λ l. l ++ Close ∷ []) whole.published

  limits_kept : s1.end.limits ≡ caps.limits
  limits_kept = m.others.limits ∙ (m.firsts.limits ∙ o.limits)

  told : ℕ
  told = told_changes caps start lines rs first

  first_long : length m.middle.replies.items ≡ first
  first_long = let none = ap length o.replies in omega (arith, m.firsts.longer)

  first_replies : take first rs ≡ replies_in m.middle.replies.items
  first_replies = ap (take first) (sym same) ∙ (take-map (λ (r : ArrayVec ℕ). r.items) first s1.replies.items ∙ ap replies_in (subst (λ k. take k s1.replies.items ≡ m.middle.replies.items) first_long m.others.kept))

  first_list : m.middle.end.list ≡ changes_made s (take first lines) (take first rs)
  first_list = run_first.published ∙ ap (changes_made s (take first lines)) (sym first_replies)

  first_count : change_count m.middle.end.list ≡ told
  first_count = ap change_count first_list ∙ open_count (changes_made s (take first lines) (take first rs)) (made_open s (take first lines) (take first rs))

  open_end : AreStillOpen s1.end workers r1
  open_end = still_open caps start lines frames workers first s0 s1 r0 r1 o m

  long : length run.workers ≡ workers
  long = h.reads.as_many ∙ open_end.as_many

  small : change_count m.middle.end.list ≤ 2 ^ 32
  small = omega (arith, first_count, fewer_made s lines rs first, made_fits s lines rs, few)

  one : (place : ℕ) (w : WorkerState) → slice_get run.workers place ≡ Some w → (w.identity ≡ s1.end.identity) × HasEnded caps.limits made told (share frames workers place ++ [] ∷ []) w
  one place w at =
      let lt : place < workers = omega (arith, slice_get_within run.workers place w at, long) in
      let there : place < length r1 = omega (arith, open_end.as_many) in
      let x = was caps start lines frames workers first s0 s1 r0 r1 o m place w lt in
      let w3 : get_or run.workers place w ≡ w = get_or_from_slice_get run.workers place w w at in
      let read : HasReadLast run.closed.list (get_or r1 place w) w = subst (HasReadLast run.closed.list (get_or r1 place w)) w3 (h.reads.done place w there) in
      let last : HasReadLast (made ++ Close ∷ []) (get_or r1 place w) w = subst (λ l. HasReadLast l (get_or r1 place w) w) closed_list read in
      let fits : length made < 2 ^ 32 = omega (arith, made_fits s lines rs, few) in
      let e = reader_ends m.middle.end.list made (share frames workers place) x.w0 x.w1 (get_or r1 place w) w x.ready.log x.learned x.read last fits small in (
        read.read.identity ∙ (read.learned.identity ∙ open_end.identity place w there),
        subst (λ l. HasEnded l made told (share frames workers place ++ [] ∷ []) w) (x.ready.limits ∙ o.limits)
            (subst (λ k. HasEnded x.w0.limits made k (share frames workers place ++ [] ∷ []) w) first_count e),
      )

  ended : AllEnded caps.limits made told frames workers run.workers
  ended = record { as_many = long; each = λ place w at. (one place w at).1 }
