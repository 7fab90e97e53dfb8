-- What workers have read and commands have left, put together: a legal run.
use Rattle.std.proofs.Common.{◌≡◌, ℕ, zero, suc, ◌+◌, ◌-◌, ◌/◌, ◌%◌, ◌^◌, ◌<◌, ◌≤◌, false, List, [], ◌∷◌, ◌++◌, length, get_or, Some, None, refl, sym, ap, subst, ◌∙◌, append-nil, length-append, arith, ⊎_elim}
use Rattle.std.specs.Prelude.{All, slice_get}
use Rattle.std.specs.List.{AllZip, Contains, list_any}
use Rattle.std.specs.Option.{option_map_or}
use Rattle.std.proofs.Math.Nat.{mod-lt, mul-le-mul_right}
use Rattle.std.proofs.Math.ListN.{get_or-append}
use Rattle.std.proofs.lemmas.Nat.{div-add-mod'}
use Rattle.std.proofs.lemmas.Bool.{cases_lt}
use Rattle.std.proofs.lemmas.List.Elements.{All-nil, All-contains, Contains-push, Contains-append_left}
use Rattle.std.proofs.lemmas.List.FromFn.{length-map-range_with_len, get_or-map-range_with_len}
use Rattle.std.proofs.lemmas.Option.{same_Some, slice_get-get_or, slice_get_within, get_or_from_slice_get}
use Rattle.ff_headers.specs.Changes.{after, change_count, is_close}
use Rattle.ff_headers.specs.Frames.{headers_of}
use Rattle.ff_headers.specs.Places.{action_of}
use Rattle.ff_headers.specs.declared.change.Change.{Change}
use Rattle.ff_headers.specs.declared.change.Change.TheVariants.{Close}
use Rattle.ff_headers.specs.declared.limits.Limits.{Limits}
use Rattle.cap_table.specs.Caps.{CapsParts}
use Rattle.cap_table.specs.States.{start_state}
use Rattle.cap_table.specs.declared.start.Start.{Start}
use Rattle.snapshots.specs.Lists.{Covers}
use Rattle.snapshots.specs.Workers.{WorkerState, Logged, IsLogged, first_floor}
use Rattle.snapshots.specs.declared.seen.Seen.{Seen}
use Rattle.steer.specs.LiveCommands.{AreAnswered}
use Rattle.steer.specs.LiveRuns.{PacketLine, IsPacketLine, IsLiveRun, accepted_changes, told_changes}
use Rattle.steer.specs.LiveSteps.{HasFloor, SeesAtLeast, HasReadOn, HasLearned, HasReadLast}
use Rattle.steer.specs.Results.{log_at, no_read, read_of, line_of, packet_lines}
use Rattle.steer.specs.Shares.{share_len, share}
use Rattle.steer.specs.declared.admin_line.AdminLine.{AdminLine}
use Rattle.steer.proofs.OpenLists.{made_open, closed_count, after_front}
use Rattle.steer.proofs.ReadLemmas.{reads_more}
use Rattle.steer.proofs.ShareLemmas.{turn_of, share_long, share_has}

-- ---- one worker

-- being told of a list reads nothing
pub learned_reads : (list : List Change) (a b : WorkerState) → HasLearned list a b → HasReadOn a b []
learned_reads list a b h = record {
  identity = h.identity;
  limits = h.limits;
  spare = omega (arith, h.spare);
  longer = subst (λ fl. length (first_floor a.floors) ≤ length (first_floor fl)) (sym h.floors) (first_stays a.floors);
  logged = λ bound earlier l. subst (Logged b) (sym (append-nil earlier)) (h.logged earlier l);
  sees = λ low le s. record {
    floor = subst (HasFloor low) (sym h.floors) (s.floor.0, Contains-append_left a.floors (list ∷ []) s.floor.0 s.floor.1, s.floor.2);
    log = subst (All (λ seen. low ≤ seen.after)) (sym h.log) s.log;
  };
} where
  first_stays : (floors : List (List Change)) → length (first_floor floors) ≤ length (first_floor (floors ++ list ∷ []))
  first_stays [] = omega arith
  first_stays (floor ∷ floors) = omega arith

nothing_logged : (w : WorkerState) → w.log ≡ [] → Logged w []
nothing_logged w empty = record {
  long = ap length empty;
  each = λ at seen frame e f. absurd (none frame f);
  rises = λ i j a b lt e f. absurd (none a (ap (λ l. slice_get l i) (sym empty) ∙ e));
} where
  none : {X : Type 0} (x : X) → None ≡ Some x → ⊥
  none x e = cc

-- what a worker of a list that is closed has in the end: it saw the whole list, and logged its frames, each after all
-- changes that it was told of first
pub record HasEnded (limits : Limits) (changes : List Change) (told : ℕ) (frames : List (List ℕ)) (worker : WorkerState) : Type 0 where
  pub limits_are : worker.limits ≡ limits
  pub floors : worker.floors ≡ (changes ++ Close ∷ []) ∷ []
  pub logged : Logged worker frames
  pub sees : All (λ seen. told ≤ seen.after) worker.log

pub reader_ends : (first changes : List Change) (frames : List (List ℕ)) (w0 w1 w2 w3 : WorkerState) → w0.log ≡ [] → HasLearned first w0 w1 → HasReadOn w1 w2 frames → HasReadLast (changes ++ Close ∷ []) w2 w3 → length changes < 2 ^ 32 → change_count first ≤ 2 ^ 32 → HasEnded w0.limits changes (change_count first) (frames ++ [] ∷ []) w3
reader_ends first changes frames w0 w1 w2 w3 empty learned read last few small = record {
  limits_are = whole.limits ∙ learned.limits;
  floors = floors;
  logged = whole.logged bound [] (learned.logged [] (nothing_logged w0 empty));
  sees = let s = whole.sees (change_count first) (omega arith) begins in s.log;
} where
  list : List Change
  list = changes ++ Close ∷ []

  whole : HasReadOn w1 w3 (frames ++ [] ∷ [])
  whole = reads_more w1 w2 w3 frames ([] ∷ []) read (reads_more w2 last.told w3 [] ([] ∷ []) (learned_reads list w2 last.told last.learned) last.read)

  told_list : Contains last.told.floors list
  told_list = subst (λ fl. Contains fl list) (sym last.learned.floors) (Contains-push w2.floors list)

  covers : Covers last.entered.list list
  covers = All-contains (Covers last.entered.list) last.told.floors list last.entered.covers told_list

  floors : w3.floors ≡ list ∷ []
  floors = last.entered.floors ∙ ap (λ l. l ∷ []) (covers.closed changes refl)

  bound : length (first_floor w3.floors) < 2 ^ 64 - 1
  bound =
      let e : length (first_floor w3.floors) ≡ length list = ap (λ fl. length (first_floor fl)) floors in
      omega (arith, length-append changes (Close ∷ []))

  begins : SeesAtLeast (change_count first) w1
  begins = record {
    floor = subst (HasFloor (change_count first)) (sym learned.floors) (first, Contains-push w0.floors first, omega arith);
    log = subst (All (λ seen. change_count first ≤ seen.after)) (sym (learned.log ∙ empty)) (All-nil (λ seen. change_count first ≤ seen.after));
  }

-- ---- all workers

-- each of so many workers has ended, with its share of the frames and the empty one
pub record AllEnded (limits : Limits) (changes : List Change) (told : ℕ) (frames : List (List ℕ)) (workers : ℕ) (ws : List WorkerState) : Type 0 where
  pub as_many : length ws ≡ workers
  pub each : (place : ℕ) (worker : WorkerState) → slice_get ws place ≡ Some worker → HasEnded limits changes told (share frames workers place ++ [] ∷ []) worker

-- a read of a frame: the worker that made it, and where it logged it
record StandsIn (frames : List (List ℕ)) (workers : ℕ) (ws : List WorkerState) (i : ℕ) : Type 0 where
  worker : WorkerState
  at : slice_get ws (i % workers) ≡ Some worker
  logged_at : slice_get worker.log (i / workers) ≡ Some (read_of ws workers i)
  frame_at : slice_get (share frames workers (i % workers) ++ [] ∷ []) (i / workers) ≡ Some (get_or frames i [])

a_worker : (ws : List WorkerState) (k : ℕ) → k < length ws → (worker : WorkerState) × (slice_get ws k ≡ Some worker)
a_worker [] k lt = absurd (omega arith)
a_worker (w ∷ ws) zero lt = (w, refl)
a_worker (w ∷ ws) (suc k) lt = a_worker ws k (omega arith)

stands : (limits : Limits) (changes : List Change) (told : ℕ) (frames : List (List ℕ)) (workers : ℕ) (ws : List WorkerState) → 0 < workers → AllEnded limits changes told frames workers ws → (i : ℕ) → i < length frames → StandsIn frames workers ws i
stands limits changes told frames workers ws some ended i lt =
    let k = i % workers in
    let j = i / workers in
    let inside : k < length ws = omega (arith, mod-lt i some, ended.as_many) in
    let found = a_worker ws k inside in
    let w = found.0 in
    let done = ended.each k w found.1 in
    let turn : j < share_len (length frames) workers k = turn_of (length frames) workers i some lt in
    let mine = share frames workers k in
    let long : j < length mine = omega (arith, share_long frames workers k) in
    let all_long = length-append mine ([] ∷ []) in
    let log : log_at ws k ≡ w.log = ap (λ o. option_map_or (λ (x : WorkerState). x.log) o []) found.1 in
    let logged = done.logged.long in
    let in_log : j < length w.log = omega arith in
    let in_all : j < length (mine ++ [] ∷ []) = omega arith in
    record {
      worker = w;
      at = found.1;
      logged_at = slice_get-get_or w.log j no_read in_log ∙ ap (λ l. Some (get_or l j no_read)) (sym log);
      frame_at = slice_get-get_or (mine ++ [] ∷ []) j [] in_all ∙ ap (λ f. Some f) (get_or-append mine ([] ∷ []) [] j long ∙ share_has frames workers i some lt);
    }

-- the read of a frame stands in its worker's log
pub logged_reads : (limits : Limits) (changes : List Change) (told : ℕ) (frames : List (List ℕ)) (workers : ℕ) (ws : List WorkerState) → 0 < workers → AllEnded limits changes told frames workers ws → (i : ℕ) → i < length frames → slice_get (log_at ws (i % workers)) (i / workers) ≡ Some (read_of ws workers i)
logged_reads limits changes told frames workers ws some ended i lt =
    let s = stands limits changes told frames workers ws some ended i lt in
    ap (λ o. slice_get (option_map_or (λ (x : WorkerState). x.log) o []) (i / workers)) s.at ∙ s.logged_at

-- the line of a read
line_holds : (limits : Limits) (changes : List Change) (told : ℕ) (frames : List (List ℕ)) (workers : ℕ) (ws : List WorkerState) → list_any is_close changes ≡ false → 0 < workers → AllEnded limits changes told frames workers ws → (i : ℕ) → i < length frames → IsPacketLine limits changes told (get_or frames i []) (line_of (read_of ws workers i))
line_holds limits changes told frames workers ws unclosed some ended i lt =
    let s = stands limits changes told frames workers ws some ended i lt in
    let seen = read_of ws workers i in
    let done = ended.each (i % workers) s.worker s.at in
    let logged : IsLogged s.worker.limits (first_floor s.worker.floors) (get_or frames i []) seen = done.logged.each (i / workers) seen (get_or frames i []) s.logged_at s.frame_at in
    let in_list : IsLogged limits (changes ++ Close ∷ []) (get_or frames i []) seen = subst (λ l. IsLogged l (changes ++ Close ∷ []) (get_or frames i []) seen) done.limits_are (subst (λ fl. IsLogged s.worker.limits (first_floor fl) (get_or frames i []) seen) done.floors logged) in
    let counted : seen.after ≤ length changes = omega (arith, in_list.counted, closed_count changes unclosed) in
    record {
      counted = counted;
      covers = All-contains (λ (x : Seen). told ≤ x.after) s.worker.log seen done.sees (contained s.worker.log (i / workers) seen s.logged_at);
      acted = in_list.acted ∙ ap (λ o. action_of o (headers_of (get_or frames i []))) (after_front limits changes (Close ∷ []) seen.after counted);
    } where
      contained : (log : List Seen) (j : ℕ) (seen : Seen) → slice_get log j ≡ Some seen → Contains log seen
      contained log j seen at = (j, slice_get_within log j seen at, get_or_from_slice_get log j seen seen at)

line_at : (ws : List WorkerState) (workers n i : ℕ) (d : PacketLine) → i < n → get_or (packet_lines ws workers n) i d ≡ line_of (read_of ws workers i)
unfolding packet_lines
line_at ws workers n i d lt = get_or-map-range_with_len (λ k. line_of (read_of ws workers k)) 0 n i i d lt (omega arith)

lines_long : (ws : List WorkerState) (workers n : ℕ) → length (packet_lines ws workers n) ≡ n
unfolding packet_lines
lines_long ws workers n = length-map-range_with_len (λ k. line_of (read_of ws workers k)) 0 n

zip_from_places : {A B : Type 0} (R : A → B → Type 0) (xs : List A) (ys : List B) (d : A) (e : B) → length ys ≡ length xs → ((i : ℕ) → i < length xs → R (get_or xs i d) (get_or ys i e)) → AllZip R xs ys
zip_from_places R [] [] d e same at = tt
zip_from_places R [] (y ∷ ys) d e same at = absurd (omega arith)
zip_from_places R (x ∷ xs) [] d e same at = absurd (omega arith)
zip_from_places R (x ∷ xs) (y ∷ ys) d e same at = (at zero (omega arith), zip_from_places R xs ys d e (omega arith) (λ i lt. at (suc i) (omega arith)))

-- a later frame of the same worker has a later turn
later_turn : (workers i j : ℕ) → 0 < workers → i < j → i % workers ≡ j % workers → i / workers < j / workers
later_turn workers i j some lt same =
    let a = div-add-mod' i workers in
    let b = div-add-mod' j workers in
    ⊎_elim (λ (below : i / workers < j / workers). below) (λ (above : j / workers ≤ i / workers). absurd (omega (arith, mul-le-mul_right workers above))) (cases_lt (i / workers) (j / workers))

pub is_live : (caps : CapsParts) (start : Start) (lines : List AdminLine) (frames : List (List ℕ)) (workers first : ℕ) (replies : List (List ℕ)) (ws : List WorkerState) → 0 < workers → AreAnswered (start_state caps start) lines replies → AllEnded caps.limits (accepted_changes caps start lines replies) (told_changes caps start lines replies first) frames workers ws → IsLiveRun caps start lines frames workers first replies (packet_lines ws workers (length frames))
is_live caps start lines frames workers first replies ws some answered ended = record {
  answered = answered;
  packets = zip_from_places (IsPacketLine caps.limits changes told) frames printed [] (line_of no_read) (lines_long ws workers n) (λ i lt. subst (IsPacketLine caps.limits changes told (get_or frames i [])) (sym (line_at ws workers n i (line_of no_read) lt)) (line_holds caps.limits changes told frames workers ws stays_open some ended i lt));
  rises = rises;
} where
  n : ℕ
  n = length frames

  changes : List Change
  changes = accepted_changes caps start lines replies

  told : ℕ
  told = told_changes caps start lines replies first

  printed : List PacketLine
  printed = packet_lines ws workers n

  stays_open : list_any is_close changes ≡ false
  stays_open = made_open (start_state caps start) lines replies

  value : (i : ℕ) (a : PacketLine) → slice_get printed i ≡ Some a → (i < n) × (a.after ≡ (read_of ws workers i).after)
  value i a at =
      let lt : i < n = omega (arith, slice_get_within printed i a at, lines_long ws workers n) in
      (lt, ap (λ (l : PacketLine). l.after) (sym (get_or_from_slice_get printed i a a at) ∙ line_at ws workers n i a lt))

  rises : (i j : ℕ) (a b : PacketLine) → i < j → i % workers ≡ j % workers → slice_get printed i ≡ Some a → slice_get printed j ≡ Some b → a.after ≤ b.after
  rises i j a b lt same at_i at_j =
      let va = value i a at_i in
      let vb = value j b at_j in
      let si = stands caps.limits changes told frames workers ws some ended i va.0 in
      let sj = stands caps.limits changes told frames workers ws some ended j vb.0 in
      let one : si.worker ≡ sj.worker = same_Some si.worker sj.worker (sym si.at ∙ (ap (slice_get ws) same ∙ sj.at)) in
      let done = ended.each (i % workers) si.worker si.at in
      let turn = later_turn workers i j some lt same in
      let le = done.logged.rises (i / workers) (j / workers) (read_of ws workers i) (read_of ws workers j) turn si.logged_at (ap (λ (w : WorkerState). slice_get w.log (j / workers)) one ∙ sj.logged_at) in
      omega (arith, va.1, vb.1, le)
