use Rattle.std.proofs.Common.{◌≡◌, ℕ, ◌+◌, ◌<◌, ◌%◌, ◌/◌, [], ◌∷◌, ◌++◌, length, Some, sym, ap, subst, ◌∙◌, arith}
use Rattle.std.specs.Prelude.{All, IfOk, slice_get}
use Rattle.std.proofs.lemmas.Result.{IfOk-weaker}
use Rattle.ff_headers.specs.declared.change.Change.TheVariants.{Close}
use Rattle.snapshots.specs.Workers.{WorkerState}
use Rattle.steer.specs.LivePhases.{IsLiveStart, HasBeenLive, HasClosed}
use Rattle.steer.specs.LiveRuns.{IsLiveRun, accepted_changes}
use Rattle.steer.specs.LiveSteps.{HaveRoom}
use Rattle.steer.specs.Results.{replies_in, log_at, read_of, packet_lines, HasRead}
use Rattle.steer.specs.Shares.{share}
use Rattle.steer.specs.declared.live_result.LiveResult.{LiveResult}
use Rattle.steer.proofs.LiveLemmas.{LiveEnds, ready_rooms, still_open, live_ends, lent_back}
use Rattle.steer.proofs.live_run.live.Goals as goal

pub run-requires-clause-replies : goal.run-requires-clause-replies
run-requires-clause-replies g c κs within = c.in_ok-side.ensures.replies

pub run-requires-clause-room : goal.run-requires-clause-room
run-requires-clause-room g c κs within = omega (arith, c.in_ok-side.ensures.room, c.len.ensures)

pub run-requires-clause-as_many : goal.run-requires-clause-as_many
run-requires-clause-as_many g c κs within = ap length c.as_mut_slice.ensures.value ∙ c.in_ok-side.ensures.as_many

pub run-requires-clause-identity : goal.run-requires-clause-identity
run-requires-clause-identity g c κs within =
    let long = c.in_ok-side.ensures.as_many in
    subst (All (λ (w : WorkerState). w.identity ≡ c.in_ok-side.side.end.identity)) (sym c.as_mut_slice.ensures.value) (λ k d lt. let r = c.in_ok-side.ensures.ready k d (omega (arith, long, lt)) in r.identity)

pub run-requires-clause-logs : goal.run-requires-clause-logs
run-requires-clause-logs g c κs within =
    let rooms = ready_rooms c.in_ok-side.side.end c.len-2.result c.args.workers c.in_ok-side.readers.items c.in_ok-side.ensures.as_many c.in_ok-side.ensures.ready in
    subst (HaveRoom (length c.args.frames.now) c.args.workers 0) (sym c.as_mut_slice.ensures.value) (subst (λ n. HaveRoom n c.args.workers 0 c.in_ok-side.readers.items) c.len-2.ensures rooms)

pub close_run-requires : goal.close_run-requires
close_run-requires g c =
    let side = c.in_ok-side.side in
    let items = c.in_ok-side.readers.items in
    let later = c.run.new.side in
    let done = c.run.new.readers in
    let lines = c.args.commands.now in
    let frames = c.args.frames.now in
    let opened : IsLiveStart c.args.caps c.args.start (length lines) (length frames) c.args.workers side items = subst (λ n. IsLiveStart c.args.caps c.args.start n (length frames) c.args.workers side items) c.len.ensures (subst (λ n. IsLiveStart c.args.caps c.args.start c.len.result n c.args.workers side items) c.len-2.ensures c.in_ok-side.ensures) in
    let ran : HasBeenLive lines frames c.args.workers c.args.after side later items done = subst (λ ws. HasBeenLive lines frames c.args.workers c.args.after side later ws done) c.as_mut_slice.ensures.value c.run.ensures in
    let e = still_open c.args.caps c.args.start lines frames c.args.workers c.args.after side later items done opened ran in
    let back = lent_back c.in_ok-side.readers.len done items (e.as_many ∙ sym opened.as_many) (omega (arith, c.in_ok-side.readers.ok.0)) in
    record {
      identity = subst (All (λ (w : WorkerState). w.identity ≡ later.end.identity)) (sym back) e.identity;
      room = subst (All (λ (w : WorkerState). 0 < w.spare)) (sym back) e.room;
    }

pub returns : goal.returns
returns g c =
    let side = c.in_ok-side.side in
    let items = c.in_ok-side.readers.items in
    let later = c.run.new.side in
    let done = c.run.new.readers in
    let lines = c.args.commands.now in
    let frames = c.args.frames.now in
    let caps = c.args.caps in
    let start = c.args.start in
    let workers = c.args.workers in
    let first = c.args.after in
    let r = c.close_run.result in
    let opened : IsLiveStart caps start (length lines) (length frames) workers side items = subst (λ n. IsLiveStart caps start n (length frames) workers side items) c.len.ensures (subst (λ n. IsLiveStart caps start c.len.result n workers side items) c.len-2.ensures c.in_ok-side.ensures) in
    let ran : HasBeenLive lines frames workers first side later items done = subst (λ ws. HasBeenLive lines frames workers first side later ws done) c.as_mut_slice.ensures.value c.run.ensures in
    let e = still_open caps start lines frames workers first side later items done opened ran in
    let back = lent_back c.in_ok-side.readers.len done items (e.as_many ∙ sym opened.as_many) (omega (arith, c.in_ok-side.readers.ok.0)) in
    let closed : IfOk r (HasClosed later done) = subst (λ ws. IfOk r (HasClosed later ws)) back c.close_run.ensures in
    let Ends = LiveEnds caps start lines frames workers first in
    let ends : IfOk r Ends = IfOk-weaker r (HasClosed later done) Ends (λ run h. live_ends caps start lines frames workers first side later items done run c.requires.some c.requires.commands opened ran h) closed in
    record {
      legal = IfOk-weaker r Ends (λ (run : LiveResult). IsLiveRun caps start lines frames workers first (replies_in run.replies) (packet_lines run.workers workers (length frames))) (λ run h. h.legal) ends;
      published = IfOk-weaker r Ends (λ (run : LiveResult). run.closed.list ≡ accepted_changes caps start lines (replies_in run.replies) ++ Close ∷ []) (λ run h. h.published) ends;
      limits = IfOk-weaker r Ends (λ (run : LiveResult). run.closed.limits ≡ caps.limits) (λ run h. h.limits) ends;
      workers = IfOk-weaker r Ends (λ (run : LiveResult). length run.workers ≡ workers) (λ run h. h.as_many) ends;
      read = IfOk-weaker r Ends (λ (run : LiveResult). (place : ℕ) (worker : WorkerState) → slice_get run.workers place ≡ Some worker → HasRead run.closed worker (share frames workers place ++ [] ∷ [])) (λ run h. h.read) ends;
      logged = IfOk-weaker r Ends (λ (run : LiveResult). (i : ℕ) → i < length frames → slice_get (log_at run.workers (i % workers)) (i / workers) ≡ Some (read_of run.workers workers i)) (λ run h. h.logged) ends;
    }
