use Rattle.std.proofs.Common.{◌≡◌, ◌<◌, length, sym, ap, subst, ◌∙◌, arith}
use Rattle.std.specs.Prelude.{All}
use Rattle.snapshots.specs.Ends.{EndState}
use Rattle.snapshots.specs.Workers.{WorkerState}
use Rattle.steer.specs.LiveSteps.{HaveTurned, HasReadLast}
use Rattle.steer.proofs.LiveLemmas.{lent_back}
use Rattle.steer.proofs.live_run.close_run.Goals as goal

pub read_last-requires : goal.read_last-requires
read_last-requires g c =
    let same = ap (λ (e : EndState). e.identity) c.in-Ok.ensures.0 in
    record {
      identity = subst (All (λ (w : WorkerState). w.identity ≡ c.in-Ok.closed.identity)) (sym c.as_mut_slice.ensures.value) (λ k d lt. c.requires.identity k d lt ∙ sym same);
      room = subst (All (λ (w : WorkerState). 0 < w.spare)) (sym c.as_mut_slice.ensures.value) c.requires.room;
    }

pub returns-in-Ok : goal.returns-in-Ok
returns-in-Ok g c =
    let e = c.read_last.ensures in
    let items = c.args.readers.items in
    let list = ap (λ (s : EndState). s.list) e.same in
    let long : length c.read_last.new.readers ≡ length items = e.read.as_many ∙ ap length c.as_mut_slice.ensures.value in
    let back = lent_back c.args.readers.len c.read_last.new.readers items long (omega (arith, c.args.readers.ok.0)) in
    let lent : HaveTurned (λ _. HasReadLast c.in-Ok.closed.list) (length items) items c.read_last.new.readers = subst (λ ws. HaveTurned (λ _. HasReadLast c.in-Ok.closed.list) (length ws) ws c.read_last.new.readers) c.as_mut_slice.ensures.value e.read in
    let later : HaveTurned (λ _. HasReadLast c.read_last.new.closed.list) (length items) items c.read_last.new.readers = subst (λ l. HaveTurned (λ _. HasReadLast l) (length items) items c.read_last.new.readers) (sym list) lent in
    record {
      replies = c.from.ensures;
      closed = e.same ∙ c.in-Ok.ensures.0;
      reads = subst (λ ws. HaveTurned (λ _. HasReadLast c.read_last.new.closed.list) (length items) items ws) (sym (c.from-in-Ok.ensures ∙ back)) later;
    }
