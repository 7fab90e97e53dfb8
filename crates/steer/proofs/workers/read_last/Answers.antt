use Rattle.std.proofs.Common.{◌≡◌, ◌<◌, length, get_or, refl, sym, ap, subst, ◌∙◌, arith}
use Rattle.snapshots.specs.Ends.{EndState}
use Rattle.snapshots.specs.Lists.{ToldList}
use Rattle.snapshots.specs.Workers.{WorkerState}
use Rattle.steer.specs.LiveSteps.{HaveTurned, HasReadLast}
use Rattle.steer.proofs.RowLemmas.{none_turned, turn_at, holds_unturned}
use Rattle.steer.proofs.workers.read_last.Goals as goal

pub learn_and_read-requires : goal.learn_and_read-requires
learn_and_read-requires g c =
    let list = c.args.closed.now.list in
    let same : (get_or c.loop-place.readers c.loop-place.place c.index-readers-place.result).identity ≡ c.args.closed.now.identity =
    holds_unturned (λ (w : WorkerState). w.identity ≡ c.args.closed.now.identity) (λ _. HasReadLast list) c.loop-place.place c.args.readers.now c.loop-place.readers c.index-readers-place.result c.loop-place-test.true c.requires.identity c.loop-place.invariant.1 in
    record {
      identity = ap (λ (t : ToldList). t.identity) c.tell-told.ensures.told ∙ (ap (λ (e : EndState). e.identity) c.loop-place.invariant.0 ∙ sym same);
      room = holds_unturned (λ (w : WorkerState). 0 < w.spare) (λ _. HasReadLast list) c.loop-place.place c.args.readers.now c.loop-place.readers c.index-readers-place.result c.loop-place-test.true c.requires.room c.loop-place.invariant.1;
    }

pub loop-place-init : goal.loop-place-init
loop-place-init g c = (refl, none_turned (λ _. HasReadLast c.args.closed.now.list) c.args.readers.now)

pub loop-place-preserved : goal.loop-place-preserved
loop-place-preserved g c =
    let list = c.args.closed.now.list in
    let old = get_or c.loop-place.readers c.loop-place.place c.index-readers-place.result in
    let told : c.tell-told.result.list ≡ list = ap (λ (t : ToldList). t.list) c.tell-told.ensures.told ∙ ap (λ (s : EndState). s.list) c.loop-place.invariant.0 in
    let read : HasReadLast list old c.learn_and_read.new.worker = subst (λ l. HasReadLast l old c.learn_and_read.new.worker) told c.learn_and_read.ensures in (
      c.tell-told.ensures.same ∙ c.loop-place.invariant.0,
      turn_at (λ _. HasReadLast list) c.loop-place.place c.args.readers.now c.loop-place.readers c.index-readers-place.result c.learn_and_read.new.worker c.loop-place-test.true read c.loop-place.invariant.1,
    )

pub returns : goal.returns
returns g c =
    let e : c.loop-place.place ≡ length c.args.readers.now = omega arith in
    record {
      same = c.loop-place.invariant.0;
      read = subst (λ k. HaveTurned (λ _. HasReadLast c.args.closed.now.list) k c.args.readers.now c.loop-place.readers) e c.loop-place.invariant.1;
    }
