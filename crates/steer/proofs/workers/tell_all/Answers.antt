use Rattle.std.proofs.Common.{◌≡◌, ◌+◌, ◌++◌, ◌∷◌, [], length, get_or, refl, sym, ap, subst, ◌∙◌, arith}
use Rattle.snapshots.specs.Ends.{EndState}
use Rattle.snapshots.specs.Lists.{ToldList}
use Rattle.snapshots.specs.Workers.{WorkerState}
use Rattle.steer.specs.LiveSteps.{HaveTurned, HasLearned}
use Rattle.steer.proofs.RowLemmas.{none_turned, turn_at, holds_unturned}
use Rattle.steer.proofs.workers.tell_all.Goals as goal

pub learn-requires : goal.learn-requires
learn-requires c =
    let list = c.args.end.now.list in
    let same : (get_or c.loop-place.readers c.loop-place.place c.index-readers-place.result).identity ≡ c.args.end.now.identity =
    holds_unturned (λ (w : WorkerState). w.identity ≡ c.args.end.now.identity) (λ _. HasLearned list) c.loop-place.place c.args.readers.now c.loop-place.readers c.index-readers-place.result c.loop-place-test.true c.requires c.loop-place.invariant.1 in
    ap (λ (t : ToldList). t.identity) c.tell-told.ensures.told ∙ (ap (λ (e : EndState). e.identity) c.loop-place.invariant.0 ∙ sym same)

pub loop-place-init : goal.loop-place-init
loop-place-init c = (refl, none_turned (λ _. HasLearned c.args.end.now.list) c.args.readers.now)

pub loop-place-preserved : goal.loop-place-preserved
loop-place-preserved c =
    let list = c.args.end.now.list in
    let old = get_or c.loop-place.readers c.loop-place.place c.index-readers-place.result in
    let e = c.learn.ensures in
    let told : c.tell-told.result.list ≡ list = ap (λ (t : ToldList). t.list) c.tell-told.ensures.told ∙ ap (λ (s : EndState). s.list) c.loop-place.invariant.0 in
    let learned : HasLearned list old c.learn.new.self = record {
      identity = e.same_identity;
      limits = e.same_limits;
      floors = e.floors ∙ ap (λ l. old.floors ++ l ∷ []) told;
      log = e.log;
      spare = e.spare;
      logged = e.logged;
    } in (
      c.tell-told.ensures.same ∙ c.loop-place.invariant.0,
      turn_at (λ _. HasLearned list) c.loop-place.place c.args.readers.now c.loop-place.readers c.index-readers-place.result c.learn.new.self c.loop-place-test.true learned c.loop-place.invariant.1,
    )

pub returns : goal.returns
returns c =
    let e : c.loop-place.place ≡ length c.args.readers.now = omega arith in
    record {
      same = c.loop-place.invariant.0;
      told = subst (λ k. HaveTurned (λ _. HasLearned c.args.end.now.list) k c.args.readers.now c.loop-place.readers) e c.loop-place.invariant.1;
    }
