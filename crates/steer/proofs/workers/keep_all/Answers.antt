use Rattle.std.proofs.Common.{◌≡◌, ℕ, ◌+◌, ◌^◌, ◌<◌, [], length, get_or, sym, ap, subst, ◌∙◌, arith}
use Rattle.std.proofs.Math.ListN.{set}
use Rattle.std.specs.Option.{SomeIff}
use Rattle.snapshots.specs.Workers.{WorkerState}
use Rattle.steer.specs.LiveSteps.{HaveTurned, HasKept}
use Rattle.steer.specs.Shares.{share_len}
use Rattle.steer.proofs.RowLemmas.{none_turned, turn_at, holds_unturned}
use Rattle.steer.proofs.workers.keep_all.Goals as goal

pub keep-requires : goal.keep-requires
keep-requires c =
    let R = HasKept c.args.n c.args.workers in
    let j = c.from.result in
    let inside : j < length c.args.readers.now = omega (arith, c.requires.as_many, c.from.ensures, c.loop-place-test.true) in
    let turned : HaveTurned R j c.args.readers.now c.loop-place.readers = subst (λ k. HaveTurned R k c.args.readers.now c.loop-place.readers) (sym c.from.ensures) c.loop-place.invariant in
    holds_unturned (λ (w : WorkerState). w.log ≡ []) R j c.args.readers.now c.loop-place.readers c.index-readers-from.result inside c.requires.empty turned

pub loop-place-init : goal.loop-place-init
loop-place-init c = none_turned (HasKept c.args.n c.args.workers) c.args.readers.now

pub loop-place-preserved : goal.loop-place-preserved
loop-place-preserved c =
    let R = HasKept c.args.n c.args.workers in
    let j = c.from.result in
    let before = c.args.readers.now in
    let now = c.loop-place.readers in
    let inside : j < length before = omega (arith, c.requires.as_many, c.from.ensures, c.loop-place-test.true) in
    let turned : HaveTurned R j before now = subst (λ k. HaveTurned R k before now) (sym c.from.ensures) c.loop-place.invariant in
    let sum = c.share_len.result + 1 in
    let added : (sum < 2 ^ 64) × (c.in_ok-reads.reads ≡ sum) = subst (λ o. SomeIff o (sum < 2 ^ 64) sum) c.in_ok-reads.ensures.ok_part c.checked_add.ensures in
    let reads : c.in_ok-reads.reads ≡ share_len c.args.n c.args.workers j + 1 = added.1 ∙ (ap (λ s. s + 1) c.share_len.ensures.value ∙ ap (λ p. share_len c.args.n c.args.workers p + 1) (sym c.from.ensures)) in
    let old = get_or now j c.index-readers-from.result in
    let kept : R j old c.keep.new.self = c.in_ok-keep.ensures ∙ ap (λ (s : ℕ). let w : WorkerState = record old { spare = s } in w) reads in
    subst (λ k. HaveTurned R (k + 1) before (set now j c.keep.new.self)) c.from.ensures (turn_at R j before now c.index-readers-from.result c.keep.new.self inside kept turned)

pub returns : goal.returns
returns c =
    let e : c.loop-place.place ≡ c.args.workers = omega arith in
    subst (λ k. HaveTurned (HasKept c.args.n c.args.workers) k c.args.readers.now c.loop-place.readers) e c.loop-place.invariant
