use Rattle.std.proofs.Common.{ℕ, ◌+◌, ◌-◌, List, [], ◌++◌, take, drop, refl, arith}
use Rattle.std.proofs.lemmas.Grind.{common_steps}
use Rattle.std.proofs.lemmas.List.{length-append, length-take, length-drop}
use Rattle.capture.proofs.FileSteps.{feed-count}
use Rattle.base_tests.proofs.captures.fed.Goals as goal

pub loop-at-init : goal.loop-at-init
loop-at-init c = record { within = omega arith; so_far = ([], refl, c.new-feed.ensures.stands) }

pub feed-requires : goal.feed-requires
feed-requires c = λ sound.
    let at = c.loop-at.at in
    let (front, size, stands) = c.loop-at.invariant.so_far in
    let count = feed-count c.loop-at.feed front stands sound in
    omega (arith, count, size, length-take (at + c.min.result - at) (drop at c.args.bytes.now), length-drop at c.args.bytes.now)

pub loop-at-preserved : goal.loop-at-preserved
loop-at-preserved c =
    let at = c.loop-at.at in
    let piece : List ℕ = take (at + c.min.result - at) (drop at c.args.bytes.now) in
    let (front, size, stands) = c.loop-at.invariant.so_far in
    record {
      within = grind (arith, common_steps);
      so_far = (front ++ piece, omega (arith, size, c.min.ensures, length-append front piece, length-take (at + c.min.result - at) (drop at c.args.bytes.now), length-drop at c.args.bytes.now), c.in-Ok.ensures.stands front stands);
    }
