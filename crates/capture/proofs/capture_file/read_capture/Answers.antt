use Rattle.std.proofs.Common.{◌≡◌, ◌+◌, ◌<◌, ℕ, List, Result, Ok, length, take, IfSome, IfOk, sym, subst, arith}
use Rattle.std.proofs.lemmas.Grind.{common_steps}
use Rattle.std.proofs.lemmas.List.{length-take}
use Rattle.std.specs.Option.{IsSomeAnd}
use Rattle.capture.specs.declared.error.CaptureReadErr.{CaptureReadErr}
use Rattle.capture.specs.Files.{WasRead}
use Rattle.capture.specs.Feeds.{IsFedOn}
use Rattle.capture.proofs.FileSteps.{IsReadSoFar, read-none, read-more, read-count, read-over, read-whole, read-bad, no_bad}
use Rattle.capture.proofs.capture_file.read_capture.Goals as goal
use Rattle.capture.proofs.capture_file.read_capture.Goals.{in-Ok-finish, in-Err}

pub loop-taken-init : goal.loop-taken-init
loop-taken-init g c = record {
  so_far = read-none (g.S.Shelf.state c.args.shelf.now).files c.args.name.now c.new-feed.result c.new-feed.ensures.stands;
  within = omega arith;
  room = grind (arith, common_steps);
  given = grind (arith, common_steps);
  faults = grind (arith, common_steps);
  files = grind (arith, common_steps);
}

pub returns-then-taken-limit-clause-longer : goal.returns-then-taken-limit-clause-longer
returns-then-taken-limit-clause-longer g c = λ is.
    let over = read-over (g.S.Shelf.state c.loop-taken.shelf) c.args.name.now c.read_at.new.buf c.loop-taken.at c.in-Ok-read_at.taken c.args.limit c.in-Ok-read_at.ensures.bytes c.in-Ok-read_at.ensures.fits c.loop-taken.invariant.within (omega arith) in
    subst (λ told. IfSome told (λ files. IsSomeAnd (files c.args.name.now) (λ file. c.args.limit < length file))) c.loop-taken.invariant.files over

pub feed-requires : goal.feed-requires
feed-requires g c = λ sound.
    let count = read-count (g.S.Shelf.state c.loop-taken.shelf).files c.args.name.now c.loop-taken.at c.loop-taken.feed c.loop-taken.invariant.so_far sound in
    omega (arith, count, length-take c.in-Ok-read_at.taken c.as_slice.result.now)

pub loop-taken-preserved : goal.loop-taken-preserved
loop-taken-preserved g c =
    let name = c.args.name.now in
    let buffer = c.read_at.new.buf in
    let taken = c.in-Ok-read_at.taken in
    let piece : take taken c.as_slice.result.now ≡ take taken buffer = grind (arith, common_steps) in
    let fed = subst (IsFedOn c.loop-taken.feed c.in-Ok-feed.fed) piece c.in-Ok-feed.ensures.stands in
    let more = read-more (g.S.Shelf.state c.loop-taken.shelf) name buffer c.loop-taken.at taken c.loop-taken.feed c.in-Ok-feed.fed c.loop-taken.invariant.so_far c.in-Ok-read_at.ensures.bytes c.in-Ok-read_at.ensures.fits fed in
    record {
      so_far = subst (λ told. IsReadSoFar told name (c.loop-taken.at + taken) c.in-Ok-feed.fed) (sym c.in-Ok-read_at.ensures.same_files) more;
      within = grind (arith, common_steps);
      room = grind (arith, common_steps);
      given = grind (arith, common_steps);
      faults = grind (arith, common_steps);
      files = grind (arith, common_steps);
    }

pub returns-then-taken-eq0-clause-frames : goal.returns-then-taken-eq0-clause-frames
returns-then-taken-eq0-clause-frames g c =
    let whole = read-whole (g.S.Shelf.state c.args.shelf.now) (g.S.Shelf.state c.loop-taken.shelf) c.args.name.now c.read_at.new.buf c.loop-taken.at c.in-Ok-read_at.taken c.args.limit c.loop-taken.feed c.finish.result c.loop-taken.invariant.files c.loop-taken.invariant.so_far c.in-Ok-read_at.ensures.bytes (grind (arith, common_steps)) (grind (arith, common_steps)) c.loop-taken.invariant.within c.finish.ensures in
    let said = λ (r : Result (List (List ℕ)) CaptureReadErr). IfOk r (λ frames. WasRead (g.S.Shelf.state c.args.shelf.now) c.args.name.now c.args.limit (Ok frames)) in
    elim c.match-finish.branch [
      | in-Ok-finish w ↦ subst said (sym w.result-is) (subst (WasRead (g.S.Shelf.state c.args.shelf.now) c.args.name.now c.args.limit) w.in-Ok-finish.is whole)
      | in-Err w ↦ subst said (sym w.result-is) tt
    ]

pub returns-then-taken-eq0-clause-bad : goal.returns-then-taken-eq0-clause-bad
returns-then-taken-eq0-clause-bad g c = λ fault is.
    let whole = read-whole (g.S.Shelf.state c.args.shelf.now) (g.S.Shelf.state c.loop-taken.shelf) c.args.name.now c.read_at.new.buf c.loop-taken.at c.in-Ok-read_at.taken c.args.limit c.loop-taken.feed c.finish.result c.loop-taken.invariant.files c.loop-taken.invariant.so_far c.in-Ok-read_at.ensures.bytes (grind (arith, common_steps)) (grind (arith, common_steps)) c.loop-taken.invariant.within c.finish.ensures in
    elim c.match-finish.branch [
      | in-Ok-finish w ↦ absurd (no_bad c.match-finish.result w.in-Ok-finish.frames fault w.result-is is)
      | in-Err w ↦ read-bad (g.S.Shelf.state c.args.shelf.now) c.args.name.now c.args.limit c.finish.result c.match-finish.result w.in-Err.fault fault w.in-Err.is w.result-is is whole
    ]
