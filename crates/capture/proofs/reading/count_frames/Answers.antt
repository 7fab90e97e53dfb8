use Rattle.std.proofs.Common.{◌≡◌, ◌+◌, length, drop, Some, Ok, ap, sym, ◌∙◌, arith}
use Rattle.std.proofs.lemmas.Grind.{common_steps}
use Rattle.capture.specs.Records.{map_ok, next_of, records_of}
use Rattle.capture.proofs.RecordLemmas.{next_of-more, count-more}
use Rattle.capture.proofs.reading.count_frames.Goals as goal

pub loop-frame-preserved : goal.loop-frame-preserved
loop-frame-preserved c =
    let big = c.args.header.now.big in
    let file = c.args.bytes.now in
    let at = c.loop-frame.at in
    let count = c.loop-frame.count in
    let frame = c.in-Some.frame.now in
    let next : Ok (Some frame) ≡ next_of big file at = rw c.in-Some.is at c.in_ok-frame.ensures.value in
    let more = next_of-more big file at frame c.loop-frame.invariant.within next in
    record {
      from = omega arith;
      within = grind (arith, common_steps);
      room = omega arith;
      read = count-more count frame (records_of big (at + (16 + length frame)) (drop (at + (16 + length frame)) file)) ∙ ap (map_ok (λ frames. count + length frames)) (sym more) ∙ c.loop-frame.invariant.read;
    }
