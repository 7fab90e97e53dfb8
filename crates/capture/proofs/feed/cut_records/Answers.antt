use Rattle.std.proofs.Common.{◌≡◌, ◌+◌, ◌-◌, ◌≤◌, ◌∷◌, ◌++◌, [], Ok, length, take, drop, ap, sym, ◌∙◌, subst, arith}
use Rattle.std.proofs.lemmas.List.{append_assoc, length-drop, take_all}
use Rattle.capture.specs.Records.{frame_of, AreRecords}
use Rattle.capture.proofs.FeedLaws.{AreRecords-push}
use Rattle.capture.proofs.FeedSteps.{take-further}
use Rattle.capture.proofs.feed.cut_records.Goals as goal

pub loop-frame-preserved : goal.loop-frame-preserved
loop-frame-preserved c =
    let bytes = c.args.bytes.now in
    let at = c.loop-frame.at in
    let frame = c.in-Ok.frame.now in
    let slice : take (length bytes - at) (drop at bytes) ≡ drop at bytes = take_all (length bytes - at) (drop at bytes) (omega (arith, length-drop at bytes)) in
    let read : frame_of c.args.big (c.args.before + at) (drop at bytes) ≡ Ok frame = subst (λ xs. frame_of c.args.big (c.args.before + at) xs ≡ Ok frame) slice (sym c.in-Ok.ensures.value) in
    let whole : 16 + length frame ≤ length (drop at bytes) = subst (λ xs. 16 + length frame ≤ length xs) slice c.in-Ok.ensures.within in
    let (frames, is, records) = c.loop-frame.invariant.further in
    record {
      within = omega (arith, whole, length-drop at bytes, c.loop-frame.invariant.within);
      further = (
        frames ++ frame ∷ [],
        c.in_ok-push-in-Ok.ensures.ok ∙ ap (λ xs. xs ++ frame ∷ []) is ∙ append_assoc c.args.frames.now frames (frame ∷ []),
        subst (λ xs. AreRecords c.args.big xs (frames ++ frame ∷ [])) (sym (take-further bytes at (16 + length frame) c.loop-frame.invariant.within))
            (AreRecords-push c.args.big (c.args.before + at) (take at bytes) (drop at bytes) frame frames records read),
      );
    }
