use Rattle.std.proofs.Common.{◌≡◌, ◌<◌, ◌+◌, ◌-◌, ◌^◌, length, length-drop, take, drop, subst, arith}
use Rattle.std.specs.List.{All}
use Rattle.std.proofs.lemmas.List.{take_all}
use Rattle.split_queue.proofs.PostLaws.{posting-none, posting-more}
use Rattle.split_queue.specs.declared.chain.Piece.{Piece}
use Rattle.split_queue.proofs.driver_end.put_chain.Goals as goal

pub loop-i-init : goal.loop-i-init
loop-i-init c = posting-none _ _ _ _ _ _ c.requires.first

pub loop-i-preserved : goal.loop-i-preserved
loop-i-preserved c =
    let so_far = c.loop-i.invariant in
    let within : c.claim-number.result < c.args.place.size = omega (arith, c.claim-number.ensures.within, so_far.same_size, c.requires.same_size) in
    let later : take (length c.args.pieces.now - (c.loop-i.i + 1)) (drop (c.loop-i.i + 1) c.args.pieces.now) ≡ drop (c.loop-i.i + 1) c.args.pieces.now = take_all _ _ (omega (arith, length-drop (c.loop-i.i + 1) c.args.pieces.now)) in
    let is_after = rw (c.piece_descriptor-descriptor.ensures.value, c.saturating_sub.ensures, later) at c.put.ensures.value in
    posting-more _ _ _ _ _ _ _ _ _ _ _ _ _ c.loop-i-test.true so_far c.claim-number.ensures.free c.claim-number.ensures.owners c.claim-number.ensures.was_free c.claim-number.ensures.within within is_after c.put.ensures.others c.piece_descriptor-descriptor.ensures.small

pub returns-clause-lens : goal.returns-clause-lens
returns-clause-lens c = subst (All (λ (p : Piece). p.len < 2 ^ 32)) (take_all c.loop-i.i c.args.pieces.now (omega arith)) c.loop-i.invariant.lens
