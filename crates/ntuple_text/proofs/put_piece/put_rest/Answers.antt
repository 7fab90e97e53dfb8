-- Each piece is written after its separator.
use Rattle.std.proofs.Common.{arith, refl}
use Rattle.vnff_base.proofs.Writing.{wrote_item, stopped_item, writes_stopped}
use Rattle.ntuple_text.specs.SpecTexts.{next_piece}
use Rattle.ntuple_text.proofs.put_piece.put_rest.Goals as goal

pub returns-in_err-put_next : goal.returns-in_err-put_next
returns-in_err-put_next g c =
    let text = next_piece c.args.spelling c.args.separator in
    writes_stopped _ _ c.from_residual.ensures.1 (stopped_item text c.args.rest.now c.loop-piece.piece-index 0 _ (omega arith) refl c.loop-piece.invariant c.in_err-put_next.ensures)

pub loop-piece-preserved : goal.loop-piece-preserved
loop-piece-preserved g c =
    let text = next_piece c.args.spelling c.args.separator in
    wrote_item text c.args.rest.now c.loop-piece.piece-index 0 _ (omega arith) refl c.loop-piece.invariant c.in_ok-put_next.ensures
