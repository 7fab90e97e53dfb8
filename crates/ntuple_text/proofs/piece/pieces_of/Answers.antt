-- The pieces are read one by one, and the first that is spelled wrongly ends the reading.
use Rattle.std.proofs.Common.{◌<◌, length, arith, sym, ap, ◌∙◌, [], ◌∷◌}
use Rattle.std.proofs.lemmas.List.{length-append}
use Rattle.std.proofs.lemmas.List.Splits.{length-slice_split}
use Rattle.std.specs.List.{slice_split, count_by}
use Rattle.ntuple_text.specs.Pieces.{front_of, is_separator}
use Rattle.ntuple_text.proofs.PieceLemmas.{after_front, after_front-nil, pieces-stop, pieces-step}
use Rattle.ntuple_text.proofs.piece.pieces_of.Goals as goal

pub loop-first-init : goal.loop-first-init
loop-first-init c =
    let p = is_separator c.args.separator in
    let text = c.args.text.now in
    record {
      same = ap (λ front. after_front front (front_of c.args.spelling (slice_split p text))) c.new-front.ensures ∙ after_front-nil (front_of c.args.spelling (slice_split p text));
      fits = omega (arith, ap length c.new-front.ensures, length-slice_split p text);
    }

pub returns-in_err-piece_of-clause-value : goal.returns-in_err-piece_of-clause-value
returns-in_err-piece_of-clause-value c =
    let few : count_by (is_separator c.args.separator) c.args.text.now < 8 = omega (arith, c.separators.ensures) in
    let stop = pieces-stop c.args.spelling c.args.separator c.args.text.now c.loop-first.rest.now c.in-Some.first.now c.in-Some.more.now c.loop-first.front.items few c.loop-first.invariant.same c.in-Some.ensures.first (sym c.in_err-piece_of.ensures) in
    rw c.from_residual.ensures stop

pub loop-first-preserved : goal.loop-first-preserved
loop-first-preserved c =
    let p = is_separator c.args.separator in
    record {
      same = pieces-step c.args.spelling c.args.separator c.args.text.now c.loop-first.rest.now c.in-Some.first.now c.in-Some.more.now c.loop-first.front.items c.push.new.self.items c.in_ok-piece_of.field-0 c.push.ensures.items c.loop-first.invariant.same c.in-Some.ensures.first (sym c.piece_of.ensures ∙ c.in_ok-piece_of.was);
      fits = omega (arith, c.loop-first.invariant.fits, ap length c.in-Some.ensures.first, ap length c.push.ensures.items, length-append c.loop-first.front.items (c.in_ok-piece_of.field-0 ∷ []));
    }
