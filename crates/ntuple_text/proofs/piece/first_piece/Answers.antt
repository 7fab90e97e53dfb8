-- The first piece ends at the first separator.
use Rattle.std.proofs.Common.{◌≡◌, Some, None}
use Rattle.std.specs.List.{position}
use Rattle.std.proofs.lemmas.List.{take_rest}
use Rattle.ntuple_text.specs.Pieces.{is_separator}
use Rattle.ntuple_text.proofs.PieceLemmas.{pieces-at, pieces-one}
use Rattle.ntuple_text.proofs.piece.first_piece.Goals as goal

pub returns-in-Some-clause-first : goal.returns-in-Some-clause-first
returns-in-Some-clause-first c =
    let p = is_separator c.args.separator in
    let found : position p c.args.text.now ≡ Some c.in-Some.end = cc in
    rw take_rest (pieces-at p c.args.text.now c.in-Some.end found)

pub returns-in-None-clause-first : goal.returns-in-None-clause-first
returns-in-None-clause-first c =
    let p = is_separator c.args.separator in
    let found : position p c.args.text.now ≡ None = cc in
    pieces-one p c.args.text.now found
