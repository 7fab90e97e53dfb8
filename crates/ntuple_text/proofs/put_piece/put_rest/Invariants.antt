-- The pieces so far were written.
use Rattle.std.proofs.Common.{take}
use Rattle.std.specs.List.{flat_map}
use Rattle.vnff_base.specs.Outputs.{Wrote}
use Rattle.ntuple_text.specs.SpecTexts.{next_piece}
use Rattle.ntuple_text.proofs.put_piece.put_rest.Given as goal

abbrev pub invariant-loop-piece : goal.invariant-loop-piece
invariant-loop-piece g l =
    Wrote (g.O.Out.state l.fn.out) (g.O.Out.state l.out) (flat_map (next_piece l.spelling l.separator) (take l.piece-index l.rest))
