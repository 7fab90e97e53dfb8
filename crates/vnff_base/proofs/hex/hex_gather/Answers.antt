use Rattle.std.proofs.Common.{◌≡◌, ℕ, ◌<◌, List, length, arith, subst}
use Rattle.std.proofs.lemmas.Bool.Decides.{nat_tests}
use Rattle.std.specs.List.{flat_map}
use Rattle.vnff_base.specs.Hex.{hex_text, hex_pair}
use Rattle.vnff_base.specs.Gatherings.{Lost}
use Rattle.vnff_base.proofs.Gathering.{took_some, lost_some, gathers_lost}
use Rattle.vnff_base.proofs.hex.hex_gather.Goals as goal

-- the spelling of some bytes
hex_text-some : (bytes : List ℕ) → 0 < length bytes → flat_map hex_pair bytes ≡ hex_text bytes
hex_text-some bytes some = grind (arith, nat_tests)

pub returns-in_err-gather_piece : goal.returns-in_err-gather_piece
returns-in_err-gather_piece g c =
    let bytes = c.args.bytes.now in
    let lost = lost_some hex_pair bytes c.loop-at.at c.min-end.result (omega arith) c.loop-at.invariant.took c.in_err-gather_piece.ensures in
    gathers_lost _ _ _ c.from_residual.ensures.1 (subst (Lost _ _ _) (hex_text-some bytes (omega arith)) lost)

pub loop-at-preserved : goal.loop-at-preserved
loop-at-preserved g c = record {
  within = omega arith;
  took = took_some hex_pair c.args.bytes.now c.loop-at.at c.min-end.result (omega arith) c.loop-at.invariant.took c.in_ok-gather_piece.ensures;
}
