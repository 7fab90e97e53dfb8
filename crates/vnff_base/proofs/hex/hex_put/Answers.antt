use Rattle.std.proofs.Common.{◌≡◌, ℕ, ◌<◌, List, length, arith, subst}
use Rattle.std.proofs.lemmas.Bool.Decides.{nat_tests}
use Rattle.std.specs.List.{flat_map}
use Rattle.vnff_base.specs.Hex.{hex_text, hex_pair}
use Rattle.vnff_base.specs.Outputs.{Stopped}
use Rattle.vnff_base.proofs.Writing.{wrote_some, stopped_some, writes_stopped}
use Rattle.vnff_base.proofs.hex.hex_put.Goals as goal

-- the spelling of some bytes
hex_text-some : (bytes : List ℕ) → 0 < length bytes → flat_map hex_pair bytes ≡ hex_text bytes
hex_text-some bytes some = grind (arith, nat_tests)

pub returns-in_err-put_piece : goal.returns-in_err-put_piece
returns-in_err-put_piece g c =
    let bytes = c.args.bytes.now in
    let stopped = stopped_some hex_pair bytes c.loop-at.at c.min-end.result (omega arith) c.loop-at.invariant.wrote c.in_err-put_piece.ensures in
    writes_stopped _ _ c.from_residual.ensures.1 (subst (Stopped _ _) (hex_text-some bytes (omega arith)) stopped)

pub loop-at-preserved : goal.loop-at-preserved
loop-at-preserved g c = record {
  within = omega arith;
  wrote = wrote_some hex_pair c.args.bytes.now c.loop-at.at c.min-end.result (omega arith) c.loop-at.invariant.wrote c.in_ok-put_piece.ensures;
}
