use Rattle.std.proofs.Common.{◌≡◌, ◌*◌, take}
use Rattle.std.specs.List.{flat_map}
use Rattle.vnff_base.specs.Hex.{hex_pair}
use Rattle.vnff_base.proofs.hex.spell.Given as goal

abbrev pub invariant-loop-place : goal.invariant-loop-place
invariant-loop-place l = take (2 * l.place) l.digits ≡ flat_map hex_pair (take l.place l.bytes)
