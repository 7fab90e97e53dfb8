use Rattle.std.proofs.Common.{arith}
use Rattle.admin_wire.proofs.SizeLaws.{command_fits}
use Rattle.admin_wire.proofs.laws.distinct_selectors_fit.Goals as goal

pub returns : goal.returns
returns c = λ command has distinct. omega (arith, command_fits command has distinct)
