use Rattle.std.proofs.Common.{◌+◌, ◌*◌, length}
use Rattle.steer.proofs.beside.+beside.Given as goal

abbrev pub decreases-beside : goal.decreases-beside
decreases-beside g l = 3 * length l.readers.now

abbrev pub decreases-beside_first : goal.decreases-beside_first
decreases-beside_first g l = 3 * length l.others.now + 2

abbrev pub decreases-beside_first-rest : goal.decreases-beside_first-rest
decreases-beside_first-rest g l = 3 * length l.others.now + 1
