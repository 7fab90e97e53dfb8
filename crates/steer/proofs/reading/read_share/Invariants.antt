use Rattle.std.proofs.Common.{take}
use Rattle.steer.specs.LiveSteps.{HasReadOn}
use Rattle.steer.specs.Shares.{share}
use Rattle.steer.proofs.reading.read_share.Given as goal

abbrev pub invariant-loop-turn : goal.invariant-loop-turn
invariant-loop-turn g l = HasReadOn l.initial.worker l.worker (take l.turn (share l.frames l.workers l.place))
