use Rattle.std.proofs.Common.{◌<◌, sym, ap, ◌∙◌, subst}
use Rattle.ff_headers.specs.Places.{action_of}
use Rattle.steer.specs.BenchState.{BenchState}
use Rattle.steer.proofs.QueueLemmas.{queue-below}
use Rattle.steer.proofs.bench.Bench.frame.Goals as goal

pub returns-clause-queue : goal.returns-clause-queue
returns-clause-queue c = λ queue is.
    let machine = c.self.invariant.0 in
    let of_device = ap (λ objects. action_of objects c.parse.result) (sym machine.in_step.objects) in
    let below = queue-below c.self.inside.device machine.valid c.parse.result queue (of_device ∙ sym c.first_action.ensures ∙ is) in
    subst (λ (b : BenchState). queue < b.device.caps.pairs) c.self.view_is below
