use Rattle.std.proofs.Common.{ap, subst, ◌∙◌}
use Rattle.ff_headers.specs.Frames.{HeaderBytes}
use Rattle.snapshots.specs.Reads.{IsRead}
use Rattle.snapshots.specs.Workers.{WorkerState, log_after}
use Rattle.snapshots.proofs.Logging.{logged_more, log_after_more}
use Rattle.snapshots.proofs.worker.Worker.classify.Goals as goal

pub returns-clause-logged : goal.returns-clause-logged
returns-clause-logged g c frames frame logged room is some short =
    let old = c.args.self.now in
    let seen = c.in-Ok.seen in
    let floors = g.D.Door.floors c.look.new.self in
    let here = subst (λ (w : WorkerState). IsRead w.limits w.floors floors c.args.headers.now seen) c.self.view_is c.in-Ok.ensures.answer in
    let read = subst (λ (h : HeaderBytes). IsRead old.limits old.floors floors h seen) is here in
    let log = c.note.ensures.log ∙ (ap (λ (w : WorkerState). log_after w.log w.spare seen) c.self.view_is
    ∙ log_after_more old.log old.spare seen room) in
    logged_more old _ frames frame seen (c.look.ensures.same_limits ∙ ap (λ (w : WorkerState). w.limits) c.self.view_is) log read short logged
