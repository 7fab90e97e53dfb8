use Rattle.std.proofs.Common.{◌∙◌, ap, sym}
use Rattle.snapshots.specs.Fresh.{end_of}
use Rattle.snapshots.proofs.Openings.{is_opened}
use Rattle.snapshots.proofs.opening.attempt.Goals as goal

pub returns-in-Ok-Some : goal.returns-in-Ok-Some
returns-in-Ok-Some g c =
    let end = c.over.ensures ∙ c.over-published.ensures ∙ ap (λ t. end_of t c.args.limits.now) (sym c.trail-3.ensures) in
    let empty = ap (λ t. t.list) c.trail-3.ensures ∙ c.new-pen.ensures in
    is_opened (λ l. l.items) c.args.limits.now c.args.workers c.from-2.result c.trail-3.result.now c.over.result c.in-Ok-Some.field-0 c.in-Ok-Some.list c.in-Ok-Some.field-0-is c.in-Ok-Some.ensures.workers end empty c.from-2.ensures
