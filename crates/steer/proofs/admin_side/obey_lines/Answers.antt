use Rattle.std.proofs.Common.{◌≡◌, get_or, ap, ◌∙◌, arith}
use Rattle.steer.proofs.AdminLemmas.{carried_more}
use Rattle.steer.proofs.admin_side.obey_lines.Goals as goal

pub loop-n-preserved : goal.loop-n-preserved
loop-n-preserved g c =
    let line = c.index-as_slice-n.result in
    let at : line ≡ get_or c.args.lines.now c.loop-n.n line = c.index-as_slice-n.is ∙ ap (λ l. get_or l c.loop-n.n line) c.as_slice.ensures in
    let e = c.obey_line-reply.ensures in
    let v = c.push_reserved.ensures in
    carried_more c.args.lines.now c.args.from c.loop-n.n c.args.side.now c.loop-n.side _ line c.obey_line-reply.result (omega arith) (omega arith) at e.answered e.left e.published v.items v.capacity c.loop-n.invariant
