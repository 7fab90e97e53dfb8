use Rattle.std.proofs.Common.{arith, subst}
use Rattle.vnff_base.specs.Gatherings.{Lost, Took}
use Rattle.vnff_base.proofs.Gathering.{gathers_lost, lost_item, took_item, took_items, took_nothing}
use Rattle.vnff_run.proofs.LiveLines.{line_of_reply, lines_of_replies}
use Rattle.vnff_run.proofs.live_text.put_replies.Goals as goal

pub loop-reply-init : goal.loop-reply-init
loop-reply-init g c = took_nothing _ _

pub loop-reply-preserved : goal.loop-reply-preserved
loop-reply-preserved g c =
    took_item line_of_reply c.args.replies.now c.loop-reply.reply-index c.reply-item.result c.reply-item.result (omega arith) c.reply-item.is c.loop-reply.invariant (rw c.as_slice.ensures.value at c.in_ok-put_reply_line.ensures)

pub returns-in_err-put_reply_line : goal.returns-in_err-put_reply_line
returns-in_err-put_reply_line g c =
    gathers_lost _ _ _ c.from_residual.ensures.1
    (subst (λ text. Lost (g.O.Out.state c.args.out.now) (g.O.Out.state c.put_reply_line.new.out) c.args.text.now text) (lines_of_replies c.args.replies.now) (lost_item line_of_reply c.args.replies.now c.loop-reply.reply-index c.reply-item.result c.reply-item.result (omega arith) c.reply-item.is c.loop-reply.invariant (rw c.as_slice.ensures.value at c.in_err-put_reply_line.ensures)))

pub returns : goal.returns
returns g c =
    subst (λ text. Took (g.O.Out.state c.args.out.now) (g.O.Out.state c.loop-reply.out) c.args.text.now c.loop-reply.text text) (lines_of_replies c.args.replies.now) (took_items line_of_reply c.args.replies.now c.loop-reply.reply-index (omega arith) c.loop-reply.invariant)
