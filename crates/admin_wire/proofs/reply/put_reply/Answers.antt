use Rattle.std.proofs.Common.{◌∙◌, ap, arith, take}
use Rattle.std.proofs.lemmas.List.{take_all}
use Rattle.admin_wire.specs.Replies.{whole_reply, reply_spelled}
use Rattle.admin_wire.proofs.ReplyLaws.{reply_back, whole_reply-length}
use Rattle.admin_wire.proofs.reply.put_reply.Goals as goal

-- there is no room for the whole reply
pub returns-then-room-clause-read_back : goal.returns-then-room-clause-read_back
returns-then-room-clause-read_back c = λ fits. absurd (omega (arith, whole_reply-length c.args.reply.now))

pub returns-clause-read_back : goal.returns-clause-read_back
returns-clause-read_back c = λ fits.
    let bytes = c.truncate.ensures.items ∙ ap (take c.args.room) c.whole_reply-bytes.ensures.bytes
    ∙ take_all c.args.room (whole_reply c.args.reply.now) fits in
    ap reply_spelled bytes ∙ reply_back c.args.reply.now c.whole_reply-bytes.ensures.fits
