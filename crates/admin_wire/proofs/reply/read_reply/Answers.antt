use Rattle.std.proofs.Common.{◌∙◌, ap, sym}
use Rattle.admin_wire.specs.Replies.{reply_spelled}
use Rattle.admin_wire.proofs.ReplyLaws.{reply_back, no_reply, no_reply_back}
use Rattle.admin_wire.proofs.reply.read_reply.Goals as goal

pub returns-clause-none : goal.returns-clause-none
returns-clause-none c = (
  λ none. no_reply_back c.args.bytes.now (sym c.reply_spelled.ensures ∙ none),
  λ size. c.reply_spelled.ensures ∙ no_reply c.args.bytes.now size,
)

pub returns-clause-whole : goal.returns-clause-whole
returns-clause-whole c = λ reply is same. c.reply_spelled.ensures ∙ ap reply_spelled same ∙ reply_back reply is
