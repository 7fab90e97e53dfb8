use Rattle.std.proofs.Common.{rules}
use Rattle.cap_table.specs.Answers.{verdict_of}
use Rattle.admin_dev.proofs.AnswerLemmas.{reply_never_no_memory, decision_only_obeyed}
use Rattle.admin_dev.proofs.device.Device.decide.Goals as goal

pub returns-then-room-lt8-clause-never_no_memory : goal.returns-then-room-lt8-clause-never_no_memory
unfolding verdict_of
returns-then-room-lt8-clause-never_no_memory c =
    reply_never_no_memory c.args.self.now c.args.bytes.now c.args.room _ (search rules)

pub returns-then-room-lt8-clause-only_obeyed : goal.returns-then-room-lt8-clause-only_obeyed
unfolding verdict_of
returns-then-room-lt8-clause-only_obeyed c =
    decision_only_obeyed c.args.self.now c.args.bytes.now c.args.room _ _ (search rules) (search rules)

pub returns-then-room-lt8-clause-is_effect : goal.returns-then-room-lt8-clause-is_effect
unfolding verdict_of
returns-then-room-lt8-clause-is_effect c = (c.args.bytes.now, c.args.room, search rules)

pub returns-clause-is_effect : goal.returns-clause-is_effect
unfolding verdict_of
returns-clause-is_effect c = (c.args.bytes.now, c.args.room, search rules)

pub returns-clause-never_no_memory : goal.returns-clause-never_no_memory
unfolding verdict_of
returns-clause-never_no_memory c =
    reply_never_no_memory c.args.self.now c.args.bytes.now c.args.room _ (search rules)

pub returns-clause-only_obeyed : goal.returns-clause-only_obeyed
unfolding verdict_of
returns-clause-only_obeyed c =
    decision_only_obeyed c.args.self.now c.args.bytes.now c.args.room _ _ (search rules) (search rules)
