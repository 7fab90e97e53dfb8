-- A word with a plus sign or a leading zero spells no number, and each other word of digits does.
use Rattle.std.proofs.Common.{sym, inr}
use Rattle.std.proofs.lemmas.Bool.{iff_false}
use Rattle.vnff_base.proofs.NumberLemmas.{padded_none, digits_spelled, spelled, not_spelled}
use Rattle.vnff_base.proofs.number.num_read.Goals as goal

pub returns-then-is_padded-clause-value : goal.returns-then-is_padded-clause-value
returns-then-is_padded-clause-value c = sym (padded_none c.args.word.now (c.is_padded.ensures.0 c.if-is_padded.true))

pub returns-then-is_padded-clause-not_spelled : goal.returns-then-is_padded-clause-not_spelled
returns-then-is_padded-clause-not_spelled c =
    not_spelled c.args.word.now _ (returns-then-is_padded-clause-value c)

pub returns-clause-value : goal.returns-clause-value
returns-clause-value c =
    digits_spelled c.args.word.now _ (λ zero. iff_false c.is_padded.ensures c.if-is_padded.false (inr zero)) c.digits_value.ensures

pub returns-clause-spelled : goal.returns-clause-spelled
returns-clause-spelled c = spelled c.args.word.now _ (returns-clause-value c)

pub returns-clause-not_spelled : goal.returns-clause-not_spelled
returns-clause-not_spelled c = not_spelled c.args.word.now _ (returns-clause-value c)
