use Rattle.vnff_base.proofs.Writing.{writes_after, writes_stopped, stopped_before}
use Rattle.vnff_run.specs.Outcomes.{refusal_words}
use Rattle.vnff_run.proofs.ending.put_refusal_words.Goals as goal

pub returns-in_err-put-in-TooLong : goal.returns-in_err-put-in-TooLong
unfolding refusal_words
returns-in_err-put-in-TooLong g c =
    rw (c.in-TooLong.is, ← c.kind_word.ensures) (writes_stopped _ _ c.from_residual.ensures.1 (stopped_before c.in_err-put-in-TooLong.ensures _))

pub returns-in_ok-put-in-TooLong : goal.returns-in_ok-put-in-TooLong
unfolding refusal_words
returns-in_ok-put-in-TooLong g c =
    rw (c.in-TooLong.is, ← c.kind_word.ensures) (writes_after _ _ _ c.in_ok-put-in-TooLong.ensures c.put-in-TooLong.ensures)

pub returns-in_err-put-in-BadImage : goal.returns-in_err-put-in-BadImage
unfolding refusal_words
returns-in_err-put-in-BadImage g c =
    rw c.in-BadImage.is (writes_stopped _ _ c.from_residual-in_err-put-in-BadImage.ensures.1 (stopped_before c.in_err-put-in-BadImage.ensures _))

pub returns-in_ok-put-in-BadImage : goal.returns-in_ok-put-in-BadImage
unfolding refusal_words
returns-in_ok-put-in-BadImage g c =
    rw (c.in-BadImage.is, ← c.setup_word.ensures) (writes_after _ _ _ c.in_ok-put-in-BadImage.ensures c.put-in-BadImage-2.ensures)
