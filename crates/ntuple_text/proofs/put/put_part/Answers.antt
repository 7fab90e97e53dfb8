-- The word, the value and the mask.
use Rattle.vnff_base.proofs.Writing.{writes_after, writes_stopped, stopped_before}
use Rattle.ntuple_text.specs.SpecTexts.{part_text}
use Rattle.ntuple_text.proofs.put.put_part.Goals as goal

pub returns-in_err-put_field_word : goal.returns-in_err-put_field_word
unfolding part_text
returns-in_err-put_field_word g c = writes_stopped _ _ c.from_residual.ensures.1 (stopped_before c.in_err-put_field_word.ensures _)

pub returns-in_err-put_value : goal.returns-in_err-put_value
unfolding part_text
returns-in_err-put_value g c =
    writes_after _ _ _ c.in_ok-put_field_word.ensures (writes_stopped _ _ c.from_residual-in_err-put_value.ensures.1 (stopped_before c.in_err-put_value.ensures _))

pub returns : goal.returns
unfolding part_text
returns g c = writes_after _ _ _ c.in_ok-put_field_word.ensures (writes_after _ _ _ c.in_ok-put_value.ensures c.put_mask.ensures)
