-- The fields, the action and the location.
use Rattle.vnff_base.proofs.Writing.{writes_after, writes_stopped, stopped_before}
use Rattle.ntuple_text.specs.SpecTexts.{options_text}
use Rattle.ntuple_text.proofs.put.put_options.Goals as goal

pub returns-in_err-put_fields : goal.returns-in_err-put_fields
unfolding options_text
returns-in_err-put_fields g c = writes_stopped _ _ c.from_residual.ensures.1 (stopped_before c.in_err-put_fields.ensures _)

pub returns-in_err-put_action : goal.returns-in_err-put_action
unfolding options_text
returns-in_err-put_action g c =
    writes_after _ _ _ c.in_ok-put_fields.ensures (writes_stopped _ _ c.from_residual-in_err-put_action.ensures.1 (stopped_before c.in_err-put_action.ensures _))

pub returns : goal.returns
unfolding options_text
returns g c = writes_after _ _ _ c.in_ok-put_fields.ensures (writes_after _ _ _ c.in_ok-put_action.ensures c.put_loc.ensures)
