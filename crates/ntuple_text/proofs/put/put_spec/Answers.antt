-- The flow, and then the options.
use Rattle.vnff_base.proofs.Writing.{writes_after, writes_stopped, stopped_before}
use Rattle.ntuple_text.specs.SpecTexts.{spec_text}
use Rattle.ntuple_text.proofs.LineReadBack.{line-read}
use Rattle.ntuple_text.proofs.put.put_spec.Goals as goal

pub returns-in_err-put-clause-written : goal.returns-in_err-put-clause-written
unfolding spec_text
returns-in_err-put-clause-written g c = writes_stopped _ _ c.from_residual.ensures.1 (stopped_before c.in_err-put.ensures _)

pub returns-in_err-put-clause-read_back : goal.returns-in_err-put-clause-read_back
returns-in_err-put-clause-read_back g c = λ table few good. line-read table c.args.spec.now few good

pub returns-in_err-put_flow-clause-written : goal.returns-in_err-put_flow-clause-written
unfolding spec_text
returns-in_err-put_flow-clause-written g c =
    writes_after _ _ _ c.in_ok-put.ensures (writes_stopped _ _ c.from_residual-in_err-put_flow.ensures.1 (stopped_before c.in_err-put_flow.ensures _))

pub returns-in_err-put_flow-clause-read_back : goal.returns-in_err-put_flow-clause-read_back
returns-in_err-put_flow-clause-read_back g c = λ table few good. line-read table c.args.spec.now few good

pub returns-clause-written : goal.returns-clause-written
unfolding spec_text
returns-clause-written g c = writes_after _ _ _ c.in_ok-put.ensures (writes_after _ _ _ c.in_ok-put_flow.ensures c.put_options.ensures)

pub returns-clause-read_back : goal.returns-clause-read_back
returns-clause-read_back g c = λ table few good. line-read table c.args.spec.now few good
