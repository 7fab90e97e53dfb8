use Rattle.std.proofs.Common.{◌∙◌, arith, rules, subst}
use Rattle.split_queue.proofs.PiecesInside.{pieces-inside}
use Rattle.split_queue.proofs.OutcomeLaws.{chain-walk, chain-head, fault-walk, chain-ring_fault}
use Rattle.split_queue.specs.Errors.{HasWalkFault}
use Rattle.split_queue.proofs.device_end.next_chain.Goals as goal

pub returns-in-Ok-clause-head : goal.returns-in-Ok-clause-head
returns-in-Ok-clause-head c = λ _. chain-head c.args.mem.now c.args.place c.available_head-head.result (omega arith) c.fill_chain.new.chain c.in-Ok.ensures ∙ c.available_head-head.ensures

pub returns-in-Ok-clause-walk : goal.returns-in-Ok-clause-walk
returns-in-Ok-clause-walk c = λ _. chain-walk c.args.mem.now c.args.place c.available_head-head.result (omega arith) c.fill_chain.new.chain c.in-Ok.ensures

pub returns-in-Ok-clause-inside : goal.returns-in-Ok-clause-inside
returns-in-Ok-clause-inside c = λ _. pieces-inside c.args.mem.now c.args.place c.available_head-head.result c.fill_chain.new.chain c.in-Ok.ensures

pub returns-in-Err-clause-fault : goal.returns-in-Err-clause-fault
returns-in-Err-clause-fault c =
    let found = fault-walk c.args.mem.now c.args.place c.available_head-head.result (omega arith) c.in-Err.fault c.in-Err.ensures in
    chain-ring_fault c.args.mem.now c.args.place c.args.index c.in-Err.fault (record {
      ahead = search rules;
      walk_fault = subst (λ head. HasWalkFault c.args.mem.now c.args.place head c.in-Err.fault) c.available_head-head.ensures found;
    })
