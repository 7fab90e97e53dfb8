use Rattle.std.proofs.Common.{ap, ◌∙◌, map, take}
use Rattle.std.specs.List.{enumerate_from}
use Rattle.admin_wire.specs.declared.command.Command.TheVariants.{Create}
use Rattle.admin_wire.specs.declared.command.ObjData.TheVariants.{Rule}
use Rattle.ntuple_compile.specs.Compiled.{create_head, create_rule, spec_rule}
use Rattle.ntuple_compile.specs.Selected.{selectors_of}
use Rattle.ntuple_compile.proofs.CommandLemmas.{pushed, rules_more}
use Rattle.ntuple_compile.proofs.commands.create_rules.Goals as goal

pub loop-id-preserved : goal.loop-id-preserved
loop-id-preserved c =
    let id = c.loop-id.id in
    let size = c.args.size in
    let shapes = map selectors_of c.args.shapes.now.firsts.items in
    let head = ap (λ h. Create h (Rule c.rule_of_spec-rule.result)) c.create_head-head.ensures in
    let rule = ap (λ r. Create (create_head 514 id) (Rule r)) c.rule_of_spec-rule.ensures in
    let item = head ∙ rule in
    let front = map create_rule (map (λ e. (e.0, spec_rule size shapes e.0 e.1)) (enumerate_from 0 (take id c.args.specs.now))) in
    pushed c.args.commands.now front _ c.loop-id.commands c.push.new.self _ c.loop-id.invariant (rw item at c.in_ok-push.ensures.ok) (rules_more size shapes c.args.specs.now id _ c.loop-id-test.true)
