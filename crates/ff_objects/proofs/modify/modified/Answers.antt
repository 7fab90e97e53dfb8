use Rattle.std.proofs.Common.{rules, ◌≡◌, ◌∙◌, sym, ap, arith, subst, [], ◌∷◌, not}
use Rattle.std.specs.Prelude.{is_some}
use Rattle.ff_headers.specs.Objects.{object_under}
use Rattle.cap_table.specs.Statuses.{no_object}
use Rattle.std.specs.Result.{result_err}
use Rattle.admin_wire.specs.declared.command.Command.TheVariants.{Modify}
use Rattle.admin_wire.specs.declared.command.ObjData.{ObjData}
use Rattle.cap_table.specs.Answers.{put_of}
use Rattle.cap_table.specs.Verdicts.{first_verdict, command_rows, rule_rows, rule_faults}
use Rattle.ff_objects.proofs.CheckLemmas.{refuses, puts, held_rule}
use Rattle.ff_objects.proofs.modify.modified.Goals as goal

pub returns-in_ok-check_held-in-Rule-clause-refused : goal.returns-in_ok-check_held-in-Rule-clause-refused
returns-in_ok-check_held-in-Rule-clause-refused c =
    let caps = c.args.device.now in
    let driver = c.args.driver.now in
    let objects = c.args.store.now.objects in
    let head = c.args.head.now in
    let zero : head.flags ≡ 0 = omega (arith, c.if-head-ne0.false) in
    let same : c.is_some-in-Rule.result ≡ is_some (object_under objects.rules head.id) = search rules in
    let none = ap (λ held. first_verdict ((not held, no_object) ∷ [])) (sym same)
    ∙ (sym c.check_held-in-Rule.ensures ∙ ap result_err c.in_ok-check_held-in-Rule.was) in
    let rows = rule_rows (rule_faults caps driver objects head.id c.in-Rule.rule) in
    let of_modify = λ (o : ObjData). command_rows caps driver objects (Modify head o) in
    subst (λ (o : ObjData). result_err c.rule_put.result ≡ first_verdict (of_modify o)) (sym c.in-Rule.is)
    (refuses rows _ _ c.rule_put.ensures ∙ held_rule caps driver objects head c.in-Rule.rule zero none)

pub returns-in_ok-check_held-in-Rule-clause-change : goal.returns-in_ok-check_held-in-Rule-clause-change
returns-in_ok-check_held-in-Rule-clause-change c =
    let id = c.args.head.now.id in
    let faults = rule_faults c.args.device.now c.args.driver.now c.args.store.now.objects id c.in-Rule.rule in
    puts (rule_rows faults) _ _ c.rule_put.ensures _ (ap (put_of id) c.in-Rule.is)
