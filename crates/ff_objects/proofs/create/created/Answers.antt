use Rattle.std.proofs.Common.{rules, ◌≡◌, ◌∙◌, sym, ap, arith, subst, ℕ, Bool, [], ◌∷◌, length, Option}
use Rattle.std.specs.Prelude.{is_some, nat_le}
use Rattle.ff_headers.specs.Objects.{object_under}
use Rattle.ff_headers.specs.declared.limits.Limits.{Limits}
use Rattle.cap_table.specs.Statuses.{already_there, no_space}
use Rattle.cap_table.specs.declared.verdict.Verdict.{Verdict}
use Rattle.std.specs.Result.{result_err}
use Rattle.admin_wire.specs.declared.command.Command.TheVariants.{Create}
use Rattle.admin_wire.specs.declared.command.ObjData.{ObjData}
use Rattle.cap_table.specs.Answers.{put_of}
use Rattle.cap_table.specs.Verdicts.{first_verdict, command_rows, rule_rows, rule_faults}
use Rattle.ff_objects.proofs.CheckLemmas.{refuses, puts, new_rule}
use Rattle.ff_objects.proofs.create.created.Goals as goal

pub returns-in_ok-check_new-in-Rule-clause-refused : goal.returns-in_ok-check_new-in-Rule-clause-refused
returns-in_ok-check_new-in-Rule-clause-refused c =
    let caps = c.args.device.now in
    let driver = c.args.driver.now in
    let objects = c.args.store.now.objects in
    let head = c.args.head.now in
    let zero : head.flags ≡ 0 = omega (arith, c.if-head-ne0.false) in
    let same : c.is_some-is_held-in-Rule.result ≡ is_some (object_under objects.rules head.id) = search rules in
    let asked : Bool → Limits → ℕ → Option Verdict
    = λ held limits count. first_verdict ((held, already_there) ∷ (nat_le limits.rules count, no_space) ∷ []) in
    let none = ap (λ held. asked held driver.limits (length objects.rules)) (sym same)
    ∙ (ap (λ limits. asked c.is_some-is_held-in-Rule.result limits (length objects.rules)) (sym c.limits-limits.ensures)
    ∙ (ap (asked c.is_some-is_held-in-Rule.result c.limits-limits.result.now) (sym c.rule_count.ensures)
    ∙ (sym c.check_new-in-Rule.ensures ∙ ap result_err c.in_ok-check_new-in-Rule.was))) in
    let rows = rule_rows (rule_faults caps driver objects head.id c.in-Rule.rule) in
    let of_create = λ (o : ObjData). command_rows caps driver objects (Create head o) in
    subst (λ (o : ObjData). result_err c.rule_put.result ≡ first_verdict (of_create o)) (sym c.in-Rule.is)
    (refuses rows _ _ c.rule_put.ensures ∙ new_rule caps driver objects head c.in-Rule.rule zero none)

pub returns-in_ok-check_new-in-Rule-clause-change : goal.returns-in_ok-check_new-in-Rule-clause-change
returns-in_ok-check_new-in-Rule-clause-change c =
    let id = c.args.head.now.id in
    let faults = rule_faults c.args.device.now c.args.driver.now c.args.store.now.objects id c.in-Rule.rule in
    puts (rule_rows faults) _ _ c.rule_put.ensures _ (ap (put_of id) c.in-Rule.is)
