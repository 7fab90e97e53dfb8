use Rattle.std.proofs.Common.{◌≡◌, sym, ap, subst, ◌∙◌}
use Rattle.std.specs.Result.{result_err}
use Rattle.admin_wire.specs.declared.command.Command.TheVariants.{Query}
use Rattle.cap_table.specs.States.{DeviceState}
use Rattle.cap_table.specs.Answers.{answer_to}
use Rattle.admin_dev.specs.DeviceParts.{state_of}
use Rattle.admin_dev.proofs.AnswerLemmas.{query_told, query_refused}
use Rattle.admin_dev.proofs.device.Device.query_answer.Goals as goal

pub returns-in-Ok : goal.returns-in-Ok
returns-in-Ok c =
    let parts = c.self.inside in
    let state : DeviceState = state_of parts.caps parts.in_use parts.driver parts.objects in
    let none = sym (c.look.ensures.refused parts.caps parts.driver) ∙ ap result_err c.in-Ok.is in
    subst (λ (s : DeviceState). c.obeyed.result ≡ answer_to s (Query c.args.head.now)) c.self.view_is
    (c.obeyed.ensures ∙ sym (query_told state c.args.head.now _ none c.in-Ok.ensures.told))

pub returns-in-Err : goal.returns-in-Err
returns-in-Err c =
    let parts = c.self.inside in
    let state : DeviceState = state_of parts.caps parts.in_use parts.driver parts.objects in
    let some = sym (c.look.ensures.refused parts.caps parts.driver) ∙ ap result_err c.in-Err.is in
    subst (λ (s : DeviceState). c.refused.result ≡ answer_to s (Query c.args.head.now)) c.self.view_is
    (c.refused.ensures ∙ sym (query_refused state c.args.head.now _ some))
