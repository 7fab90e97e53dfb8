use Rattle.std.proofs.Common.{◌≡◌, ◌∙◌, List, Some, None, sym, ap, subst}
use Rattle.std.specs.Result.{result_err}
use Rattle.std.proofs.lemmas.Result.{err_from_is_err_and}
use Rattle.ff_store.specs.LimitedObjects.{LimitedObjects}
use Rattle.admin_wire.specs.declared.command.Command.TheVariants.{Query}
use Rattle.cap_table.specs.Verdicts.{Row, first_verdict, command_rows}
use Rattle.ff_objects.proofs.objects.Objects.look.Goals as goal

pub returns-in_err-object-clause-refused : goal.returns-in_err-object-clause-refused
returns-in_err-object-clause-refused c = λ caps driver.
    let p = err_from_is_err_and c.from_residual.result c.from_residual.ensures.1 in
    let is : result_err c.from_residual.result ≡ result_err c.held_object.result
    = ap result_err p.1 ∙ (ap (λ verdict. Some verdict) p.2 ∙ sym (ap result_err c.in_err-object.was)) in
    let rows : LimitedObjects → List Row = λ o. command_rows caps driver o.objects (Query c.args.head.now) in
    subst (λ o. result_err c.from_residual.result ≡ first_verdict (rows o)) c.self.view_is
    (is ∙ c.held_object.ensures.refused caps driver)

pub returns-clause-refused : goal.returns-clause-refused
returns-clause-refused c = λ caps driver.
    let rows : LimitedObjects → List Row = λ o. command_rows caps driver o.objects (Query c.args.head.now) in
    subst (λ o. None ≡ first_verdict (rows o)) c.self.view_is
    (sym (ap result_err c.in_ok-object.was) ∙ c.held_object.ensures.refused caps driver)
