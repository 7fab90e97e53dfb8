use Rattle.std.proofs.Common.{inl, inr, sym, subst}
use Rattle.admin_wire.specs.declared.command.Command.{Command}
use Rattle.admin_wire.specs.LaidOut.{HasBytes, HasLayout}
use Rattle.admin_wire.proofs.write.put_data.Goals as goal

-- a create, or a modify
pub returns-in-Create-clause-layout : goal.returns-in-Create-clause-layout
returns-in-Create-clause-layout c =
    let layout = c.put_object.ensures.layout c.in-Create.head.type_code in
    elim c.in-Create.is [
      | inl is ↦ subst (λ (x : Command). HasBytes x → HasLayout x) (sym is) layout
      | inr is ↦ subst (λ (x : Command). HasBytes x → HasLayout x) (sym is) layout
    ]
