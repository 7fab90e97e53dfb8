-- A run of creates against which no row holds: each is answered OK, and the objects are those that the puts leave.
use Rattle.std.proofs.Common.{◌≡◌, ℕ, ◌≤◌, List, [], ◌∷◌, ◌++◌, Some, None, Ok, refl, sym, ap, ◌∙◌, arith, subst}
use Rattle.std.proofs.lemmas.Bool.{le-ltb}
use Rattle.std.proofs.lemmas.List.{take_all}
use Rattle.ff_headers.specs.Changes.{with_change_made}
use Rattle.ff_headers.specs.Objects.{FlowObjects}
use Rattle.ff_headers.specs.declared.change.Change.{Change}
use Rattle.admin_wire.specs.declared.command.Command.{Command}
use Rattle.admin_wire.specs.declared.command.Command.TheVariants.{Create}
use Rattle.admin_wire.specs.declared.command.ObjData.{ObjData}
use Rattle.admin_wire.specs.declared.command.ObjHead.{ObjHead}
use Rattle.admin_wire.specs.Replies.{reply_bytes, whole_reply}
use Rattle.admin_wire.specs.Wire.{command_of}
use Rattle.cap_table.specs.Answers.{put_of, telling}
use Rattle.cap_table.specs.Caps.{CapsParts, AtMost, same_as}
use Rattle.cap_table.specs.States.{DeviceState, all_opcodes}
use Rattle.cap_table.specs.Steps.{next_state, reply_of, state_after}
use Rattle.cap_table.specs.Verdicts.{first_verdict, verdict_rows}
use Rattle.cap_table.specs.declared.answer.Answer.{Answer}
use Rattle.cap_table.proofs.AcceptedChanges.{accepted_change}
use Rattle.cap_table.proofs.ObeyedCommands.{answer_is, next_is, none_in_use, reply_is}
use Rattle.cap_table.proofs.RowLemmas.{IsClear, no_row_if_clear}
use Rattle.cap_table.proofs.UndoneCreates.{put_made}
use Rattle.ntuple_compile.specs.Acceptance.{AreObeyed, AreSent, SentCommand, ok_reply}

-- ---- one create

-- a device that started ready, with objects
abbrev pub ready : CapsParts → FlowObjects → DeviceState
ready caps objects = record { caps = caps; in_use = all_opcodes; driver = same_as caps; objects = objects }

-- no row holds of a create, and its put leaves the next objects
pub record Creates (caps : CapsParts) (objects : FlowObjects) (head : ObjHead) (object : ObjData) (next : FlowObjects) : Type 0 where
  pub clear : IsClear caps (same_as caps) objects (Create head object)
  pub change : Change
  pub puts : put_of head.id object ≡ Some change
  pub leaves : with_change_made objects change ≡ next

-- no limit is above itself
at_most_itself : (caps : CapsParts) → AtMost caps.limits caps.limits
at_most_itself caps = record { groups = omega arith; classifiers = omega arith; rules = omega arith; per_group = omega arith; last_priority = omega arith; selectors = omega arith }

-- the reply without a result, whatever room there is
told_ok : (room : ℕ) → 8 ≤ room → reply_bytes (telling []) room ≡ ok_reply
unfolding whole_reply
told_ok room enough = rw (le-ltb room 8 enough) (take_all room ok_reply (omega (arith, enough)))

module _ (caps : CapsParts) (objects : FlowObjects) (head : ObjHead) (object : ObjData) (next : FlowObjects) (step : Creates caps objects head object next) (bytes : List ℕ) (room : ℕ) (read : command_of bytes ≡ Ok (Create head object)) (enough : 8 ≤ room) where
  no_row : first_verdict (verdict_rows (ready caps objects) bytes) ≡ None
  no_row = none_in_use (ready caps objects) bytes (Create head object) read refl (no_row_if_clear caps (same_as caps) objects (Create head object) step.clear)

  answered_ok : reply_of (ready caps objects) bytes room ≡ ok_reply
  answered_ok =
      let answer = answer_is (ready caps objects) bytes (Create head object) read no_row in
      reply_is (ready caps objects) bytes room ∙ (ap (λ (a : Answer). reply_bytes a.reply room) answer ∙ told_ok room enough)

  next_ready : next_state (ready caps objects) bytes room ≡ ready caps next
  next_ready =
      let sound = accepted_change caps (same_as caps) objects (at_most_itself caps) (Create head object) (no_row_if_clear caps (same_as caps) objects (Create head object) step.clear) step.change step.puts in
      next_is (ready caps objects) bytes (Create head object) read room enough no_row ∙ (put_made (ready caps objects) step.change sound.sound (put_of head.id object) step.puts ∙ ap (ready caps) step.leaves)

-- ---- runs

-- creates lead from objects to others
abbrev pub Reaches : CapsParts → FlowObjects → List Command → FlowObjects → Type 0
Reaches caps objects [] end = objects ≡ end
Reaches caps objects (Create head object ∷ commands) end =
    (next : FlowObjects) × Creates caps objects head object next × Reaches caps next commands end
Reaches caps objects (_ ∷ commands) end = ⊥

pub reaches_both : (caps : CapsParts) (objects middle end : FlowObjects) (commands more : List Command) → Reaches caps objects commands middle → Reaches caps middle more end → Reaches caps objects (commands ++ more) end
reaches_both caps objects middle end [] more here there = subst (λ (o : FlowObjects). Reaches caps o more end) (sym here) there
reaches_both caps objects middle end (Create head object ∷ commands) more here there =
    (here.0, here.1, reaches_both caps here.0 middle end commands more here.2 there)
reaches_both caps objects middle end (_ ∷ commands) more here there = absurd here

-- bytes that lay them out are obeyed, and leave these objects
pub run_obeyed : (caps : CapsParts) (objects end : FlowObjects) (commands : List Command) (sent : List SentCommand) → Reaches caps objects commands end → AreSent commands sent → AreObeyed (ready caps objects) sent × ((state_after (ready caps objects) sent).objects ≡ end)
unfolding state_after
run_obeyed caps objects end [] [] reaches are = (tt, reaches)
run_obeyed caps objects end [] (one ∷ sent) reaches are = absurd are
run_obeyed caps objects end (command ∷ commands) [] reaches are = absurd are
run_obeyed caps objects end (Create head object ∷ commands) (one ∷ sent) reaches are =
    let reply = answered_ok caps objects head object reaches.0 reaches.1 one.0 one.1 are.0.0 are.0.1 in
    let next : ready caps reaches.0 ≡ next_state (ready caps objects) one.0 one.1 = sym (next_ready caps objects head object reaches.0 reaches.1 one.0 one.1 are.0.0 are.0.1) in
    let rest = run_obeyed caps reaches.0 end commands sent reaches.2 are.1 in
    let after = subst (λ (s : DeviceState). AreObeyed s sent × ((state_after s sent).objects ≡ end)) next rest in
    ((reply, after.0), after.1)
run_obeyed caps objects end (_ ∷ commands) (one ∷ sent) reaches are = absurd reaches
