-- The answer to bytes by what they are read as.
use Rattle.std.proofs.Common.{◌≡◌, ◌≢◌, ℕ, true, false, not, ◌&&◌, List, [], Option, Some, None, Ok, Err, sym, ap, subst, ◌∙◌}
use Rattle.admin_wire.specs.declared.command.Command.TheVariants.{Query}
use Rattle.admin_wire.specs.declared.command.ObjHead.{ObjHead}
use Rattle.cap_table.specs.declared.answer.Effect.TheVariants as effects
use Rattle.std.proofs.lemmas.Bool.{not-true, and_parts}
use Rattle.admin_wire.specs.declared.command.Command.{Command}
use Rattle.admin_wire.specs.declared.error.WireErr.{WireErr}
use Rattle.admin_wire.specs.Wire.{command_of}
use Rattle.admin_wire.specs.Headers.{opcode_of}
use Rattle.cap_table.specs.Statuses.{invalid_opcode, no_memory}
use Rattle.cap_table.specs.States.{DeviceState}
use Rattle.cap_table.specs.Verdicts.{first_verdict, layout_rows, command_rows, read_rows, is_header_cut, is_opcode_unused}
use Rattle.cap_table.specs.Answers.{answer_of, answer_to, accepted, refused, refused_or, obeyed, object_bytes}
use Rattle.cap_table.specs.Steps.{OnlyObeyedChanges, status_of, reply_of, effect_of}
use Rattle.cap_table.specs.declared.answer.Effect.{Effect}
use Rattle.cap_table.specs.declared.verdict.Verdict.{Verdict}
use Rattle.cap_table.proofs.EveryAnswer.{never_no_memory, only_obeyed}
use Rattle.cap_table.proofs.RowLemmas.{opcode_verdict, fault_row, command_row}

module _ (state : DeviceState) (bytes : List ℕ) where
  -- the opcode of a whole header isn't in use
  pub opcode_answer : (not (is_header_cut (command_of bytes)) && is_opcode_unused state.in_use (opcode_of bytes)) ≡ true → answer_of state bytes ≡ refused invalid_opcode
  unfolding answer_of
  opcode_answer unused =
      let parts = and_parts _ _ unused in
      ap (λ o. refused_or o (accepted state (command_of bytes))) (opcode_verdict state.in_use (opcode_of bytes) (read_rows state (command_of bytes)) (command_of bytes) (not-true _ parts.0) parts.1)

  -- the bytes lay out no command
  pub fault_answer : (fault : WireErr) (verdict : Verdict) → command_of bytes ≡ Err fault → first_verdict (layout_rows 0 None (Err fault)) ≡ Some verdict → (not (is_header_cut (Err fault)) && is_opcode_unused state.in_use (opcode_of bytes)) ≡ false → answer_of state bytes ≡ refused verdict
  unfolding answer_of
  fault_answer fault verdict is row used =
      rw is (ap (λ o. refused_or o (accepted state (Err fault))) (fault_row state.in_use (opcode_of bytes) [] fault used ∙ row))

  -- the bytes lay out a command
  pub command_answer : (command : Command) → command_of bytes ≡ Ok command → is_opcode_unused state.in_use (opcode_of bytes) ≡ false → answer_of state bytes ≡ answer_to state command
  unfolding answer_of
  command_answer command is used =
      rw is (ap (λ o. refused_or o (accepted state (Ok command))) (command_row state.in_use (opcode_of bytes) (read_rows state (Ok command)) command used))

-- ---- a query

module _ (state : DeviceState) (head : ObjHead) where
  -- where no row holds, the object's bytes are told
  pub query_told : (told : List ℕ) → first_verdict (command_rows state.caps state.driver state.objects (Query head)) ≡ None → told ≡ object_bytes state.objects head → answer_to state (Query head) ≡ obeyed told effects.Nothing
  query_told told none is =
      ap (λ (o : Option Verdict). refused_or o (obeyed (object_bytes state.objects head) effects.Nothing)) none
      ∙ ap (λ (bytes : List ℕ). obeyed bytes effects.Nothing) (sym is)

  pub query_refused : (verdict : Verdict) → first_verdict (command_rows state.caps state.driver state.objects (Query head)) ≡ Some verdict → answer_to state (Query head) ≡ refused verdict
  query_refused verdict is = ap (λ (o : Option Verdict). refused_or o (accepted state (Ok (Query head)))) is

-- ---- what a decision is

-- a reply that is the machine's isn't the one for want of memory
pub reply_never_no_memory : (state : DeviceState) (bytes : List ℕ) (room : ℕ) (reply : List ℕ) → reply ≡ reply_of state bytes room → status_of reply ≢ no_memory.status
reply_never_no_memory state bytes room reply is =
    subst (λ (r : List ℕ). status_of r ≢ no_memory.status) (sym is) (never_no_memory state bytes room)

-- and changes something only where it is obeyed
pub decision_only_obeyed : (state : DeviceState) (bytes : List ℕ) (room : ℕ) (reply : List ℕ) (effect : Effect) → reply ≡ reply_of state bytes room → effect ≡ effect_of state bytes room → OnlyObeyedChanges reply effect
decision_only_obeyed state bytes room reply effect is has =
    subst (λ (r : List ℕ). OnlyObeyedChanges r effect) (sym is) (subst (λ (e : Effect). OnlyObeyedChanges (reply_of state bytes room) e) (sym has) (only_obeyed state bytes room))
