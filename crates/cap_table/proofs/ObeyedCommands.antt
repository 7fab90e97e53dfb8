-- A command that is answered with status 0: no row holds of it, and the state has its effect.
use Rattle.std.proofs.Common.{◌≡◌, ℕ, ◌≤◌, Bool, true, false, not, cond, ltb, List, [], ◌++◌, take, Option, Some, None, Result, Ok, refl, sym, ap, ◌∙◌, subst}
use Rattle.std.proofs.lemmas.Bool.{le-ltb}
use Rattle.admin_wire.specs.declared.command.Command.{Command}
use Rattle.admin_wire.specs.declared.error.WireErr.{WireErr}
use Rattle.admin_wire.specs.Headers.{opcode_of}
use Rattle.admin_wire.specs.Layouts.{opcode_for}
use Rattle.admin_wire.specs.Opcodes.{code_of}
use Rattle.admin_wire.specs.Replies.{whole_reply, reply_bytes}
use Rattle.admin_wire.specs.Wire.{command_of}
use Rattle.admin_wire.proofs.CommandLaws.{opcode_if_read}
use Rattle.cap_table.specs.States.{DeviceState, is_opcode_in}
use Rattle.cap_table.specs.Verdicts.{first_verdict, verdict_rows, layout_rows, read_rows, command_rows, is_opcode_unused}
use Rattle.cap_table.specs.Answers.{answer_of, verdict_of, accepted, refused_or, obeyed_command, effect_for}
use Rattle.cap_table.specs.Steps.{status_of, reply_in, reply_of, effect_in, effect_of, with_effect, next_state}
use Rattle.cap_table.specs.declared.verdict.Verdict.{Verdict}
use Rattle.cap_table.specs.declared.answer.Answer.{Answer}
use Rattle.cap_table.proofs.EveryAnswer.{verdict_refused, status_is}
use Rattle.cap_table.proofs.RowLemmas.{back_of_none, command_row}

module _ (state : DeviceState) (bytes : List ℕ) where
  -- the reply is the answer's, cut to the room
  pub reply_is : (room : ℕ) → reply_of state bytes room ≡ reply_bytes (answer_of state bytes).reply room
  unfolding verdict_of
  reply_is room = by_test (ltb room 8) refl where
    by_test : (b : Bool) → ltb room 8 ≡ b → reply_in (cond b None (Some (answer_of state bytes))) room ≡ cond b [] (take room (whole_reply (answer_of state bytes).reply))
    by_test true e = refl
    by_test false e = ap (λ b. cond b [] (take room (whole_reply (answer_of state bytes).reply))) e

  effect_is : (room : ℕ) → 8 ≤ room → effect_of state bytes room ≡ (answer_of state bytes).effect
  unfolding verdict_of
  effect_is room enough = ap (λ b. effect_in (cond b None (Some (answer_of state bytes)))) (le-ltb room 8 enough)

  -- a command that is answered with status 0 meets no row
  pub none_if_obeyed : (room : ℕ) → 8 ≤ room → status_of (reply_of state bytes room) ≡ 0 → first_verdict (verdict_rows state bytes) ≡ None
  unfolding answer_of
  none_if_obeyed room enough zero = by_verdict (first_verdict (verdict_rows state bytes)) refl where
    by_verdict : (o : Option Verdict) → first_verdict (verdict_rows state bytes) ≡ o → o ≡ None
    by_verdict None is = refl
    by_verdict (Some verdict) is =
        let refusal = verdict_refused state bytes verdict is in
        let status : (answer_of state bytes).reply.status ≡ verdict.status = ap (λ (o : Option Verdict). (refused_or o (accepted state (command_of bytes))).reply.status) is in
        absurd (refusal.nonzero (sym status ∙ (sym (status_is state bytes room enough) ∙ zero)))

  module _ (command : Command) (read : command_of bytes ≡ Ok command) where
    -- no row of the command holds
    pub command_none : first_verdict (verdict_rows state bytes) ≡ None → first_verdict (command_rows state.caps state.driver state.objects command) ≡ None
    command_none none =
        let rest = back_of_none (layout_rows state.in_use (opcode_of bytes) (command_of bytes)) (read_rows state (command_of bytes)) none in
        subst (λ (r : Result Command WireErr). first_verdict (read_rows state r) ≡ None) read rest

    -- a command whose opcode is in use, and of which no row holds, meets none
    pub none_in_use : is_opcode_in state.in_use (code_of (opcode_for command)) ≡ true → first_verdict (command_rows state.caps state.driver state.objects command) ≡ None → first_verdict (verdict_rows state bytes) ≡ None
    none_in_use used none =
        let told : opcode_of bytes ≡ Some (code_of (opcode_for command)) = opcode_if_read bytes (Ok command) (sym read) in
        let in_use : is_opcode_unused state.in_use (opcode_of bytes) ≡ false = ap (is_opcode_unused state.in_use) told ∙ ap not used in
        subst (λ (r : Result Command WireErr). first_verdict (layout_rows state.in_use (opcode_of bytes) r ++ read_rows state r) ≡ None) (sym read) (command_row state.in_use (opcode_of bytes) (read_rows state (Ok command)) command in_use ∙ none)

    pub answer_is : first_verdict (verdict_rows state bytes) ≡ None → answer_of state bytes ≡ obeyed_command state.caps state.driver state.objects command
    unfolding answer_of
    answer_is none = ap (λ (o : Option Verdict). refused_or o (accepted state (command_of bytes))) none ∙ ap (accepted state) read

    -- the state has the command's effect
    pub next_is : (room : ℕ) → 8 ≤ room → first_verdict (verdict_rows state bytes) ≡ None → next_state state bytes room ≡ with_effect state (effect_for state.driver command)
    next_is room enough none = ap (with_effect state) (effect_is room enough ∙ ap (λ (a : Answer). a.effect) (answer_is none))
