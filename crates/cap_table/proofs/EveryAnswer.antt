-- What holds of every answer: its status isn't ENOMEM, and where the status isn't 0 there is no effect.
use Rattle.std.proofs.Common.{◌≡◌, ◌≢◌, ℕ, zero, suc, ◌<◌, ◌≤◌, ◌^◌, ◌∙◌, take, Bool, true, false, cond, List, [], ◌∷◌, ◌++◌, Option, Some, None, Result, Ok, Err, refl, sym, ap, subst, arith}
use Rattle.std.specs.Prelude.{nat_lt}
use Rattle.std.proofs.lemmas.Bool.{le-ltb}
use Rattle.std.proofs.lemmas.Bool.Decides.{nat_tests}
use Rattle.std.proofs.lemmas.Nat.{from_le_bytes-to_le_bytes_2}
use Rattle.ff_headers.specs.Objects.{FlowObjects}
use Rattle.admin_wire.specs.declared.command.Command.{Command}
use Rattle.admin_wire.specs.declared.command.Command.TheVariants.{Create, Modify}
use Rattle.admin_wire.specs.declared.command.ObjData.{ObjData}
use Rattle.admin_wire.specs.declared.command.ObjData.TheVariants as objs
use Rattle.admin_wire.specs.declared.error.WireErr.{WireErr}
use Rattle.admin_wire.specs.declared.reply.Reply.{Reply}
use Rattle.byte_numbers.specs.Numbers.{le16_at}
use Rattle.admin_wire.specs.Replies.{whole_reply, reply_bytes}
use Rattle.admin_wire.specs.Wire.{command_of}
use Rattle.admin_wire.specs.Headers.{opcode_of}
use Rattle.cap_table.specs.Caps.{CapsParts, DriverParts}
use Rattle.cap_table.specs.States.{DeviceState}
use Rattle.cap_table.specs.Statuses.{no_memory}
use Rattle.cap_table.specs.Verdicts.{Row, first_verdict, verdict_rows, layout_rows, read_rows, command_rows, given_rows, content_rows}
use Rattle.cap_table.specs.Answers.{answer_of, verdict_of, accepted, refused, refused_or, obeyed, result_for, effect_for}
use Rattle.cap_table.specs.Steps.{status_of, OnlyObeyedChanges, reply_in, reply_of, effect_in, effect_of, with_effect, next_state}
use Rattle.cap_table.specs.declared.verdict.Verdict.{Verdict}
use Rattle.cap_table.specs.declared.answer.Answer.{Answer}
use Rattle.cap_table.specs.declared.answer.Effect.{Effect}
use Rattle.cap_table.specs.declared.answer.Effect.TheVariants as effects

-- ---- the verdicts of the table

-- the status of a refusal: one of 16 bits, neither 0 nor ENOMEM
pub record IsRefusal (verdict : Verdict) : Type 0 where
  pub fits : verdict.status < 2 ^ 16
  pub nonzero : verdict.status ≢ 0
  pub other : verdict.status ≢ 12

refusal : (status qualifier : ℕ) → status < 2 ^ 16 → status ≢ 0 → status ≢ 12 → IsRefusal (record { status = status; qualifier = qualifier })
refusal status qualifier fits nonzero other = record { fits = fits; nonzero = nonzero; other = other }

einval : (qualifier : ℕ) → IsRefusal (record { status = 22; qualifier = qualifier })
einval qualifier = refusal 22 qualifier (omega arith) (λ e. absurd (omega arith)) (λ e. absurd (omega arith))

eexist : IsRefusal (record { status = 17; qualifier = 3 })
eexist = refusal 17 3 (omega arith) (λ e. absurd (omega arith)) (λ e. absurd (omega arith))

enospc : IsRefusal (record { status = 28; qualifier = 6 })
enospc = refusal 28 6 (omega arith) (λ e. absurd (omega arith)) (λ e. absurd (omega arith))

enxio : IsRefusal (record { status = 6; qualifier = 6 })
enxio = refusal 6 6 (omega arith) (λ e. absurd (omega arith)) (λ e. absurd (omega arith))

ebusy : IsRefusal (record { status = 16; qualifier = 1 })
ebusy = refusal 16 1 (omega arith) (λ e. absurd (omega arith)) (λ e. absurd (omega arith))

-- each row is one of a refusal
abbrev AreRefusals : List Row → Type 0
AreRefusals [] = Unit {0}
AreRefusals (row ∷ rows) = IsRefusal row.1 × AreRefusals rows

first_is_refusal : (rows : List Row) (verdict : Verdict) → AreRefusals rows → first_verdict rows ≡ Some verdict → IsRefusal verdict
first_is_refusal [] verdict are is = absurd cc
first_is_refusal (row ∷ rows) verdict are is = by_test row.0 is (first_is_refusal rows verdict are.1) where
  by_test : (b : Bool) → cond b (Some row.1) (first_verdict rows) ≡ Some verdict → (first_verdict rows ≡ Some verdict → IsRefusal verdict) → IsRefusal verdict
  by_test true is rest = let same : row.1 ≡ verdict = cc in subst IsRefusal same are.0
  by_test false is rest = rest is

appended : (rows more : List Row) → AreRefusals rows → AreRefusals more → AreRefusals (rows ++ more)
appended [] more these those = those
appended (row ∷ rows) more these those = (these.0, appended rows more these.1 those)

content_refusals : (caps : CapsParts) (driver : DriverParts) (objects : FlowObjects) (id : ℕ) (object : ObjData) → AreRefusals (content_rows caps driver objects id object)
content_refusals caps driver objects id (objs.Group priority) = (einval 3, tt)
content_refusals caps driver objects id (objs.Classifier list) = (einval 3, (einval 3, (einval 3, tt)))
content_refusals caps driver objects id (objs.Rule rule) = (einval 3, (enxio, (enxio, (einval 3, (einval 3, (einval 3, (einval 3, (enospc, tt))))))))
content_refusals caps driver objects id objs.Other = tt

given_refusals : (caps : CapsParts) (driver : DriverParts) (objects : FlowObjects) (command : Command) → AreRefusals (given_rows caps driver objects command)
given_refusals caps driver objects (Create head object) = content_refusals caps driver objects head.id object
given_refusals caps driver objects (Modify head object) = content_refusals caps driver objects head.id object
given_refusals caps driver objects _ = tt

command_refusals : (caps : CapsParts) (driver : DriverParts) (objects : FlowObjects) (command : Command) → AreRefusals (command_rows caps driver objects command)
command_refusals caps driver objects command =
    (einval 3, (einval 3, (einval 3, (ebusy, (einval 3, (eexist, (enospc, (enxio, (ebusy, given_refusals caps driver objects command)))))))))

-- a verdict on a command is a refusal
pub command_refused : (caps : CapsParts) (driver : DriverParts) (objects : FlowObjects) (command : Command) (verdict : Verdict) → first_verdict (command_rows caps driver objects command) ≡ Some verdict → IsRefusal verdict
command_refused caps driver objects command verdict is =
    first_is_refusal (command_rows caps driver objects command) verdict (command_refusals caps driver objects command) is

read_refusals : (state : DeviceState) (read : Result Command WireErr) → AreRefusals (read_rows state read)
read_refusals state (Ok command) = command_refusals state.caps state.driver state.objects command
read_refusals state (Err fault) = tt

verdict_refusals : (state : DeviceState) (bytes : List ℕ) → AreRefusals (verdict_rows state bytes)
verdict_refusals state bytes =
    appended (layout_rows state.in_use (opcode_of bytes) (command_of bytes)) (read_rows state (command_of bytes)) (einval 1, (einval 2, (einval 4, (einval 5, (einval 1, tt))))) (read_refusals state (command_of bytes))

-- a verdict on bytes is a refusal
pub verdict_refused : (state : DeviceState) (bytes : List ℕ) (verdict : Verdict) → first_verdict (verdict_rows state bytes) ≡ Some verdict → IsRefusal verdict
verdict_refused state bytes verdict is = first_is_refusal (verdict_rows state bytes) verdict (verdict_refusals state bytes) is

-- ---- every answer

-- the status is one of 16 bits and isn't ENOMEM, and there is no effect where it isn't 0
record IsRight (answer : Answer) : Type 0 where
  pub fits : answer.reply.status < 2 ^ 16
  pub other : answer.reply.status ≢ 12
  pub effect : answer.reply.status ≢ 0 → answer.effect ≡ effects.Nothing

obeyed_is_right : (told : List ℕ) (effect : Effect) → IsRight (obeyed told effect)
obeyed_is_right told effect = record {
  fits = omega arith;
  other = λ e. absurd (omega arith);
  effect = λ nonzero. absurd (nonzero refl);
}

accepted_is_right : (state : DeviceState) (read : Result Command WireErr) → IsRight (accepted state read)
accepted_is_right state (Ok command) = obeyed_is_right (result_for state.caps state.objects command) (effect_for state.driver command)
accepted_is_right state (Err fault) = obeyed_is_right [] effects.Nothing

answer_is_right : (state : DeviceState) (bytes : List ℕ) → IsRight (answer_of state bytes)
unfolding answer_of
answer_is_right state bytes = by_verdict (first_verdict (verdict_rows state bytes)) refl where
  by_verdict : (o : Option Verdict) → first_verdict (verdict_rows state bytes) ≡ o → IsRight (refused_or o (accepted state (command_of bytes)))
  by_verdict None is = accepted_is_right state (command_of bytes)
  by_verdict (Some verdict) is =
      let refused = verdict_refused state bytes verdict is in
      record { fits = refused.fits; other = refused.other; effect = λ _. refl }

-- ---- the reply's bytes

written : (reply : Reply) (room : ℕ) → 8 ≤ room → reply.status < 2 ^ 16 → status_of (take room (whole_reply reply)) ≡ reply.status
unfolding le16_at whole_reply
written reply zero le fits = absurd (omega arith)
written reply (suc zero) le fits = absurd (omega arith)
written reply (suc (suc room)) le fits = from_le_bytes-to_le_bytes_2 reply.status fits

some_bytes : (reply : Reply) (room : ℕ) → 8 ≤ room → take room (whole_reply reply) ≢ []
unfolding whole_reply
some_bytes reply zero le none = absurd (omega arith)
some_bytes reply (suc room) le none = absurd cc

-- what is written of a right answer
record IsRightReply (reply : List ℕ) (effect : Effect) : Type 0 where
  pub other : status_of reply ≢ 12
  pub only : OnlyObeyedChanges reply effect

right_reply : (answer : Answer) (room : ℕ) → IsRight answer → 8 ≤ room → IsRightReply (take room (whole_reply answer.reply)) answer.effect
right_reply answer room right le =
    let status = written answer.reply room le right.fits in
    record {
      other = λ e. right.other (sym status ∙ e);
      only = record {
        refused = λ nonzero. right.effect (λ e. nonzero (status ∙ e));
        silent = λ none. absurd (some_bytes answer.reply room le none);
      };
    }

no_status : status_of [] ≡ 0
unfolding le16_at
no_status = refl

right_none : IsRightReply [] effects.Nothing
right_none = record {
  other = λ twelve. absurd (let none = no_status in omega arith);
  only = record { refused = λ _. refl; silent = λ _. refl };
}

every_reply : (state : DeviceState) (bytes : List ℕ) (room : ℕ) → IsRightReply (reply_of state bytes room) (effect_of state bytes room)
unfolding verdict_of
every_reply state bytes room = by_test (nat_lt room 8) refl where
  by_test : (b : Bool) → nat_lt room 8 ≡ b → IsRightReply (reply_in (cond b None (Some (answer_of state bytes))) room) (effect_in (cond b None (Some (answer_of state bytes))))
  by_test true e = right_none
  by_test false e =
      let le : 8 ≤ room = grind (arith, nat_tests) in
      let answer = answer_of state bytes in
      let text : reply_bytes answer.reply room ≡ take room (whole_reply answer.reply) = ap (λ b. cond b [] (take room (whole_reply answer.reply))) e in
      subst (λ (r : List ℕ). IsRightReply r answer.effect) (sym text) (right_reply answer room (answer_is_right state bytes) le)

-- where there is room, the reply begins with the answer's status
pub status_is : (state : DeviceState) (bytes : List ℕ) (room : ℕ) → 8 ≤ room → status_of (reply_of state bytes room) ≡ (answer_of state bytes).reply.status
unfolding verdict_of
status_is state bytes room enough =
    let answer = answer_of state bytes in
    let right = answer_is_right state bytes in
    let text : reply_of state bytes room ≡ take room (whole_reply answer.reply) = ap (λ b. reply_in (cond b None (Some answer)) room) (le-ltb room 8 enough) ∙ ap (λ b. cond b [] (take room (whole_reply answer.reply))) (le-ltb room 8 enough) in
    ap status_of text ∙ written answer.reply room enough right.fits

-- no reply says that memory ran out
pub never_no_memory : (state : DeviceState) (bytes : List ℕ) (room : ℕ) → status_of (reply_of state bytes room) ≢ no_memory.status
never_no_memory state bytes room = let right = every_reply state bytes room in right.other

-- only a command that is obeyed changes anything
pub only_obeyed : (state : DeviceState) (bytes : List ℕ) (room : ℕ) → OnlyObeyedChanges (reply_of state bytes room) (effect_of state bytes room)
only_obeyed state bytes room = let right = every_reply state bytes room in right.only

-- a command that isn't answered with status 0 leaves the state
pub refused_stays : (state : DeviceState) (bytes : List ℕ) (room : ℕ) → status_of (reply_of state bytes room) ≢ 0 → next_state state bytes room ≡ state
refused_stays state bytes room refused = let only = only_obeyed state bytes room in ap (with_effect state) (only.refused refused)

pub silent_stays : (state : DeviceState) (bytes : List ℕ) (room : ℕ) → reply_of state bytes room ≡ [] → next_state state bytes room ≡ state
silent_stays state bytes room silent = let only = only_obeyed state bytes room in ap (with_effect state) (only.silent silent)
