-- The first commands of a live run, where memory doesn't run out: they are obeyed as by a device alone, and their changes
-- leave its objects.
use Rattle.std.proofs.Common.{◌≡◌, ℕ, zero, suc, ◌+◌, ◌<◌, false, List, [], ◌∷◌, ◌++◌, length, map, take, Some, refl, sym, ap, subst, ◌∙◌, append_assoc, add-one, arith}
use Rattle.std.specs.Prelude.{MatchBool, fold, slice_get}
use Rattle.std.proofs.Math.Seq.{take-append_seam}
use Rattle.std.proofs.lemmas.Bool.{cond-false}
use Rattle.std.proofs.lemmas.List.Elements.{All-head, All-tail}
use Rattle.std.proofs.lemmas.List.Sums.{fold-append}
use Rattle.byte_numbers.specs.Bytes.{IsBytes}
use Rattle.ff_headers.specs.Changes.{after, step}
use Rattle.ff_headers.specs.Frames.{headers_of}
use Rattle.ff_headers.specs.Objects.{FlowObjects, no_objects}
use Rattle.ff_headers.specs.Places.{action_of}
use Rattle.ff_headers.specs.declared.change.Change.{Change}
use Rattle.ff_headers.specs.declared.limits.Limits.{Limits}
use Rattle.cap_table.specs.Caps.{CapsParts}
use Rattle.cap_table.specs.States.{DeviceState, start_state}
use Rattle.cap_table.specs.Steps.{effect_of, next_state, reply_of, state_after, with_effect}
use Rattle.cap_table.specs.declared.answer.Effect.{Effect}
use Rattle.cap_table.specs.declared.answer.Effect.TheVariants as effects
use Rattle.cap_table.specs.declared.start.Start.TheVariants.{Ready}
use Rattle.ntuple_text.specs.TableMaps.{TableMap}
use Rattle.ntuple_compile.specs.Acceptance.{AreObeyed, ok_reply}
use Rattle.ntuple_compile.specs.SpecFits.{table_action}
use Rattle.ntuple_compile.proofs.AcceptedCommands.{commands_act_as_table, commands_are_accepted}
use Rattle.steer.specs.LiveCommands.{AreAnswered, IsAnswered, changes_made, changes_made_by, changes_of, is_no_memory, state_left}
use Rattle.steer.specs.LiveRuns.{accepted_changes, told_changes}
use Rattle.steer.specs.declared.admin_line.AdminLine.{AdminLine}
use Rattle.vnff_run.specs.LiveOrders.{CarryTable, HaveMemory, sent_line}

-- ---- a reply that isn't the one for want of memory

its_reply : (state : DeviceState) (line : AdminLine) (reply : List ℕ) → is_no_memory reply ≡ false → IsAnswered state line reply → reply ≡ reply_of state line.bytes line.room
unfolding IsAnswered
its_reply state line reply fine answered =
    subst (λ b. MatchBool b ((change : Change) × (effect_of state line.bytes line.room ≡ effects.Change change)) (reply ≡ reply_of state line.bytes line.room)) fine answered

its_state : (state : DeviceState) (line : AdminLine) (reply : List ℕ) → is_no_memory reply ≡ false → state_left state line reply ≡ next_state state line.bytes line.room
unfolding state_left
its_state state line reply fine = cond-false (is_no_memory reply) state (next_state state line.bytes line.room) fine

its_changes : (state : DeviceState) (line : AdminLine) (reply : List ℕ) → is_no_memory reply ≡ false → changes_made_by state line reply ≡ changes_of (effect_of state line.bytes line.room)
unfolding changes_made_by
its_changes state line reply fine = cond-false (is_no_memory reply) [] (changes_of (effect_of state line.bytes line.room)) fine

-- ---- commands

-- a command is answered as by a device alone
obeyed : (state : DeviceState) (lines more : List AdminLine) (replies : List (List ℕ)) (k : ℕ) → AreAnswered state (lines ++ more) replies → AreObeyed state (map sent_line lines) → k < length lines → HaveMemory (take (suc k) replies) → slice_get replies k ≡ Some ok_reply
obeyed state [] more replies k answered ok within memory = absurd (omega (arith, within))
obeyed state (line ∷ lines) more [] k answered ok within memory = absurd answered
obeyed state (line ∷ lines) more (reply ∷ replies) zero answered ok within memory =
    let fine = All-head (λ r. is_no_memory r ≡ false) reply [] memory in
    ap Some (its_reply state line reply fine answered.0 ∙ ok.0)
obeyed state (line ∷ lines) more (reply ∷ replies) (suc k) answered ok within memory =
    let P : List ℕ → Type 0 = λ r. is_no_memory r ≡ false in
    let fine = All-head P reply (take (suc k) replies) memory in
    obeyed (next_state state line.bytes line.room) lines more replies k (subst (λ s. AreAnswered s (lines ++ more) replies) (its_state state line reply fine) answered.1) ok.1 (omega (arith, within)) (All-tail P reply (take (suc k) replies) memory)

-- an effect's changes leave the objects that the effect does, and no effect changes the device's capabilities
effect_made : (state : DeviceState) (effect : Effect) → fold (step state.caps.limits) state.objects (changes_of effect) ≡ (with_effect state effect).objects
effect_made state effects.Nothing = refl
effect_made state (effects.Use opcodes) = refl
effect_made state (effects.Caps driver) = refl
effect_made state (effects.Change change) = refl

effect_keeps : (state : DeviceState) (effect : Effect) → (with_effect state effect).caps ≡ state.caps
effect_keeps state effects.Nothing = refl
effect_keeps state (effects.Use opcodes) = refl
effect_keeps state (effects.Caps driver) = refl
effect_keeps state (effects.Change change) = refl

-- the changes of commands leave the objects that a device alone has behind them
changes_leave : (limits : Limits) (state : DeviceState) (lines more : List AdminLine) (replies : List (List ℕ)) → state.caps.limits ≡ limits → AreAnswered state (lines ++ more) replies → HaveMemory (take (length lines) replies) → fold (step limits) state.objects (changes_made state lines (take (length lines) replies)) ≡ (state_after state (map sent_line lines)).objects
unfolding changes_made state_after
changes_leave limits state [] more replies same answered memory = refl
changes_leave limits state (line ∷ lines) more [] same answered memory = absurd answered
changes_leave limits state (line ∷ lines) more (reply ∷ replies) same answered memory =
    let P : List ℕ → Type 0 = λ r. is_no_memory r ≡ false in
    let effect = effect_of state line.bytes line.room in
    let next = next_state state line.bytes line.room in
    let front = take (length lines) replies in
    let fine = All-head P reply front memory in
    let left = its_state state line reply fine in
    let later = changes_made (state_left state line reply) lines front in
    let limited : next.caps.limits ≡ limits = ap (λ (c : CapsParts). c.limits) (effect_keeps state effect) ∙ same in
    let made : fold (step limits) state.objects (changes_made_by state line reply) ≡ next.objects =
    ap (fold (step limits) state.objects) (its_changes state line reply fine) ∙ ap (λ l. fold (step l) state.objects (changes_of effect)) (sym same) ∙ effect_made state effect in
    fold-append (step limits) state.objects (changes_made_by state line reply) later
    ∙ ap (λ o. fold (step limits) o later) made
    ∙ ap (λ s. fold (step limits) next.objects (changes_made s lines front)) left
    ∙ changes_leave limits next lines more replies limited (subst (λ s. AreAnswered s (lines ++ more) replies) left answered.1) (All-tail P reply front memory)

-- the changes of the first commands come first
first_made : (state : DeviceState) (lines more : List AdminLine) (replies : List (List ℕ)) → AreAnswered state (lines ++ more) replies → (rest : List Change) × (changes_made state (lines ++ more) replies ≡ changes_made state lines (take (length lines) replies) ++ rest)
unfolding changes_made
first_made state [] more replies answered = (changes_made state more replies, refl)
first_made state (line ∷ lines) more [] answered = absurd answered
first_made state (line ∷ lines) more (reply ∷ replies) answered =
    let left = state_left state line reply in
    let later = first_made left lines more replies answered.1 in
    (later.0, ap (λ made. changes_made_by state line reply ++ made) later.1 ∙ sym (append_assoc (changes_made_by state line reply) (changes_made left lines (take (length lines) replies)) later.0))

-- ---- a table

pub carried_obeyed : (caps : CapsParts) (table : TableMap) (lines more : List AdminLine) (replies : List (List ℕ)) (k : ℕ) → CarryTable caps table lines → AreAnswered (start_state caps Ready) (lines ++ more) replies → k < length lines → HaveMemory (take (k + 1) replies) → slice_get replies k ≡ Some ok_reply
carried_obeyed caps table lines more replies k carried answered within memory =
    obeyed (start_state caps Ready) lines more replies k answered (commands_are_accepted table caps carried.commands carried.whole carried.pairs carried.made (map sent_line lines) carried.sent) within (subst (λ n. HaveMemory (take n replies)) (add-one k) memory)

pub carried_acts : (caps : CapsParts) (table : TableMap) (lines more : List AdminLine) (replies : List (List ℕ)) (frame : List ℕ) → CarryTable caps table lines → AreAnswered (start_state caps Ready) (lines ++ more) replies → HaveMemory (take (length lines) replies) → IsBytes frame → action_of (after caps.limits (accepted_changes caps Ready (lines ++ more) replies) (told_changes caps Ready (lines ++ more) replies (length lines))) (headers_of frame) ≡ table_action table (headers_of frame)
unfolding after
carried_acts caps table lines more replies frame carried answered memory bytes =
    let state = start_state caps Ready in
    let front = take (length lines) replies in
    let made = changes_made state lines front in
    let split = first_made state lines more replies answered in
    let count : told_changes caps Ready (lines ++ more) replies (length lines) ≡ length made = ap (λ first. length (changes_made state first front)) (take-append_seam lines more) in
    let taken : take (told_changes caps Ready (lines ++ more) replies (length lines)) (accepted_changes caps Ready (lines ++ more) replies) ≡ made =
    ap (λ n. take n (accepted_changes caps Ready (lines ++ more) replies)) count ∙ ap (take (length made)) split.1 ∙ take-append_seam made split.0 in
    let objects = ap (fold (step caps.limits) no_objects) taken ∙ changes_leave caps.limits state lines more replies refl answered memory in
    ap (λ (o : FlowObjects). action_of o (headers_of frame)) objects ∙ commands_act_as_table table caps carried.commands carried.whole carried.pairs carried.made (map sent_line lines) frame carried.sent bytes
