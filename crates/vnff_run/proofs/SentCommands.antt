-- Commands that are sent one after another.
use Rattle.std.proofs.Common.{◌≡◌, ℕ, ◌+◌, ◌<◌, List, [], ◌∷◌, ◌++◌, length, get_or, take, map, refl, sym, ap, subst, ◌∙◌, arith}
use Rattle.std.proofs.lemmas.List.{map-append, take_more}
use Rattle.admin_wire.specs.declared.command.Command.{Command}
use Rattle.admin_wire.specs.Layouts.{command_bytes}
use Rattle.admin_wire.specs.Wire.{Reads}
use Rattle.cap_table.specs.States.{DeviceState}
use Rattle.cap_table.specs.Steps.{next_state, state_after}
use Rattle.ntuple_compile.specs.Acceptance.{AreSent}
use Rattle.vnff_run.specs.CompileTexts.{reply_room}
use Rattle.vnff_run.specs.Programs.{sent_command}

-- the state that a run and one more command leave
state_after-more : (state : DeviceState) (sent : List (List ℕ × ℕ)) (one : List ℕ × ℕ) → state_after state (sent ++ one ∷ []) ≡ next_state (state_after state sent) one.0 one.1
unfolding state_after
state_after-more state [] one = refl
state_after-more state (first ∷ sent) one = state_after-more (next_state state first.0 first.1) sent one

sent_more : (commands : List Command) (more : Command) → map sent_command (commands ++ more ∷ []) ≡ map sent_command commands ++ sent_command more ∷ []
sent_more commands more = map-append sent_command commands (more ∷ [])

-- one more command of a list
pub state_is_sent : (start state next : DeviceState) (commands : List Command) (i : ℕ) (command : Command) → state ≡ state_after start (map sent_command (take i commands)) → i < length commands → command ≡ get_or commands i command → next ≡ next_state state (command_bytes command) reply_room → next ≡ state_after start (map sent_command (take (i + 1) commands))
state_is_sent start state next commands i command left within is moved =
    moved ∙ ap (λ s. next_state s (command_bytes command) reply_room) left
    ∙ sym (state_after-more start (map sent_command (take i commands)) (sent_command command))
    ∙ ap (state_after start) (sym (sent_more (take i commands) command) ∙ ap (map sent_command) (ap (λ x. take i commands ++ x ∷ []) is ∙ sym (take_more commands i command within)))

are_sent_more : (commands : List Command) (command : Command) → AreSent commands (map sent_command commands) → Reads (command_bytes command) command → AreSent (commands ++ command ∷ []) (map sent_command (commands ++ command ∷ []))
are_sent_more [] command sent reads = ((reads, omega arith), tt)
are_sent_more (first ∷ commands) command sent reads = (sent.0, are_sent_more commands command sent.1 reads)

pub are_sent : (commands : List Command) (i : ℕ) (command : Command) → AreSent (take i commands) (map sent_command (take i commands)) → i < length commands → command ≡ get_or commands i command → Reads (command_bytes command) command → AreSent (take (i + 1) commands) (map sent_command (take (i + 1) commands))
are_sent commands i command sent within is reads =
    subst (λ (cs : List Command). AreSent cs (map sent_command cs)) (ap (λ x. take i commands ++ x ∷ []) is ∙ sym (take_more commands i command within)) (are_sent_more (take i commands) command sent reads)
