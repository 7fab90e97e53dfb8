-- Commands that are carried out while workers read: each is answered by the machine's verdict, or a change is refused
-- for want of memory. That refusal is this project's own.
use Rattle.std.specs.Prelude.{⊤, ℕ, ◌≡◌, Bool, MatchBool, if◌then◌else◌, List, [], ◌∷◌, ◌++◌}
use Rattle.std.specs.Str.{bytes_eq}
use Rattle.ff_headers.specs.declared.change.Change.{Change}
use Rattle.admin_wire.specs.Replies.{whole_reply}
use Rattle.cap_table.specs.Answers.{bare_reply}
use Rattle.cap_table.specs.States.{DeviceState}
use Rattle.cap_table.specs.Statuses.{no_memory}
use Rattle.cap_table.specs.Steps.{reply_of, effect_of, next_state}
use Rattle.cap_table.specs.declared.answer.Effect.{Effect}
use Rattle.cap_table.specs.declared.answer.Effect.TheVariants as effects
use Rattle.steer.specs.declared.admin_line.AdminLine.{AdminLine}

-- the reply for want of memory: status 12 with qualifier 6, and no result
unfoldable pub no_memory_reply : List ℕ
no_memory_reply = whole_reply (bare_reply no_memory.status no_memory.qualifier)

-- whether a reply is that one, which no verdict of the machine gives
unfoldable pub is_no_memory : List ℕ → Bool
is_no_memory reply = bytes_eq reply no_memory_reply

-- the changes of an effect: one, or none
abbrev pub changes_of : Effect → List Change
changes_of (effects.Change change) = change ∷ []
changes_of _ = []

-- the changes that a command with this reply made: that of its effect, unless memory was wanting
unfoldable pub changes_made_by : DeviceState → AdminLine → List ℕ → List Change
changes_made_by state line reply =
    if is_no_memory reply then [] else changes_of (effect_of state line.bytes line.room)

-- the state that a command with this reply leaves: want of memory leaves it as it was
unfoldable pub state_left : DeviceState → AdminLine → List ℕ → DeviceState
state_left state line reply = if is_no_memory reply then state else next_state state line.bytes line.room

-- the reply that a command may get in a state: the one for want of memory where its effect is a change, or the
-- machine's
unfoldable pub IsAnswered : DeviceState → AdminLine → List ℕ → Type 0
IsAnswered state line reply = MatchBool (is_no_memory reply)
    ((change : Change) × (effect_of state line.bytes line.room ≡ effects.Change change))
    (reply ≡ reply_of state line.bytes line.room)

-- each command is answered so in the state that those before it leave, and there is a reply for each
abbrev pub AreAnswered : DeviceState → List AdminLine → List (List ℕ) → Type 0
AreAnswered state [] [] = ⊤
AreAnswered state [] (reply ∷ replies) = ⊥
AreAnswered state (line ∷ lines) [] = ⊥
AreAnswered state (line ∷ lines) (reply ∷ replies) =
    IsAnswered state line reply × AreAnswered (state_left state line reply) lines replies

-- the state that commands with these replies leave
unfoldable pub state_behind : DeviceState → List AdminLine → List (List ℕ) → DeviceState
state_behind state (line ∷ lines) (reply ∷ replies) = state_behind (state_left state line reply) lines replies
state_behind state _ _ = state

-- the changes that commands with these replies made, in order
unfoldable pub changes_made : DeviceState → List AdminLine → List (List ℕ) → List Change
changes_made state (line ∷ lines) (reply ∷ replies) =
    changes_made_by state line reply ++ changes_made (state_left state line reply) lines replies
changes_made state _ _ = []
