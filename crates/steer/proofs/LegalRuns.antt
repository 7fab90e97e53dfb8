-- There is a legal run of any commands over any frames: that of one thread, which makes all commands first and whose
-- memory never runs out.
use Rattle.std.proofs.Common.{◌≡◌, ℕ, zero, suc, ◌≤◌, List, [], ◌∷◌, length, map, Some, refl, sym, ap, subst, arith}
use Rattle.std.specs.Prelude.{slice_get, MatchBool}
use Rattle.std.specs.List.{AllZip}
use Rattle.ff_headers.specs.Changes.{after}
use Rattle.ff_headers.specs.Frames.{headers_of}
use Rattle.ff_headers.specs.Places.{action_of}
use Rattle.ff_headers.specs.declared.change.Change.{Change}
use Rattle.ff_headers.specs.declared.limits.Limits.{Limits}
use Rattle.cap_table.specs.Caps.{CapsParts}
use Rattle.cap_table.specs.States.{DeviceState, start_state}
use Rattle.cap_table.specs.Steps.{reply_of, next_state, effect_of}
use Rattle.cap_table.specs.declared.answer.Effect.TheVariants as effects
use Rattle.cap_table.specs.declared.start.Start.{Start}
use Rattle.steer.specs.LiveCommands.{state_left, IsAnswered, AreAnswered, changes_made}
use Rattle.steer.specs.LiveRuns.{PacketLine, IsPacketLine, IsLiveRun, accepted_changes}
use Rattle.steer.specs.declared.admin_line.AdminLine.{AdminLine}
use Rattle.steer.proofs.LiveCommandLemmas.{fewer_made, machine_has_memory}

-- the machine's replies
abbrev pub machine_replies : DeviceState → List AdminLine → List (List ℕ)
machine_replies s [] = []
machine_replies s (line ∷ lines) = reply_of s line.bytes line.room ∷ machine_replies (next_state s line.bytes line.room) lines

machine_answers : (s : DeviceState) (line : AdminLine) → IsAnswered s line (reply_of s line.bytes line.room)
unfolding IsAnswered
machine_answers s line =
    let reply = reply_of s line.bytes line.room in
    subst (λ b. MatchBool b ((change : Change) × (effect_of s line.bytes line.room ≡ effects.Change change)) (reply ≡ reply)) (sym (machine_has_memory s line.bytes line.room)) refl

machine_leaves : (s : DeviceState) (line : AdminLine) → state_left s line (reply_of s line.bytes line.room) ≡ next_state s line.bytes line.room
unfolding state_left
machine_leaves s line = simp (machine_has_memory s line.bytes line.room)

pub all_answered : (s : DeviceState) (lines : List AdminLine) → AreAnswered s lines (machine_replies s lines)
all_answered s [] = tt
all_answered s (line ∷ lines) =
    (machine_answers s line, subst (λ later. AreAnswered later lines (machine_replies (next_state s line.bytes line.room) lines)) (sym (machine_leaves s line)) (all_answered (next_state s line.bytes line.room) lines))

-- the line of a frame after all changes
abbrev pub last_line : Limits → List Change → List ℕ → PacketLine
last_line limits changes frame = record {
  after = length changes;
  action = action_of (after limits changes (length changes)) (headers_of frame);
}

lines_hold : (limits : Limits) (changes : List Change) (told : ℕ) → told ≤ length changes → (frames : List (List ℕ)) → AllZip (IsPacketLine limits changes told) frames (map (last_line limits changes) frames)
lines_hold limits changes told le [] = tt
lines_hold limits changes told le (frame ∷ frames) =
    (record { counted = omega arith; covers = le; acted = refl }, lines_hold limits changes told le frames)

all_after : (limits : Limits) (changes : List Change) (frames : List (List ℕ)) (i : ℕ) (line : PacketLine) → slice_get (map (last_line limits changes) frames) i ≡ Some line → line.after ≡ length changes
all_after limits changes [] i line at = absurd cc
all_after limits changes (frame ∷ frames) zero line at = let e : last_line limits changes frame ≡ line = cc in ap (λ (l : PacketLine). l.after) (sym e)
all_after limits changes (frame ∷ frames) (suc i) line at = all_after limits changes frames i line at

pub legal_run : (caps : CapsParts) (start : Start) (commands : List AdminLine) (frames : List (List ℕ)) (workers first : ℕ) → let replies = machine_replies (start_state caps start) commands in IsLiveRun caps start commands frames workers first replies (map (last_line caps.limits (accepted_changes caps start commands replies)) frames)
legal_run caps start commands frames workers first =
    let s = start_state caps start in
    let replies = machine_replies s commands in
    let changes = changes_made s commands replies in
    record {
      answered = all_answered s commands;
      packets = lines_hold caps.limits changes _ (fewer_made s commands replies first) frames;
      rises = λ i j a b lt same at_i at_j.
          let e = all_after caps.limits changes frames i a at_i in
          let f = all_after caps.limits changes frames j b at_j in
          omega arith;
    }
