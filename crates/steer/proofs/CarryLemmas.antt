-- One command on the side that carries commands out: how it is answered, and what is known behind it.
use Rattle.std.proofs.Common.{◌≡◌, ℕ, ◌+◌, ◌<◌, ◌≤◌, true, false, cond, List, [], ◌∷◌, ◌++◌, length, get_or, take, Some, None, refl, sym, ap, subst, ◌∙◌, arith, ⊎_elim}
use Rattle.std.specs.Prelude.{MatchBool}
use Rattle.std.proofs.lemmas.Bool.{cases_lt, lt-ltb, le-ltb}
use Rattle.std.proofs.lemmas.List.{take_more, take_all}
use Rattle.ff_headers.specs.declared.change.Change.{Change}
use Rattle.admin_wire.specs.Replies.{whole_reply, reply_bytes}
use Rattle.cap_table.specs.Answers.{answer_of, verdict_of, bare_reply}
use Rattle.cap_table.specs.States.{DeviceState}
use Rattle.cap_table.specs.Statuses.{no_memory}
use Rattle.cap_table.specs.Steps.{reply_of, effect_of, effect_in, next_state}
use Rattle.cap_table.specs.declared.answer.Effect.TheVariants as effects
use Rattle.steer.specs.LiveCommands.{no_memory_reply, is_no_memory, changes_of, changes_made_by, state_left, IsAnswered, state_behind, changes_made}
use Rattle.steer.specs.LiveSteps.{HasRun}
use Rattle.steer.specs.declared.admin_line.AdminLine.{AdminLine}
use Rattle.steer.proofs.LiveCommandLemmas.{answered_push, state_push, changes_push, machine_has_memory}

-- ---- a change that is refused for want of memory

-- only a command with room for its reply makes one
change_has_room : (s : DeviceState) (bytes : List ℕ) (room : ℕ) (change : Change) → effect_of s bytes room ≡ effects.Change change → 8 ≤ room
unfolding verdict_of
change_has_room s bytes room change is = ⊎_elim (λ (small : room < 8). absurd (none small)) (λ (large : 8 ≤ room). large) (cases_lt room 8) where
  none : room < 8 → ⊥
  none small =
      let nothing : effect_of s bytes room ≡ effects.Nothing = ap (λ b. effect_in (cond b None (Some (answer_of s bytes)))) (lt-ltb room 8 small) in
      cc

says_no_memory : is_no_memory no_memory_reply ≡ true
unfolding is_no_memory no_memory_reply whole_reply
says_no_memory = refl

no_memory_long : length no_memory_reply ≡ 8
unfolding no_memory_reply whole_reply
no_memory_long = refl

refusal_in : (room : ℕ) → 8 ≤ room → is_no_memory (reply_bytes (bare_reply no_memory.status no_memory.qualifier) room) ≡ true
unfolding no_memory_reply
refusal_in room large =
    let whole = whole_reply (bare_reply no_memory.status no_memory.qualifier) in
    let cut : reply_bytes (bare_reply no_memory.status no_memory.qualifier) room ≡ take room whole = ap (λ b. cond b [] (take room whole)) (le-ltb room 8 large) in
    let all : take room whole ≡ whole = take_all room whole (omega (arith, no_memory_long)) in
    ap is_no_memory (cut ∙ all) ∙ says_no_memory

-- what a command leaves
pub record Leaves (s : DeviceState) (line : AdminLine) (reply : List ℕ) (later : DeviceState) (made : List Change) : Type 0 where
  pub answered : IsAnswered s line reply
  pub left : state_left s line reply ≡ later
  pub made_by : changes_made_by s line reply ≡ made

pub refused_leaves : (s : DeviceState) (line : AdminLine) (reply : List ℕ) (change : Change) → effect_of s line.bytes line.room ≡ effects.Change change → reply ≡ reply_bytes (bare_reply no_memory.status no_memory.qualifier) line.room → Leaves s line reply s []
unfolding IsAnswered state_left changes_made_by
refused_leaves s line reply change is text =
    let yes : is_no_memory reply ≡ true = ap is_no_memory text ∙ refusal_in line.room (change_has_room s line.bytes line.room change is) in
    record {
      answered = subst (λ b. MatchBool b ((c : Change) × (effect_of s line.bytes line.room ≡ effects.Change c)) (reply ≡ reply_of s line.bytes line.room)) (sym yes) (change, is);
      left = simp yes;
      made_by = simp yes;
    }

pub obeyed_leaves : (s : DeviceState) (line : AdminLine) (reply : List ℕ) → reply ≡ reply_of s line.bytes line.room → Leaves s line reply (next_state s line.bytes line.room) (changes_of (effect_of s line.bytes line.room))
unfolding IsAnswered state_left changes_made_by
obeyed_leaves s line reply is =
    let no : is_no_memory reply ≡ false = ap is_no_memory is ∙ machine_has_memory s line.bytes line.room in
    record {
      answered = subst (λ b. MatchBool b ((c : Change) × (effect_of s line.bytes line.room ≡ effects.Change c)) (reply ≡ reply_of s line.bytes line.room)) (sym no) is;
      left = simp no;
      made_by = simp no;
    }

-- ---- one command behind others

pub run_more : (start : DeviceState) (lines : List AdminLine) (n : ℕ) (line : AdminLine) (replies : List (List ℕ)) (reply : List ℕ) (device later : DeviceState) (list published : List Change) → n < length lines → line ≡ get_or lines n line → IsAnswered device line reply → later ≡ state_left device line reply → published ≡ list ++ changes_made_by device line reply → HasRun start (take n lines) replies device list → HasRun start (take (n + 1) lines) (replies ++ reply ∷ []) later published
run_more start lines n line replies reply device later list published inside at answered left made r =
    let before = take n lines in
    let more : take (n + 1) lines ≡ before ++ line ∷ [] = take_more lines n line inside ∙ ap (λ l. before ++ l ∷ []) (sym at) in
    let here : IsAnswered (state_behind start before replies) line reply = subst (λ d. IsAnswered d line reply) r.left answered in
    subst (λ ls. HasRun start ls (replies ++ reply ∷ []) later published) (sym more) (record {
      answered = answered_push start before replies line reply r.answered here;
      left = left ∙ (ap (λ d. state_left d line reply) r.left ∙ sym (state_push start before replies line reply r.answered));
      published = made ∙ (ap (λ l. l ++ changes_made_by device line reply) r.published ∙ (ap (λ d. changes_made start before replies ++ changes_made_by d line reply) r.left ∙ sym (changes_push start before replies line reply r.answered)));
    })
