-- No command closes the list of changes: it stays open until the last worker has read its frames.
use Rattle.std.proofs.Common.{◌≡◌, ℕ, suc, ◌+◌, ◌≤◌, Bool, true, false, cond, ltb, List, [], ◌∷◌, ◌++◌, length, Option, Some, None, Result, Ok, Err, refl, sym, ap, ◌∙◌, length-append, arith}
use Rattle.std.specs.Prelude.{not, ◌||◌, fold, ◌==◌}
use Rattle.std.specs.List.{list_any}
use Rattle.std.proofs.lemmas.List.{take-append-le}
use Rattle.std.proofs.lemmas.List.Folds.{list_any-append}
use Rattle.std.proofs.lemmas.List.Sums.{sum_by-cons}
use Rattle.ff_headers.specs.Changes.{after, change_count, is_close, step}
use Rattle.ff_headers.specs.Objects.{no_objects}
use Rattle.ff_headers.specs.declared.change.Change.{Change}
use Rattle.ff_headers.specs.declared.change.Change.TheVariants.{Close, DropGroup, DropClassifier, DropRule}
use Rattle.ff_headers.specs.declared.limits.Limits.{Limits}
use Rattle.admin_wire.specs.Codes.{group_type, classifier_type, rule_type}
use Rattle.admin_wire.specs.Wire.{command_of}
use Rattle.admin_wire.specs.declared.command.Command.{Command}
use Rattle.admin_wire.specs.declared.command.Command.TheVariants.{ListQuery, ListUse, CapIds, CapGet, CapSet, Create, Modify, Query, Destroy}
use Rattle.admin_wire.specs.declared.command.ObjData.{ObjData}
use Rattle.admin_wire.specs.declared.command.ObjData.TheVariants.{Group, Classifier, Rule, Other}
use Rattle.admin_wire.specs.declared.error.WireErr.{WireErr}
use Rattle.cap_table.specs.Answers.{put_of, drop_of, effect_with, effect_for, refused_or, accepted, answer_of, verdict_of}
use Rattle.cap_table.specs.Caps.{DriverParts}
use Rattle.cap_table.specs.States.{DeviceState}
use Rattle.cap_table.specs.Steps.{effect_in, effect_of}
use Rattle.cap_table.specs.Verdicts.{first_verdict, verdict_rows}
use Rattle.cap_table.specs.declared.answer.Effect.{Effect}
use Rattle.cap_table.specs.declared.answer.Effect.TheVariants as effects
use Rattle.cap_table.specs.declared.verdict.Verdict.{Verdict}
use Rattle.steer.specs.LiveCommands.{is_no_memory, changes_of, changes_made_by, state_left, changes_made}
use Rattle.steer.specs.declared.admin_line.AdminLine.{AdminLine}

-- no change of the list closes it
abbrev IsOpen : List Change → Type 0
IsOpen list = list_any is_close list ≡ false

put_open : (id : ℕ) (object : ObjData) → IsOpen (changes_of (effect_with (put_of id object)))
put_open id (Group priority) = refl
put_open id (Classifier list) = refl
put_open id (Rule rule) = refl
put_open id Other = refl

drop_open : (type_code id : ℕ) → IsOpen (changes_of (effect_with (drop_of type_code id)))
drop_open type_code id = by_test (type_code == group_type) (type_code == classifier_type) (type_code == rule_type) where
  by_test : (a b c : Bool) → IsOpen (changes_of (effect_with (cond a (Some (DropGroup id)) (cond b (Some (DropClassifier id)) (cond c (Some (DropRule id)) None)))))
  by_test true b c = refl
  by_test false true c = refl
  by_test false false true = refl
  by_test false false false = refl

command_open : (driver : DriverParts) (command : Command) → IsOpen (changes_of (effect_for driver command))
command_open driver ListQuery = refl
command_open driver (ListUse bitmap) = refl
command_open driver CapIds = refl
command_open driver (CapGet id) = refl
command_open driver (CapSet cap) = refl
command_open driver (Create head object) = put_open head.id object
command_open driver (Modify head object) = put_open head.id object
command_open driver (Query head) = refl
command_open driver (Destroy head) = drop_open head.type_code head.id

effect_open : (state : DeviceState) (bytes : List ℕ) (room : ℕ) → IsOpen (changes_of (effect_of state bytes room))
unfolding verdict_of answer_of
effect_open state bytes room = by_room (ltb room 8) where
  by_verdict : (verdict : Option Verdict) (read : Result Command WireErr) → IsOpen (changes_of (refused_or verdict (accepted state read)).effect)
  by_verdict (Some verdict) read = refl
  by_verdict None (Ok command) = command_open state.driver command
  by_verdict None (Err fault) = refl

  by_room : (small : Bool) → IsOpen (changes_of (effect_in (cond small None (Some (answer_of state bytes)))))
  by_room true = refl
  by_room false = by_verdict (first_verdict (verdict_rows state bytes)) (command_of bytes)

-- a command's change isn't the one that closes the list
pub change_open : (state : DeviceState) (bytes : List ℕ) (room : ℕ) (change : Change) → effect_of state bytes room ≡ effects.Change change → is_close change ≡ false
change_open state bytes room change is = first (is_close change) (ap (λ e. list_any is_close (changes_of e)) (sym is) ∙ effect_open state bytes room) where
  first : (b : Bool) → (b || false) ≡ false → b ≡ false
  first true e = e
  first false e = refl

append_open : (xs ys : List Change) → IsOpen xs → IsOpen ys → IsOpen (xs ++ ys)
append_open xs ys x y = list_any-append is_close xs ys ∙ (ap (λ b. b || list_any is_close ys) x ∙ y)

-- nor do all changes of commands
pub made_open : (s : DeviceState) (cs : List AdminLine) (rs : List (List ℕ)) → IsOpen (changes_made s cs rs)
unfolding changes_made changes_made_by
made_open s [] rs = refl
made_open s (x ∷ cs) [] = refl
made_open s (x ∷ cs) (y ∷ rs) = append_open (changes_made_by s x y) (changes_made (state_left s x y) cs rs) (by_reply (is_no_memory y)) (made_open (state_left s x y) cs rs) where
  by_reply : (b : Bool) → IsOpen (cond b [] (changes_of (effect_of s x.bytes x.room)))
  by_reply true = refl
  by_reply false = effect_open s x.bytes x.room

-- ---- an open list, and its close

pub open_count : (xs : List Change) → IsOpen xs → change_count xs ≡ length xs
open_count [] e = refl
open_count (x ∷ xs) e = by_test (λ h. open_count xs h) (is_close x) refl e where
  by_test : (IsOpen xs → change_count xs ≡ length xs) → (b : Bool) → is_close x ≡ b → (b || list_any is_close xs) ≡ false → change_count (x ∷ xs) ≡ suc (length xs)
  by_test more true is h = absurd cc
  by_test more false is h =
      let rest = more h in
      let here : change_count (x ∷ xs) ≡ 1 + change_count xs = sum_by-cons (λ c. cond (not (is_close c)) 1 0) x xs ∙ ap (λ b. cond (not b) 1 0 + change_count xs) is in
      omega arith

pub closed_count : (xs : List Change) → IsOpen xs → change_count (xs ++ Close ∷ []) ≡ length xs
closed_count [] e = refl
closed_count (x ∷ xs) e = by_test (λ h. closed_count xs h) (is_close x) refl e where
  by_test : (IsOpen xs → change_count (xs ++ Close ∷ []) ≡ length xs) → (b : Bool) → is_close x ≡ b → (b || list_any is_close xs) ≡ false → change_count ((x ∷ xs) ++ Close ∷ []) ≡ suc (length xs)
  by_test more true is h = absurd cc
  by_test more false is h =
      let rest = more h in
      let here : change_count ((x ∷ xs) ++ Close ∷ []) ≡ 1 + change_count (xs ++ Close ∷ []) = sum_by-cons (λ c. cond (not (is_close c)) 1 0) x (xs ++ Close ∷ []) ∙ ap (λ b. cond (not b) 1 0 + change_count (xs ++ Close ∷ [])) is in
      omega arith

-- what the first changes leave doesn't depend on the close
pub after_front : (limits : Limits) (xs ys : List Change) (k : ℕ) → k ≤ length xs → after limits (xs ++ ys) k ≡ after limits xs k
unfolding after
after_front limits xs ys k le = ap (fold (step limits) no_objects) (take-append-le k xs ys le)

-- there are no more changes than commands
pub made_fits : (s : DeviceState) (cs : List AdminLine) (rs : List (List ℕ)) → length (changes_made s cs rs) ≤ length cs
unfolding changes_made changes_made_by
made_fits s [] rs = omega arith
made_fits s (x ∷ cs) [] = omega arith
made_fits s (x ∷ cs) (y ∷ rs) =
    let here = by_reply (is_no_memory y) in
    let rest = made_fits (state_left s x y) cs rs in
    omega (arith, length-append (changes_made_by s x y) (changes_made (state_left s x y) cs rs)) where
      by_effect : (e : Effect) → length (changes_of e) ≤ 1
      by_effect effects.Nothing = omega arith
      by_effect (effects.Use opcodes) = omega arith
      by_effect (effects.Caps driver) = omega arith
      by_effect (effects.Change change) = omega arith

      by_reply : (b : Bool) → length (cond b [] (changes_of (effect_of s x.bytes x.room))) ≤ 1
      by_reply true = omega arith
      by_reply false = by_effect (effect_of s x.bytes x.room)
