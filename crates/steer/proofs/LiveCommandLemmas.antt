-- Commands that are carried out while workers read: what one more leaves, and what the first of them made.
use Rattle.std.proofs.Common.{◌≡◌, ℕ, zero, suc, ◌+◌, ◌≤◌, Bool, true, false, List, [], ◌∷◌, ◌++◌, length, take, refl, sym, ap, ◌∙◌, append_assoc, append-nil, length-append, arith}
use Rattle.std.proofs.lemmas.Slice.Eq.{bytes_eq-Decides}
use Rattle.byte_numbers.specs.Numbers.{le16_at}
use Rattle.admin_wire.specs.Replies.{whole_reply}
use Rattle.cap_table.specs.States.{DeviceState}
use Rattle.cap_table.specs.Statuses.{no_memory}
use Rattle.cap_table.specs.Steps.{reply_of, status_of}
use Rattle.cap_table.proofs.EveryAnswer.{never_no_memory}
use Rattle.steer.specs.LiveCommands.{no_memory_reply, is_no_memory, changes_made_by, state_left, IsAnswered, AreAnswered, state_behind, changes_made}
use Rattle.steer.specs.declared.admin_line.AdminLine.{AdminLine}

-- ---- one more command

pub answered_push : (s : DeviceState) (cs : List AdminLine) (rs : List (List ℕ)) (c : AdminLine) (r : List ℕ) → AreAnswered s cs rs → IsAnswered (state_behind s cs rs) c r → AreAnswered s (cs ++ c ∷ []) (rs ++ r ∷ [])
unfolding state_behind
answered_push s [] [] c r a b = (b, tt)
answered_push s [] (y ∷ rs) c r a b = absurd a
answered_push s (x ∷ cs) [] c r a b = absurd a
answered_push s (x ∷ cs) (y ∷ rs) c r a b = (a.0, answered_push (state_left s x y) cs rs c r a.1 b)

pub state_push : (s : DeviceState) (cs : List AdminLine) (rs : List (List ℕ)) (c : AdminLine) (r : List ℕ) → AreAnswered s cs rs → state_behind s (cs ++ c ∷ []) (rs ++ r ∷ []) ≡ state_left (state_behind s cs rs) c r
unfolding state_behind
state_push s [] [] c r a = refl
state_push s [] (y ∷ rs) c r a = absurd a
state_push s (x ∷ cs) [] c r a = absurd a
state_push s (x ∷ cs) (y ∷ rs) c r a = state_push (state_left s x y) cs rs c r a.1

pub changes_push : (s : DeviceState) (cs : List AdminLine) (rs : List (List ℕ)) (c : AdminLine) (r : List ℕ) → AreAnswered s cs rs → changes_made s (cs ++ c ∷ []) (rs ++ r ∷ []) ≡ changes_made s cs rs ++ changes_made_by (state_behind s cs rs) c r
unfolding state_behind changes_made
changes_push s [] [] c r a = append-nil (changes_made_by s c r)
changes_push s [] (y ∷ rs) c r a = absurd a
changes_push s (x ∷ cs) [] c r a = absurd a
changes_push s (x ∷ cs) (y ∷ rs) c r a =
    ap (λ l. changes_made_by s x y ++ l) (changes_push (state_left s x y) cs rs c r a.1) ∙ sym (append_assoc (changes_made_by s x y) (changes_made (state_left s x y) cs rs) (changes_made_by (state_behind (state_left s x y) cs rs) c r))

pub as_many_replies : (s : DeviceState) (cs : List AdminLine) (rs : List (List ℕ)) → AreAnswered s cs rs → length cs ≡ length rs
as_many_replies s [] [] a = refl
as_many_replies s [] (y ∷ rs) a = absurd a
as_many_replies s (x ∷ cs) [] a = absurd a
as_many_replies s (x ∷ cs) (y ∷ rs) a = ap suc (as_many_replies (state_left s x y) cs rs a.1)

-- ---- the first commands

-- they made no more changes than all
pub fewer_made : (s : DeviceState) (cs : List AdminLine) (rs : List (List ℕ)) (k : ℕ) → length (changes_made s (take k cs) (take k rs)) ≤ length (changes_made s cs rs)
unfolding changes_made
fewer_made s cs rs zero = omega arith
fewer_made s [] rs (suc k) = omega arith
fewer_made s (x ∷ cs) [] (suc k) = omega arith
fewer_made s (x ∷ cs) (y ∷ rs) (suc k) =
    let made = changes_made_by s x y in
    let rest = fewer_made (state_left s x y) cs rs k in
    omega (arith, length-append made (changes_made (state_left s x y) (take k cs) (take k rs)), length-append made (changes_made (state_left s x y) cs rs))

-- ---- replies of the machine

no_memory_status : status_of no_memory_reply ≡ no_memory.status
unfolding no_memory_reply whole_reply le16_at
no_memory_status = refl

-- none says that memory was wanting
pub machine_has_memory : (s : DeviceState) (bytes : List ℕ) (room : ℕ) → is_no_memory (reply_of s bytes room) ≡ false
unfolding is_no_memory
machine_has_memory s bytes room = by_test (is_no_memory (reply_of s bytes room)) refl where
  by_test : (b : Bool) → is_no_memory (reply_of s bytes room) ≡ b → is_no_memory (reply_of s bytes room) ≡ false
  by_test false e = e
  by_test true e = absurd (never_no_memory s bytes room (ap status_of ((bytes_eq-Decides (reply_of s bytes room) no_memory_reply).0 e) ∙ no_memory_status))
