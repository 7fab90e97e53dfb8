-- One more command on the side that carries commands out.
use Rattle.std.proofs.Common.{◌≡◌, ℕ, ◌+◌, ◌<◌, ◌≤◌, List, [], ◌∷◌, ◌++◌, length, get_or, take, vec_capacity, sym, ap, subst, ◌∙◌, length-append, arith}
use Rattle.std.proofs.lemmas.List.{map-append, take-append-le}
use Rattle.arrayvec.specs.ArrayVec.{ArrayVec}
use Rattle.snapshots.specs.Ends.{EndState, with_list}
use Rattle.steer.specs.AdminSides.{HasCarriedOut}
use Rattle.steer.specs.LiveCommands.{IsAnswered, state_left, changes_made_by}
use Rattle.steer.specs.LiveSteps.{HasRun}
use Rattle.steer.specs.Results.{replies_in}
use Rattle.steer.specs.declared.admin_line.AdminLine.{AdminLine}
use Rattle.steer.specs.declared.admin_side.AdminSide.{AdminSide}
use Rattle.steer.proofs.CarryLemmas.{run_more}

pub carried_more : (lines : List AdminLine) (from n : ℕ) (a b c : AdminSide) (line : AdminLine) (reply : ArrayVec ℕ) → from ≤ n → n < length lines → line ≡ get_or lines n line → IsAnswered b.device line reply.items → c.device ≡ state_left b.device line reply.items → c.end ≡ with_list b.end (b.end.list ++ changes_made_by b.device line reply.items) → c.replies.items ≡ b.replies.items ++ reply ∷ [] → vec_capacity c.replies ≡ vec_capacity b.replies → HasCarriedOut lines from n a b → HasCarriedOut lines from (n + 1) a c
carried_more lines from n a b c line reply order inside at answered left end items capacity p = record {
  run = λ start h.
      subst (λ rs. HasRun start (take (n + 1) lines) rs c.device c.end.list) (sym replies)
      (run_more start lines n line (replies_in b.replies.items) reply.items b.device c.device b.end.list c.end.list inside at answered left (ap (λ (e : EndState). e.list) end) (p.run start h));
  identity = ap (λ (e : EndState). e.identity) end ∙ p.identity;
  limits = ap (λ (e : EndState). e.limits) end ∙ p.limits;
  kept = ap (take (length a.replies.items)) items ∙ (take-append-le (length a.replies.items) b.replies.items (reply ∷ []) shorter ∙ p.kept);
  longer = let e = ap length items in omega (arith, length-append b.replies.items (reply ∷ []), p.longer, e);
  capacity = capacity ∙ p.capacity;
} where
  replies : replies_in c.replies.items ≡ replies_in b.replies.items ++ reply.items ∷ []
  replies = ap replies_in items ∙ map-append (λ (r : ArrayVec ℕ). r.items) b.replies.items (reply ∷ [])

  shorter : length a.replies.items ≤ length b.replies.items
  shorter = omega (arith, p.longer, order)
