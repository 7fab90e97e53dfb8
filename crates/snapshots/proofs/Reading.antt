-- What a read gives, and how floors stay covered.
use Rattle.std.proofs.Common.{◌≡◌, ℕ, List, [], ◌∷◌, ◌++◌, length, All, fold, Option, ap, sym, ◌∙◌}
use Rattle.std.proofs.lemmas.List.Elements.{All-push}
use mathlib.Core.List.{IsPrefix}
use Rattle.ff_headers.specs.Frames.{HeaderBytes}
use Rattle.ff_headers.specs.Places.{action_of}
use Rattle.ff_headers.specs.Changes.{after, change_count, saturated}
use Rattle.ff_headers.specs.declared.limits.Limits.{Limits}
use Rattle.ff_headers.specs.declared.change.Change.{Change}
use Rattle.ff_headers.specs.declared.rule.Action.{Action}
use Rattle.matcher.specs.Tables.{TableState, no_changes, applied, tables_with}
use Rattle.matcher.specs.Findings.{found_in}
use Rattle.matcher.specs.declared.found.Found.{Found}
use Rattle.snapshots.specs.Lists.{ClosesLast, Covers}
use Rattle.snapshots.specs.Reads.{objects_after, seen_after}
use Rattle.snapshots.specs.Seats.{tables_after}
use Rattle.snapshots.specs.declared.seen.Seen.{Seen}
use Rattle.snapshots.proofs.Beginnings.{prefix_trans}
use Rattle.snapshots.proofs.Closing.{after_all, covers_front}

-- what the whole list leaves, and its number
abbrev pub Law : Type 0
Law = (limits : Limits) (changes : List Change) → fold applied (no_changes limits) changes
    ≡ tables_with limits (after limits changes (length changes)) (saturated (change_count changes))

seen_with : ℕ → Action → Option ℕ → Seen
seen_with n a r = record { after = n; action = a; rule = r }

same_seen : (n m : ℕ) (a b : Action) (r s : Option ℕ) → n ≡ m → a ≡ b → r ≡ s
    → seen_with n a r ≡ seen_with m b s
same_seen n m a b r s p q t = cc

-- what is found in tables after a list is what a read of the list gives
pub seen_is : Law → (limits : Limits) (list : List Change) (tables : TableState) (headers : HeaderBytes) (found : Found) (count : ℕ)
    → ClosesLast list → tables ≡ tables_after limits list → found ≡ found_in tables.objects headers
    → found.action ≡ action_of tables.objects headers → count ≡ tables.count
    → record { after = count; action = found.action; rule = found.rule } ≡ seen_after limits list headers
unfolding seen_with
seen_is law limits list tables headers found count last stands value action n =
    let whole = stands ∙ law limits list in
    let objects : tables.objects ≡ objects_after limits list =
    ap (λ (t : TableState). t.objects) whole ∙ sym (after_all limits list last) in
    same_seen _ _ _ _ _ _ (n ∙ ap (λ (t : TableState). t.count) whole)
    (action ∙ ap (λ o. action_of o headers) objects)
    (ap (λ (f : Found). f.rule) value ∙ ap (λ o. (found_in o headers).rule) objects)

-- a list that begins with the longest known one, and closes last, covers each floor
pub covers_all : (floors : List (List Change)) (last list : List Change) → All (λ floor. IsPrefix floor last) floors
    → IsPrefix last list → ClosesLast list → All (Covers list) floors
covers_all floors last list h p closes k d less =
    covers_front list _ (prefix_trans _ last list (h k d less) p) closes

-- one floor more
pub covered_more : (floors : List (List Change)) (list last longer : List Change) → All (λ floor. IsPrefix floor last) floors
    → IsPrefix last longer → IsPrefix list longer → All (λ floor. IsPrefix floor longer) (floors ++ list ∷ [])
covered_more floors list last longer h p q =
    All-push (λ floor. IsPrefix floor longer) floors list (λ k d less. prefix_trans _ last longer (h k d less) p) q
