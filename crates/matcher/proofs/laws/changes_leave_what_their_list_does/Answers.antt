use Rattle.std.proofs.Common.{◌≡◌, ℕ, List, [], ◌∷◌, length, refl, sym, ap, ◌∙◌, arith}
use Rattle.std.specs.Prelude.{fold}
use Rattle.std.proofs.lemmas.List.{take_all}
use Rattle.ff_headers.specs.Objects.{FlowObjects, no_objects}
use Rattle.ff_headers.specs.Changes.{step, after, count_after, change_count, saturated}
use Rattle.ff_headers.specs.declared.limits.Limits.{Limits}
use Rattle.ff_headers.specs.declared.change.Change.{Change}
use Rattle.matcher.specs.Tables.{applied, tables_with}
use Rattle.matcher.proofs.laws.changes_leave_what_their_list_does.Goals as goal

-- objects and count go their own ways
each_apart : (limits : Limits) (objects : FlowObjects) (count : ℕ) (changes : List Change) → fold applied (tables_with limits objects count) changes ≡ tables_with limits (fold (step limits) objects changes) (fold count_after count changes)
each_apart limits objects count [] = refl
each_apart limits objects count (change ∷ changes) =
    each_apart limits (step limits objects change) (count_after count change) changes

pub returns : goal.returns
unfolding after
returns c = λ limits changes.
    each_apart limits no_objects 0 changes
    ∙ ap (tables_with limits (fold (step limits) no_objects changes)) (c.each_change_is_counted.ensures changes)
    ∙ ap (λ (all : List Change). tables_with limits (fold (step limits) no_objects all) (saturated (change_count changes))) (sym (take_all (length changes) changes (omega arith)))
