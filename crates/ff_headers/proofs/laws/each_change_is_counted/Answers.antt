use Rattle.std.proofs.Common.{◌≡◌, ℕ, ◌+◌, Bool, true, false, not, cond, refl, arith}
use Rattle.std.proofs.lemmas.List.Folds.{fold_along}
use Rattle.ff_headers.specs.Changes.{is_close, count_after, saturated}
use Rattle.ff_headers.specs.declared.change.Change.{Change}
use Rattle.ff_headers.proofs.laws.each_change_is_counted.Goals as goal

one_more : (closes : Bool) (kept count : ℕ) → kept ≡ saturated count
    → cond closes kept (saturated (kept + 1)) ≡ saturated (count + cond (not closes) 1 0)
one_more true kept count is = omega arith
one_more false kept count is = omega arith

pub returns : goal.returns
returns c = λ changes.
    fold_along count_after (λ (n : ℕ) (change : Change). n + cond (not (is_close change)) 1 0) (λ kept count. kept ≡ saturated count)
    (λ kept count change is. one_more (is_close change) kept count is) 0 0 changes refl
