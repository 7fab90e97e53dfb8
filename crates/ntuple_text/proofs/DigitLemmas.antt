-- The digits of a number, taken one by one from the highest.
use Rattle.std.proofs.Common.{◌≡◌, ℕ, suc, ◌/◌, ◌%◌, ◌^◌, List, [], ◌∷◌, ◌++◌, ap, ◌∙◌, append_assoc}
use Rattle.ntuple_text.specs.SpecTexts.{low_digits}

-- one more digit stands behind those so far
pub digits-step : (base number place : ℕ) (front digits all : List ℕ) → digits ≡ front ++ (number / base ^ suc place % base) ∷ [] → front ++ low_digits base (suc place) number ≡ all → digits ++ low_digits base place number ≡ all
digits-step base number place front digits all more same =
    ap (λ xs. xs ++ low_digits base place number) more ∙ (append_assoc front ((number / base ^ suc place % base) ∷ []) (low_digits base place number) ∙ same)
