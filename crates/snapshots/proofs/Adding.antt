-- The exchange that logs a change keeps the law.
use Rattle.std.proofs.Common.{◌≡◌, ℕ, ◌+◌, ◌<◌, ◌==◌, Bool, true, false, List, [], ◌∷◌, ◌++◌, length, refl, ap, sym, subst, arith, inl, length-append, None}
use Rattle.std.proofs.lemmas.List.{append-nil}
use Rattle.std.proofs.lemmas.Bool.Decides.{nat_tests}
use mathlib.Core.List.{IsPrefix}
use prog.Atomic.{either}
use Rattle.logbook.specs.Pages.{Cell, cell, keeps, no_nib, step, Moves, Goes}
use Rattle.ff_headers.specs.declared.change.Change.{Change}
use Rattle.snapshots.specs.Lists.{is_open, ClosesLast}
use Rattle.snapshots.specs.Law.{IsKept, Adds}
use Rattle.snapshots.proofs.Beginnings.{prefix_whole}
use Rattle.snapshots.proofs.Closing.{closes_last_more}

-- what the law shows of a list, and which moves it allows
abbrev pub law_shows : List Change → List Change
law_shows log = []

abbrev pub law_moves : List Change → List Change → ℕ → Type 0
law_moves xs ys n = Unit {0}

adds_goes : (log v : List Change) (e : Change) (old : ℕ) → length v ≡ old → is_open v ≡ true → ClosesLast log → IsPrefix v log
    → (b : Bool) → (length log == old) ≡ b
    → Goes IsKept law_shows law_moves 0 (v, (no_nib, None)) (λ n. either (n == old) (old + 1) n) (Adds (step 0 old (old + 1) e) (v, (no_nib, None))) ((length log, true) ∷ (0, true) ∷ []) log
adds_goes log v e old len may legal pre true is =
    let here : length log ≡ old = grind (arith, nat_tests) in
    let same : v ≡ log = prefix_whole v log pre (omega arith) in
    let last : ClosesLast (log ++ e ∷ []) = closes_last_more log e (subst (λ l. is_open l ≡ true) same may) in
    let n : either (length log == old) (old + 1) (length log) ≡ length (log ++ e ∷ []) = rw is (omega (arith, length-append log (e ∷ []))) in (
      keeps,
      e ∷ [],
      None,
      tt,
      record { words = ap (λ (k : ℕ). (k, true) ∷ (0, true) ∷ []) n; closes_last = last },
      inl (refl, refl),
      rw is (ap (λ w. w ++ e ∷ []) (sym same), last),
    )
adds_goes log v e old len may legal pre false is =
    let all : log ++ [] ≡ log = append-nil log in
    let n : either (length log == old) (old + 1) (length log) ≡ length (log ++ []) = rw is (ap length (sym all)) in (
      keeps,
      [],
      None,
      tt,
      record { words = ap (λ (k : ℕ). (k, true) ∷ (0, true) ∷ []) n; closes_last = subst ClosesLast (sym all) legal },
      inl (refl, refl),
      rw is tt,
    )

-- whatever the book is, the exchange logs the change behind all that was seen, or finds that the log is longer
pub adds_moves : (v : List Change) (e : Change) (old : ℕ) → length v ≡ old → is_open v ≡ true
    → Moves IsKept law_shows law_moves 0 (v, (no_nib, None)) (λ n. either (n == old) (old + 1) n) (Adds (step 0 old (old + 1) e) (v, (no_nib, None)))
adds_moves v e old len may cs log kept pre away =
    let P : List Cell → Type 0 = λ c. (0 < length c) × ((cell c 0).1 ≡ true) × Goes IsKept law_shows law_moves 0 (v, (no_nib, None)) (λ n. either (n == old) (old + 1) n) (Adds (step 0 old (old + 1) e) (v, (no_nib, None))) c log in
    subst P (sym kept.words) (omega arith, refl, adds_goes log v e old len may kept.closes_last pre (length log == old) refl)
