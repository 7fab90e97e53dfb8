-- The law of the book in which changes are logged, and what its steps tell. This project's own.
use Rattle.std.specs.Prelude.{ℕ, ◌≡◌, ◌==◌, true, List, [], ◌∷◌, ◌++◌, length, MatchBool}
use Rattle.logbook.specs.Pages.{Cell, Step, View, Book, Named}
use Rattle.ff_headers.specs.declared.change.Change.{Change}
use Rattle.snapshots.specs.Lists.{ClosesLast}

-- the first word is the number of changes, and none follows the one that closes the list. The second word isn't used
pub record IsKept (cells : List Cell) (list : List Change) : Type 0 where
  pub words : cells ≡ (length list, true) ∷ (0, true) ∷ []
  pub closes_last : ClosesLast list

-- the word that is the number of changes
abbrev pub count_word : Book → Named
count_word b = record { tracked = true; key = 0; book = b }

-- where the number was the one that was expected, the change was added to all that had been seen
abbrev pub Adds : Step Change → View Change ℕ → ℕ → View Change ℕ → Type 0
Adds s v found w = MatchBool (found == s.old) ((w.0 ≡ v.0 ++ s.ask ∷ []) × ClosesLast w.0) (Unit {0})
