-- Lists of published changes, and what a later list must cover. This project's own.
use Rattle.std.specs.Prelude.{◌≡◌, Bool, true, not, List, [], ◌∷◌, ◌++◌}
use Rattle.std.specs.List.{list_any}
use mathlib.Core.List.{IsPrefix}
use Rattle.logbook.specs.Pages.{Book}
use Rattle.ff_headers.specs.Changes.{is_close}
use Rattle.ff_headers.specs.declared.change.Change.{Change}
use Rattle.ff_headers.specs.declared.change.Change.TheVariants.{Close}

-- which shared tables these are: the book in which their changes are logged, one for each call of `open`
abbrev pub Identity : Type 0
Identity = Book

-- no change closes the list
abbrev pub is_open : List Change → Bool
is_open list = not (list_any is_close list)

-- the last change closes the list, and no other does
pub record IsClosed (list : List Change) : Type 0 where
  pub before : List Change
  pub still_open : is_open before ≡ true
  pub is : list ≡ before ++ Close ∷ []

-- no change follows the one that closes the list
abbrev pub ClosesLast : List Change → Type 0
ClosesLast list = (before rest : List Change) → list ≡ before ++ Close ∷ rest → rest ≡ []

-- a list that is read covers a floor: it begins with the floor, and is the floor where that is closed
pub record Covers (list floor : List Change) : Type 0 where
  pub begins : IsPrefix floor list
  pub closed : (before : List Change) → floor ≡ before ++ Close ∷ [] → list ≡ floor

-- a list of the changes of these tables
pub record ToldList : Type 0 where
  pub identity : Identity
  pub list : List Change

-- the list with one more change
abbrev pub with_more : ToldList → Change → ToldList
with_more told change = record { identity = told.identity; list = told.list ++ change ∷ [] }
