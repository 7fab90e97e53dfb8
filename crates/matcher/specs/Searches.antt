-- What a search in the rows finds, and the keys that it compares. This project's own.
use Rattle.std.specs.Prelude.{◌≡◌, ◌≢◌, ℕ, ◌+◌, ◌*◌, ◌^◌, ◌<◌, ◌≤◌, Bool, false, ◌==◌, nat_lt, Option, Some, IsSome, List, length, slice_index_or, Contains, MatchOption, if◌then◌else◌}
use Rattle.std.specs.Ordering.{nat_cmp, is_lt}
use Rattle.std.specs.Cmp.Lexicographic.{slice_cmp}
use Rattle.ff_headers.specs.SelectorParts.{SelectorParts}
use Rattle.ff_headers.specs.Frames.{HeaderBytes}
use Rattle.ff_headers.specs.Places.{place_cmp}
use Rattle.matcher.specs.Keys.{Shape, shape_of, frame_key}
use Rattle.matcher.specs.Rows.{selectors_at}
use Rattle.matcher.specs.declared.scan.Candidate.{Candidate}
use Rattle.matcher.specs.declared.rows.Row.{Row}

-- whether a row stands before all rows with the number and key
unfoldable pub precedes : ℕ → List ℕ → Row → Bool
precedes number key row =
    if row.shape == number then is_lt (slice_cmp nat_cmp row.key.items key) else nat_lt row.shape number

-- a row has the number and the key
abbrev pub HasKey : ℕ → List ℕ → Row → Type 0
HasKey number key row = (row.shape ≡ number) × (row.key.items ≡ key)

-- a row has the headers' bits under its shape
abbrev pub FitsRow : List (List SelectorParts) → HeaderBytes → Row → Type 0
FitsRow shapes headers row = frame_key (selectors_at shapes row.shape) headers ≡ Some row.key.items

-- a candidate is that of a row of the kind, and none of them has a lesser place; or there is no such row
abbrev pub IsFirstAmong : List Row → (Row → Type 0) → Option Candidate → Type 0
IsFirstAmong rows kind first = MatchOption first
    ((row : Row) → Contains rows row → ¬ kind row)
    (λ candidate. ((row : Row) × Contains rows row × kind row × (row.candidate ≡ candidate))
    × ((row : Row) → Contains rows row → kind row → is_lt (place_cmp row.candidate.place candidate.place) ≡ false))

-- the comparisons of one search among the rows of a number: at least one where there is such a row, none where there
-- isn't, and at most one more than the halvings of the rows' count
pub record IsCost (rows : List Row) (number before after : ℕ) : Type 0 where
  pub some : (row : Row) → Contains rows row → row.shape ≡ number → before + 1 ≤ after
  pub none : ((row : Row) → Contains rows row → ¬ (row.shape ≡ number)) → after ≡ before
  pub most : (d : ℕ) → length rows < 2 ^ d → after ≤ before + (d + 1)
  pub rising : before ≤ after

-- a row has a number below another, and the headers' bits under its shape
abbrev pub FitsBelow : ℕ → List (List SelectorParts) → HeaderBytes → Row → Type 0
FitsBelow count shapes headers row = (row.shape < count) × FitsRow shapes headers row

-- the comparisons of the search for one shape: at least one where there is such a row and the frame has the headers
pub record IsShapeCost (shapes : List (List SelectorParts)) (rows : List Row) (headers : HeaderBytes)
    (number before after : ℕ) : Type 0 where
  pub some : (row : Row) → Contains rows row → row.shape ≡ number
      → IsSome (frame_key (selectors_at shapes number) headers) → before + 1 ≤ after
  pub none : ((row : Row) → Contains rows row → ¬ (row.shape ≡ number)) → after ≡ before
  pub most : (d : ℕ) → length rows < 2 ^ d → after ≤ before + (d + 1)
  pub rising : before ≤ after

-- some row has the number
abbrev pub HasRow : List Row → ℕ → Type 0
HasRow rows number = (row : Row) × Contains rows row × (row.shape ≡ number)

-- each of these shapes is that of a number below the count which some row has
abbrev pub AreOfNumbers : List (List SelectorParts) → List Row → ℕ → List Shape → Type 0
AreOfNumbers shapes rows count used = (shape : Shape) → Contains used shape
    → (i : ℕ) × (i < count) × HasRow rows i × (shape_of (selectors_at shapes i) ≡ shape)

-- these are all shapes of numbers below the count which some row has and whose headers the frame has
abbrev pub AreAllCarried : List (List SelectorParts) → List Row → HeaderBytes → ℕ → List Shape → Type 0
AreAllCarried shapes rows headers count carried = (i : ℕ) → i < count → HasRow rows i
    → IsSome (frame_key (selectors_at shapes i) headers) → Contains carried (shape_of (selectors_at shapes i))

-- nothing stands at two places of the list
abbrev pub Differ : {X : Type 0} → List X → Type 0
Differ {X} items = (i j : ℕ) (d : X) → i < j → j < length items → slice_index_or items i d ≢ slice_index_or items j d

-- the comparisons of the search for the shapes of numbers below the count
pub record IsTotalCost (shapes : List (List SelectorParts)) (rows : List Row) (headers : HeaderBytes)
    (count before after : ℕ) : Type 0 where
  pub rising : before ≤ after
  pub used : List Shape
  pub apart : Differ used
  pub of_numbers : AreOfNumbers shapes rows count used
  pub most : (d : ℕ) → length rows < 2 ^ d → after ≤ before + length used * (d + 1)
  pub carried : List Shape
  pub all_carried : AreAllCarried shapes rows headers count carried
  pub least : before + length carried ≤ after
