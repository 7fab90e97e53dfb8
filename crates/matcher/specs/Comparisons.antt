-- How many keys a search compares: the bound is by the shapes that rules use. This project's own.
use Rattle.std.specs.Prelude.{◌≡◌, ◌≢◌, ℕ, ◌+◌, ◌*◌, ◌^◌, ◌<◌, ◌≤◌, Some, IsSome, List, [], length, slice_index_or, Contains, All}
use Rattle.ff_headers.specs.SelectorParts.{SelectorParts}
use Rattle.ff_headers.specs.RuleParts.{RuleParts}
use Rattle.ff_headers.specs.Frames.{HeaderBytes, header_at}
use Rattle.ff_headers.specs.Objects.{FlowObjects, object_under}
use Rattle.matcher.specs.Keys.{Shape, shape_of}

-- a classifier that a rule names has the shape
pub record IsUsed (objects : FlowObjects) (shape : Shape) : Type 0 where
  pub id : ℕ
  pub rule : RuleParts
  pub selectors : List SelectorParts
  pub is_held : object_under objects.rules id ≡ Some rule
  pub is_named : object_under objects.classifiers rule.classifier ≡ Some selectors
  pub has_shape : shape_of selectors ≡ shape

-- the frame has each header of the shape
abbrev pub HasHeaders : HeaderBytes → Shape → Type 0
HasHeaders headers shape = All (λ part. IsSome (header_at headers part.0)) shape

-- no shape comes twice
abbrev pub AreDistinct : List Shape → Type 0
AreDistinct shapes = (i j : ℕ) → i < j → j < length shapes → slice_index_or shapes i [] ≢ slice_index_or shapes j []

-- the shapes are used ones, each once, whose headers the frame has
pub record AreSearched (objects : FlowObjects) (headers : HeaderBytes) (shapes : List Shape) : Type 0 where
  pub distinct : AreDistinct shapes
  pub used : (shape : Shape) → Contains shapes shape → IsUsed objects shape
  pub carried : (shape : Shape) → Contains shapes shape → HasHeaders headers shape

-- the comparisons of a search: for shapes that are searched at least one each, and for shapes that are all the used
-- ones at most as many as these times one more than the d with which the count of rules is below 2 to the d
pub record IsBounded (objects : FlowObjects) (headers : HeaderBytes) (before after : ℕ) : Type 0 where
  pub least : (shapes : List Shape) → AreSearched objects headers shapes → before + length shapes ≤ after
  pub most : (shapes : List Shape) (d : ℕ) → ((shape : Shape) → IsUsed objects shape → Contains shapes shape)
      → length objects.rules < 2 ^ d → after ≤ before + length shapes * (d + 1)
