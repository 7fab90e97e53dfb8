-- Bytes that tell the shapes of specs apart, and the numbers that they lead to. This project's own.
use Rattle.std.specs.Prelude.{◌≡◌, ℕ, if◌then◌else◌, List, [], ◌∷◌, ◌++◌, Option, All, bytes_eq, flat_map}
use Rattle.std.specs.BTreeMap.{BTreeMap, get_by}
use Rattle.std.specs.Cmp.Lexicographic.{slice_cmp}
use Rattle.std.specs.List.{list_any, position_from}
use Rattle.std.specs.Ordering.{nat_cmp}
use Rattle.arrayvec.specs.ArrayVec.{ArrayVec}
use Rattle.ff_headers.specs.Kinds.{kind_code}
use Rattle.ntuple_text.specs.declared.spec.Spec.{Spec}
use Rattle.ntuple_compile.specs.Compiled.{SelectorList}
use Rattle.ntuple_compile.specs.Selected.{AreGiven, selectors_of}

-- the type byte and the mask of each selector, joined_number
unfoldable pub shape_bytes : SelectorList → List ℕ
shape_bytes shape = flat_map (λ s. kind_code s.kind ∷ s.mask) shape

-- the bytes of a spec's shape
abbrev pub spec_bytes : Spec → List ℕ
spec_bytes spec = shape_bytes (selectors_of spec)

-- the first specs of shapes, once one more spec was seen: it is one of them where none of them has its shape
abbrev pub with_use : List Spec → Spec → List Spec
with_use firsts spec =
    if list_any (λ first. bytes_eq (spec_bytes spec) (spec_bytes first)) firsts then firsts else firsts ++ spec ∷ []

-- what a map has under these bytes
abbrev pub number_under : BTreeMap (ArrayVec ℕ) ℕ → List ℕ → Option ℕ
number_under numbers bytes = get_by (λ key. slice_cmp nat_cmp bytes key.items) numbers

-- the bytes of a shape lead to the place of the spec that has it
pub record IsNumbered (firsts : List Spec) (number : List ℕ → Option ℕ) : Type 0 where
  pub placed : (bytes : List ℕ) → number bytes ≡ position_from (λ first. bytes_eq bytes (spec_bytes first)) 0 firsts
  pub given : All AreGiven firsts
