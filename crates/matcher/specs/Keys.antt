-- The shape of a classifier, and keys under its masks. This project's own.
use Rattle.std.specs.Prelude.{ℕ, List, [], ◌∷◌, ◌++◌, map, take, drop, Option, Some, None}
use Rattle.std.specs.Option.{option_map, option_map_or}
use Rattle.ff_headers.specs.Kinds.{kind_size}
use Rattle.ff_headers.specs.SelectorParts.{SelectorParts}
use Rattle.ff_headers.specs.Frames.{HeaderBytes, header_at}
use Rattle.ff_headers.specs.Matching.{masked}
use Rattle.ff_headers.specs.declared.kind.Kind.{Kind}

-- a list of kinds and masks
abbrev pub Shape : Type 0
Shape = List (Kind × List ℕ)

-- a selector's kind and mask: its flags don't count
abbrev pub kind_and_mask : SelectorParts → Kind × List ℕ
kind_and_mask s = (s.kind, s.mask)

-- the kinds and masks of the selectors
abbrev pub shape_of : List SelectorParts → Shape
shape_of selectors = map kind_and_mask selectors

-- the bits of a key that the selectors compare
abbrev pub masked_key : List SelectorParts → List ℕ → List ℕ
masked_key [] key = []
masked_key (s ∷ ss) key = masked s.mask (take (kind_size s.kind) key) ++ masked_key ss (drop (kind_size s.kind) key)

-- a header's bits, and before them those of what follows it, where both are there
abbrev pub joined_with : List ℕ → Option (List ℕ) → Option (List ℕ)
joined_with front rest = option_map (λ bytes. front ++ bytes) rest

-- the bits of a frame's headers that the selectors compare, where the frame has all of them
abbrev pub frame_key : List SelectorParts → HeaderBytes → Option (List ℕ)
frame_key [] headers = Some []
frame_key (s ∷ ss) headers =
    option_map_or (λ value. joined_with (masked s.mask value) (frame_key ss headers)) (header_at headers s.kind) None
