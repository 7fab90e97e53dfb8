-- When a header fits a selector, and when a list of selectors with a key matches a frame's headers. The selectors and
-- keys are those of the Virtio 1.4 draft's flow filter; that both sides are masked is this project's own.
use Rattle.std.specs.Prelude.{◌≡◌, ℕ, ◌<◌, Bool, false, List, [], ◌∷◌, map, take, drop, length, slice_index, bit_and, nat_eq, IsSomeAnd, sum_by}
use Rattle.std.specs.List.{AllZip, zip, list_all}
use Rattle.std.specs.Option.{option_map_or}
use Rattle.std.specs.Cmp.Lexicographic.{pointwise}
use Rattle.ff_headers.specs.Kinds.{kind_size}
use Rattle.ff_headers.specs.SelectorParts.{SelectorParts}
use Rattle.ff_headers.specs.Frames.{HeaderBytes, header_at}

-- the bits of the bytes that the mask has
abbrev pub masked : List ℕ → List ℕ → List ℕ
masked mask bytes = map (λ p. bit_and p.0 p.1) (zip bytes mask)

-- the header is there and equals the key's part under the mask, as a test
unfoldable pub fits : SelectorParts → List ℕ → HeaderBytes → Bool
fits selector part headers =
    option_map_or (λ value. pointwise nat_eq (masked selector.mask value) (masked selector.mask part))
    (header_at headers selector.kind) false

-- at each place of the mask both have the same bits among those of the mask
abbrev pub SameUnder : List ℕ → List ℕ → List ℕ → Type 0
SameUnder mask value part =
    (j : ℕ) → j < length mask
    → bit_and (slice_index value j) (slice_index mask j) ≡ bit_and (slice_index part j) (slice_index mask j)

-- the header is there and equals the key's part under the mask
abbrev pub PartFits : SelectorParts → List ℕ → HeaderBytes → Type 0
PartFits selector part headers =
    IsSomeAnd (header_at headers selector.kind) (λ value. SameUnder selector.mask value part)

-- the bytes of a key for the selectors: the sum of the headers' sizes
abbrev pub key_size : List SelectorParts → ℕ
key_size selectors = sum_by (λ s. kind_size s.kind) selectors

-- the key cut into one part for each selector, of its header's size
abbrev pub parts_of : List SelectorParts → List ℕ → List (List ℕ)
parts_of [] key = []
parts_of (s ∷ ss) key = take (kind_size s.kind) key ∷ parts_of ss (drop (kind_size s.kind) key)

-- each selector's header fits its part of the key, as a test
unfoldable pub matches : List SelectorParts → List ℕ → HeaderBytes → Bool
matches selectors key headers = list_all (λ p. fits p.0 p.1 headers) (zip selectors (parts_of selectors key))

-- each selector's header fits its part of the key
abbrev pub Matches : List SelectorParts → List ℕ → HeaderBytes → Type 0
Matches selectors key headers = AllZip (λ s part. PartFits s part headers) selectors (parts_of selectors key)
