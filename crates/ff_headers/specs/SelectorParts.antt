-- What contracts see of a selector.
use Rattle.std.specs.Prelude.{◌≡◌, ℕ, List, length, replicate}
use Rattle.ff_headers.specs.Kinds.{kind_size}
use Rattle.ff_headers.specs.declared.kind.Kind.{Kind}
use Rattle.ff_headers.specs.declared.kind.Kind.TheVariants.{Eth}

-- a selector's header, flags byte and mask (Virtio 1.4 draft, flow filter selector)
pub record SelectorParts : Type 0 where
  pub kind : Kind
  pub flags : ℕ
  pub mask : List ℕ

-- the mask has the header's size
abbrev pub IsWhole : SelectorParts → Type 0
IsWhole s = length s.mask ≡ kind_size s.kind

-- the selector with these parts
abbrev pub selector_with : Kind → ℕ → List ℕ → SelectorParts
selector_with k f m = record { kind = k; flags = f; mask = m }

-- an Ethernet selector that compares nothing
abbrev pub blank_selector : SelectorParts
blank_selector = selector_with Eth 0 (replicate 14 0)
