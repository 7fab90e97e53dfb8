-- The selectors and the key by which a rule compares what a spec of a table gives. The masks and keys are those of the
-- Virtio 1.4 draft's flow filters (virtio_net_ff.h); that bits which aren't compared are 0 in both, and when the flag
-- PARTIAL_MASK is set, is this project's own.
use Rattle.std.specs.Prelude.{ℕ, ⊤, ◌<◌, ◌+◌, ◌-◌, ◌*◌, ◌^◌, Bool, not, ◌&&◌, ◌==◌, if◌then◌else◌, bit_and, List, [], ◌∷◌, map, Option, Some, None, All}
use Rattle.std.specs.Prelude.{find, flat_map, option_and_then}
use Rattle.std.specs.List.{list_any}
use Rattle.std.specs.Int.{bytes_high_first}
use Rattle.ff_headers.specs.Fields.{value_at, fields_of}
use Rattle.ff_headers.specs.Kinds.{kind_size}
use Rattle.ff_headers.specs.SelectorParts.{SelectorParts, selector_with}
use Rattle.ff_headers.specs.declared.field.Field.{Field}
use Rattle.ff_headers.specs.declared.kind.Kind.{Kind}
use Rattle.ntuple_text.specs.declared.spec.Part.{Part}
use Rattle.ntuple_text.specs.declared.spec.Spec.{Spec}
use Rattle.ntuple_compile.specs.SpecFits.{NamedField, named_fields, kinds_of}

-- ---- one field

-- what is given for a field, if anything is, has no more than so many bits
abbrev pub IsPartOf : ℕ → Option Part → Type 0
IsPartOf bits None = ⊤
IsPartOf bits (Some part) = (part.value < 2 ^ bits) × (part.skip < 2 ^ bits)

-- a mask's field: a one for each bit that is compared
abbrev pub mask_field : ℕ → Option Part → ℕ
mask_field bits None = 0
mask_field bits (Some part) = 2 ^ bits - 1 - part.skip

-- a key's field: the value's bits where the mask has ones
abbrev pub key_field : ℕ → Option Part → ℕ
key_field bits None = 0
key_field bits (Some part) = bit_and part.value (mask_field bits (Some part))

-- ---- one header

-- a number of so many bits
abbrev pub Sized : Type 0
Sized = ℕ × ℕ

-- the bits of all the numbers
abbrev pub total_bits : List Sized → ℕ
total_bits [] = 0
total_bits (one ∷ rest) = one.0 + total_bits rest

-- the number that they spell, one behind the other, the first the most significant
abbrev pub joined_number : List Sized → ℕ
joined_number [] = 0
joined_number (one ∷ rest) = one.1 * 2 ^ total_bits rest + joined_number rest

-- what is given for a field: nothing where it isn't named
abbrev pub given_for : List NamedField → Field → Option Part
given_for fields f = option_and_then (λ one. one.given) (find (λ one. one.place.first == f.first) fields)

-- what a spec gives for the fields of a header has no more than their bits
abbrev pub AreGivenIn : Spec → Kind → Type 0
AreGivenIn spec kind = All (λ f. IsPartOf f.bits (given_for (named_fields spec kind) f)) (fields_of kind)

-- the bytes of a header whose fields have what `value` says of their bits and of what a spec gives for them
abbrev pub header_with : (ℕ → Option Part → ℕ) → Spec → Kind → List ℕ
header_with value spec kind =
    bytes_high_first (kind_size kind)
    (joined_number (map (λ f. (f.bits, value f.bits (given_for (named_fields spec kind) f))) (fields_of kind)))

-- the mask for a header
unfoldable pub mask_for : Spec → Kind → List ℕ
mask_for spec kind = header_with mask_field spec kind

-- the key's part for a header
unfoldable pub key_part : Spec → Kind → List ℕ
key_part spec kind = header_with key_field spec kind

-- a field of a mask is neither zero nor all ones
abbrev pub is_part_of_field : List ℕ → Field → Bool
is_part_of_field mask f = not (value_at f mask == 0) && not (value_at f mask == 2 ^ f.bits - 1)

-- some field of a mask is
abbrev pub asks_for_parts : Kind → List ℕ → Bool
asks_for_parts kind mask = list_any (is_part_of_field mask) (fields_of kind)

-- the flags of a selector with this mask: PARTIAL_MASK, bit 0
abbrev pub flags_for : Kind → List ℕ → ℕ
flags_for kind mask = if asks_for_parts kind mask then 1 else 0

-- the selector of a header with this mask
abbrev pub selector_of_mask : Kind → List ℕ → SelectorParts
selector_of_mask kind mask = selector_with kind (flags_for kind mask) mask

-- ---- a spec

-- what a spec gives for the headers that its flow names has no more than the fields' bits: so it is of every spec that
-- a line can spell
abbrev pub AreGiven : Spec → Type 0
AreGiven spec = All (AreGivenIn spec) (kinds_of spec.flow)

-- the selectors of a spec: one for each header that its flow names
unfoldable pub selectors_of : Spec → List SelectorParts
selectors_of spec = map (λ kind. selector_of_mask kind (mask_for spec kind)) (kinds_of spec.flow)

-- its key: the selectors' parts, joined_number
unfoldable pub key_for : Spec → List ℕ
key_for spec = flat_map (key_part spec) (kinds_of spec.flow)
