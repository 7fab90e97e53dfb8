-- A layout is a list of fields, one after the other.
use Rattle.std.specs.Prelude.{◌≡◌, ℕ, ◌+◌, ◌<◌, ◌^◌, List, [], ◌∷◌, ◌++◌, length, replicate, flat_map, ⊤}
use Rattle.std.specs.Int.{Width, byte_len, to_le_bytes}

-- a number of a width, little endian; so many reserved bytes; bytes that are given
pub data Field : Type 0 where
  number : Width → ℕ → Field
  reserved : ℕ → Field
  raw : List ℕ → Field

-- the bytes are these fields in order, and then the rest; anything may stand in reserved bytes
abbrev pub Spells : List ℕ → List Field → List ℕ → Type 0
Spells bytes [] rest = bytes ≡ rest
Spells bytes (number width n ∷ fields) rest =
    (n < 256 ^ byte_len width) × ((after : List ℕ) × (bytes ≡ to_le_bytes width n ++ after) × Spells after fields rest)
Spells bytes (reserved count ∷ fields) rest =
    (unread : List ℕ) × (after : List ℕ) × (length unread ≡ count) × (bytes ≡ unread ++ after)
    × Spells after fields rest
Spells bytes (raw given ∷ fields) rest = (after : List ℕ) × (bytes ≡ given ++ after) × Spells after fields rest

-- the bytes of a field, where reserved bytes are 0
abbrev pub field_bytes : Field → List ℕ
field_bytes (number width n) = to_le_bytes width n
field_bytes (reserved count) = replicate count 0
field_bytes (raw given) = given

-- the bytes of fields, one after the other
abbrev pub written : List Field → List ℕ
written fields = flat_map field_bytes fields

-- each number has its width
abbrev pub AreFitting : List Field → Type 0
AreFitting [] = ⊤
AreFitting (number width n ∷ fields) = (n < 256 ^ byte_len width) × AreFitting fields
AreFitting (reserved count ∷ fields) = AreFitting fields
AreFitting (raw given ∷ fields) = AreFitting fields

-- new is old with the bytes of these fields behind it, and each number has its width
pub record WritesFields (old : List ℕ) (fields : List Field) (new : List ℕ) : Type 0 where
  pub bytes : new ≡ old ++ written fields
  pub size : length new ≡ length old + length (written fields)
  pub fits : AreFitting fields
