-- Reading fields one after the other, at the places where they stand.
use Rattle.std.proofs.Common.{◌≡◌, ℕ, ◌+◌, ◌%◌, ◌^◌, ◌<◌, ap, subst, refl, arith, List, [], ◌∷◌, ◌++◌, length, get_or, take, drop, length-append}
use Rattle.std.specs.Int.{w8, w16, w32, w64, to_le_bytes}
use Rattle.std.proofs.lemmas.List.{take_at, drop_at, drop-drop, get_or-drop}
use Rattle.byte_numbers.proofs.NumberLaws.{le16_at-bytes, le32_at-bytes, le64_at-bytes}
use Rattle.admin_wire.specs.Fields.{Field, number, reserved, raw, Spells}
use Rattle.byte_numbers.specs.Numbers.{le16_at, le32_at, le64_at}

-- at the place of the bytes the rest begins
pub record At (bytes : List ℕ) (place : ℕ) (rest : List ℕ) : Type 0 where
  pub left : drop place bytes ≡ rest
  pub count : length bytes ≡ place + length rest

pub At-start : (bytes : List ℕ) → At bytes 0 bytes
At-start bytes = record { left = refl; count = omega arith }

-- past a front of so many bytes
pub At-more : (bytes : List ℕ) (place size next : ℕ) (front rest after : List ℕ) → At bytes place rest
    → rest ≡ front ++ after
    → length front ≡ size → place + size ≡ next → At bytes next after
At-more bytes place size next front rest after here split sized moved =
    let on : drop size (drop place bytes) ≡ after = rw (here.left, split) (drop_at front after size sized) in
    record {
      left = rw (← moved, ← drop-drop size place bytes) on;
      count = omega (arith, here.count, ap length split, length-append front after);
    }

pub le16-at : (bytes rest after : List ℕ) (place n : ℕ) → At bytes place rest → n < 2 ^ 16
    → rest ≡ to_le_bytes w16 n ++ after
    → le16_at bytes place ≡ n
le16-at bytes rest after place n here fits split = le16_at-bytes bytes place n (rw (here.left, split) refl) fits

pub le32-at : (bytes rest after : List ℕ) (place n : ℕ) → At bytes place rest → n < 2 ^ 32
    → rest ≡ to_le_bytes w32 n ++ after
    → le32_at bytes place ≡ n
le32-at bytes rest after place n here fits split = le32_at-bytes bytes place n (rw (here.left, split) refl) fits

pub le64-at : (bytes rest after : List ℕ) (place n : ℕ) → At bytes place rest → n < 2 ^ 64
    → rest ≡ to_le_bytes w64 n ++ after
    → le64_at bytes place ≡ n
le64-at bytes rest after place n here fits split = le64_at-bytes bytes place n (rw (here.left, split) refl) fits

pub byte-at : (bytes rest after : List ℕ) (place n : ℕ) → At bytes place rest → n < 2 ^ 8
    → rest ≡ to_le_bytes w8 n ++ after
    → get_or bytes place 0 ≡ n
byte-at bytes rest after place n here fits split =
    let below : n % 256 ≡ n = omega arith in
    let first : get_or (drop place bytes) 0 0 ≡ n = rw (here.left, split) below in
    let moved : place + 0 ≡ place = omega arith in
    rw (← moved, ← get_or-drop place bytes 0 0) first

-- what spells one list of fields and then another spells the first up to where the second begins
pub Spells-append : (bytes : List ℕ) (fields more : List Field) (rest : List ℕ) → Spells bytes (fields ++ more) rest
    → (mid : List ℕ) × Spells bytes fields mid × Spells mid more rest
Spells-append bytes [] more rest s = (bytes, refl, s)
Spells-append bytes (number width n ∷ fields) more rest s =
    let on = Spells-append s.1.0 fields more rest s.1.2 in (on.0, (s.0, (s.1.0, s.1.1, on.1)), on.2)
Spells-append bytes (reserved count ∷ fields) more rest s =
    let on = Spells-append s.1 fields more rest s.4 in (on.0, (s.0, s.1, s.2, s.3, on.1), on.2)
Spells-append bytes (raw given ∷ fields) more rest s =
    let on = Spells-append s.0 fields more rest s.2 in (on.0, (s.0, s.1, on.1), on.2)

-- from the place on, the bytes are these fields, and then the end
pub record Left (bytes : List ℕ) (place : ℕ) (fields : List Field) (end : List ℕ) : Type 0 where
  pub rest : List ℕ
  pub here : At bytes place rest
  pub spells : Spells rest fields end

pub Left-start : (bytes : List ℕ) (fields : List Field) (end : List ℕ) → Spells bytes fields end
    → Left bytes 0 fields end
Left-start bytes fields end s = record { rest = bytes; here = At-start bytes; spells = s }

-- a field is read, and the next follows it
pub number_16 : {bytes : List ℕ} {place n : ℕ} {fields : List Field} {end : List ℕ}
    → Left bytes place (number w16 n ∷ fields) end → (le16_at bytes place ≡ n) × Left bytes (place + 2) fields end
number_16 {bytes} {place} {n} l = (
  le16-at bytes l.rest l.spells.1.0 place n l.here l.spells.0 l.spells.1.1,
  record {
    rest = l.spells.1.0;
    here = At-more bytes place 2 (place + 2) (to_le_bytes w16 n) l.rest l.spells.1.0 l.here l.spells.1.1 refl refl;
    spells = l.spells.1.2;
  },
)

pub number_32 : {bytes : List ℕ} {place n : ℕ} {fields : List Field} {end : List ℕ}
    → Left bytes place (number w32 n ∷ fields) end → (le32_at bytes place ≡ n) × Left bytes (place + 4) fields end
number_32 {bytes} {place} {n} l = (
  le32-at bytes l.rest l.spells.1.0 place n l.here l.spells.0 l.spells.1.1,
  record {
    rest = l.spells.1.0;
    here = At-more bytes place 4 (place + 4) (to_le_bytes w32 n) l.rest l.spells.1.0 l.here l.spells.1.1 refl refl;
    spells = l.spells.1.2;
  },
)

pub number_64 : {bytes : List ℕ} {place n : ℕ} {fields : List Field} {end : List ℕ}
    → Left bytes place (number w64 n ∷ fields) end → (le64_at bytes place ≡ n) × Left bytes (place + 8) fields end
number_64 {bytes} {place} {n} l = (
  le64-at bytes l.rest l.spells.1.0 place n l.here l.spells.0 l.spells.1.1,
  record {
    rest = l.spells.1.0;
    here = At-more bytes place 8 (place + 8) (to_le_bytes w64 n) l.rest l.spells.1.0 l.here l.spells.1.1 refl refl;
    spells = l.spells.1.2;
  },
)

pub number_8 : {bytes : List ℕ} {place n : ℕ} {fields : List Field} {end : List ℕ}
    → Left bytes place (number w8 n ∷ fields) end → (get_or bytes place 0 ≡ n) × Left bytes (place + 1) fields end
number_8 {bytes} {place} {n} l = (
  byte-at bytes l.rest l.spells.1.0 place n l.here l.spells.0 l.spells.1.1,
  record {
    rest = l.spells.1.0;
    here = At-more bytes place 1 (place + 1) (to_le_bytes w8 n) l.rest l.spells.1.0 l.here l.spells.1.1 refl refl;
    spells = l.spells.1.2;
  },
)

pub skipped : {bytes : List ℕ} {place count : ℕ} {fields : List Field} {end : List ℕ}
    → Left bytes place (reserved count ∷ fields) end → Left bytes (place + count) fields end
skipped {bytes} {place} {count} l = record {
  rest = l.spells.1;
  here = At-more bytes place count (place + count) l.spells.0 l.rest l.spells.1 l.here l.spells.3 l.spells.2 refl;
  spells = l.spells.4;
}

pub given_raw : {bytes : List ℕ} {place : ℕ} {given : List ℕ} {fields : List Field} {end : List ℕ}
    → Left bytes place (raw given ∷ fields) end
    → (take (length given) (drop place bytes) ≡ given) × Left bytes (place + length given) fields end
given_raw {bytes} {place} {given} l = (
  rw (l.here.left, l.spells.1) (take_at given l.spells.0 (length given) refl),
  record {
    rest = l.spells.0;
    here = At-more bytes place (length given) (place + length given) given l.rest l.spells.0 l.here l.spells.1 refl refl;
    spells = l.spells.2;
  },
)

-- no field is left
pub ended : {bytes : List ℕ} {place : ℕ} {end : List ℕ} → Left bytes place [] end → At bytes place end
ended {bytes} {place} l = subst (At bytes place) l.spells l.here
