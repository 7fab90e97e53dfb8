-- What a number in bytes depends on, and the bytes that give it.
use Rattle.std.proofs.Common.{◌≡◌, ℕ, lit<, ◌+◌, ◌*◌, ◌^◌, ◌<◌, ◌≤◌, ◌∙◌, sym, arith, List, length, get_or, take, drop, refl, ⊎_elim, length-drop, length-take, ◌++◌}
use Rattle.std.specs.Int.{w16, w32, w64, to_le_bytes}
use Rattle.std.proofs.lemmas.Bool.{cases_lt}
use Rattle.std.proofs.lemmas.List.{get_or-drop, get_or-take, get_or_past, get_or_append_left, length-take-le}
use Rattle.std.proofs.lemmas.Nat.{from_le_bytes-to_le_bytes_2, from_le_bytes-to_le_bytes_4, from_le_bytes-to_le_bytes_8, le_bytes_2, le_bytes_4, le_bytes_8}
use Rattle.byte_numbers.specs.Numbers.{le16_at, le32_at, le64_at, be16_at, be32_at}

-- ---- lists of bytes

-- each is a byte
pub record AreBytes (bytes : List ℕ) : Type 0 where
  pub below : (i : ℕ) → get_or bytes i 0 < 256

pub AreBytes-drop : (bytes : List ℕ) (place : ℕ) → AreBytes bytes → AreBytes (drop place bytes)
AreBytes-drop bytes place all = record { below = λ i. rw (get_or-drop place bytes i 0) (all.below (place + i)) }

pub AreBytes-take : (bytes : List ℕ) (size : ℕ) → AreBytes bytes → AreBytes (take size bytes)
AreBytes-take bytes size all = record {
  below = λ i. ⊎_elim
      (λ (inside : i < size). rw (get_or-take size bytes i 0 inside) (all.below i))
      (λ (past : size ≤ i). rw (get_or_past (take size bytes) i 0 (omega (arith, length-take size bytes))) (lit< tt))
      (cases_lt i size);
}

-- so many bytes at a place
pub piece-length : (bytes : List ℕ) (place size : ℕ) → place + size ≤ length bytes
    → length (take size (drop place bytes)) ≡ size
piece-length bytes place size fits = length-take-le size (drop place bytes) (omega (arith, length-drop place bytes))

piece-bytes : (bytes : List ℕ) (place size : ℕ) → AreBytes bytes → AreBytes (take size (drop place bytes))
piece-bytes bytes place size all = AreBytes-take (drop place bytes) size (AreBytes-drop bytes place all)

piece-at : (bytes : List ℕ) (place size i : ℕ) → i < size
    → get_or (take size (drop place bytes)) i 0 ≡ get_or bytes (place + i) 0
piece-at bytes place size i inside = get_or-take size (drop place bytes) i 0 inside ∙ get_or-drop place bytes i 0

-- ---- a number depends on its bytes alone

-- two lists have the same bytes at so many places
pub record HaveSame (before after : List ℕ) (place size : ℕ) : Type 0 where
  pub same : (k : ℕ) → place ≤ k → k < place + size → get_or after k 0 ≡ get_or before k 0

-- bytes that are followed by others
pub HaveSame-front : (front rest : List ℕ) (place size : ℕ) → place + size ≤ length front
    → HaveSame front (front ++ rest) place size
HaveSame-front front rest place size within = record {
  same = λ k low high. get_or_append_left front rest 0 k (omega arith);
}

-- and so at fewer places
pub HaveSame-part : (before after : List ℕ) (start count place size : ℕ) → start ≤ place → place + size ≤ start + count
    → HaveSame before after start count → HaveSame before after place size
HaveSame-part before after start count place size low high have = record {
  same = λ k from to. have.same k (omega arith) (omega arith);
}

piece-same : (before after : List ℕ) (place size i : ℕ) → HaveSame before after place size → i < size
    → get_or (take size (drop place after)) i 0 ≡ get_or (take size (drop place before)) i 0
piece-same before after place size i have inside =
    piece-at after place size i inside ∙ have.same (place + i) (omega arith) (omega arith) ∙ sym (piece-at before place size i inside)

pub le16_at-same : (before after : List ℕ) (place : ℕ) → HaveSame before after place 2
    → le16_at after place ≡ le16_at before place
unfolding le16_at
le16_at-same before after place have =
    let byte = λ (i : ℕ) (inside : i < 2). piece-same before after place 2 i have inside in
    rw (byte 0 (omega arith), byte 1 (omega arith)) refl

pub le32_at-same : (before after : List ℕ) (place : ℕ) → HaveSame before after place 4
    → le32_at after place ≡ le32_at before place
unfolding le32_at
le32_at-same before after place have =
    let byte = λ (i : ℕ) (inside : i < 4). piece-same before after place 4 i have inside in
    rw (byte 0 (omega arith), byte 1 (omega arith), byte 2 (omega arith), byte 3 (omega arith)) refl

pub le64_at-same : (before after : List ℕ) (place : ℕ) → HaveSame before after place 8
    → le64_at after place ≡ le64_at before place
unfolding le64_at
le64_at-same before after place have =
    let byte = λ (i : ℕ) (inside : i < 8). piece-same before after place 8 i have inside in
    rw (
      byte 0 (omega arith),
      byte 1 (omega arith),
      byte 2 (omega arith),
      byte 3 (omega arith),
      byte 4 (omega arith),
      byte 5 (omega arith),
      byte 6 (omega arith),
      byte 7 (omega arith),
    ) refl

pub be16_at-same : (before after : List ℕ) (place : ℕ) → HaveSame before after place 2
    → be16_at after place ≡ be16_at before place
unfolding be16_at
be16_at-same before after place have =
    let byte = λ (i : ℕ) (inside : i < 2). piece-same before after place 2 i have inside in
    rw (byte 0 (omega arith), byte 1 (omega arith)) refl

pub be32_at-same : (before after : List ℕ) (place : ℕ) → HaveSame before after place 4
    → be32_at after place ≡ be32_at before place
unfolding be32_at
be32_at-same before after place have =
    let byte = λ (i : ℕ) (inside : i < 4). piece-same before after place 4 i have inside in
    rw (byte 0 (omega arith), byte 1 (omega arith), byte 2 (omega arith), byte 3 (omega arith)) refl

-- ---- the bytes of a number give it

pub le16_at-bytes : (bytes : List ℕ) (place n : ℕ) → take 2 (drop place bytes) ≡ to_le_bytes w16 n → n < 2 ^ 16
    → le16_at bytes place ≡ n
unfolding le16_at
le16_at-bytes bytes place n spelled fits = rw spelled (from_le_bytes-to_le_bytes_2 n fits)

pub le32_at-bytes : (bytes : List ℕ) (place n : ℕ) → take 4 (drop place bytes) ≡ to_le_bytes w32 n → n < 2 ^ 32
    → le32_at bytes place ≡ n
unfolding le32_at
le32_at-bytes bytes place n spelled fits = rw spelled (from_le_bytes-to_le_bytes_4 n fits)

pub le64_at-bytes : (bytes : List ℕ) (place n : ℕ) → take 8 (drop place bytes) ≡ to_le_bytes w64 n → n < 2 ^ 64
    → le64_at bytes place ≡ n
unfolding le64_at
le64_at-bytes bytes place n spelled fits = rw spelled (from_le_bytes-to_le_bytes_8 n fits)

-- ---- a number has so many bits, and its bytes are those at its place

below_16 : (a b : ℕ) → a < 256 → b < 256 → a + b * 256 < 2 ^ 16
below_16 a b p q = omega arith

below_32 : (a b c d : ℕ) → a < 256 → b < 256 → c < 256 → d < 256 → a + b * 256 + c * 256 ^ 2 + d * 256 ^ 3 < 2 ^ 32
below_32 a b c d p q r s = omega arith

below_64 : (a b c d e f g h : ℕ) → a < 256 → b < 256 → c < 256 → d < 256 → e < 256 → f < 256 → g < 256 → h < 256
    → a + b * 256 + c * 256 ^ 2 + d * 256 ^ 3 + e * 256 ^ 4 + f * 256 ^ 5 + g * 256 ^ 6 + h * 256 ^ 7 < 2 ^ 64
below_64 a b c d e f g h p q r s t u v w = omega arith

pub le16_at-below : (bytes : List ℕ) (place : ℕ) → AreBytes bytes → le16_at bytes place < 2 ^ 16
unfolding le16_at
le16_at-below bytes place all = let piece = piece-bytes bytes place 2 all in below_16 _ _ (piece.below 0) (piece.below 1)

pub le32_at-below : (bytes : List ℕ) (place : ℕ) → AreBytes bytes → le32_at bytes place < 2 ^ 32
unfolding le32_at
le32_at-below bytes place all =
    let piece = piece-bytes bytes place 4 all in below_32 _ _ _ _ (piece.below 0) (piece.below 1) (piece.below 2) (piece.below 3)

pub le64_at-below : (bytes : List ℕ) (place : ℕ) → AreBytes bytes → le64_at bytes place < 2 ^ 64
unfolding le64_at
le64_at-below bytes place all =
    let piece = piece-bytes bytes place 8 all in
    below_64 _ _ _ _ _ _ _ _ (piece.below 0) (piece.below 1) (piece.below 2) (piece.below 3)
    (piece.below 4) (piece.below 5) (piece.below 6) (piece.below 7)

pub to_le_bytes-le16_at : (bytes : List ℕ) (place : ℕ) → AreBytes bytes → place + 2 ≤ length bytes
    → to_le_bytes w16 (le16_at bytes place) ≡ take 2 (drop place bytes)
unfolding le16_at
to_le_bytes-le16_at bytes place all fits =
    le_bytes_2 (take 2 (drop place bytes)) _ (piece-length bytes place 2 fits) (piece-bytes bytes place 2 all).below refl

pub to_le_bytes-le32_at : (bytes : List ℕ) (place : ℕ) → AreBytes bytes → place + 4 ≤ length bytes
    → to_le_bytes w32 (le32_at bytes place) ≡ take 4 (drop place bytes)
unfolding le32_at
to_le_bytes-le32_at bytes place all fits =
    le_bytes_4 (take 4 (drop place bytes)) _ (piece-length bytes place 4 fits) (piece-bytes bytes place 4 all).below refl

pub to_le_bytes-le64_at : (bytes : List ℕ) (place : ℕ) → AreBytes bytes → place + 8 ≤ length bytes
    → to_le_bytes w64 (le64_at bytes place) ≡ take 8 (drop place bytes)
unfolding le64_at
to_le_bytes-le64_at bytes place all fits =
    le_bytes_8 (take 8 (drop place bytes)) _ (piece-length bytes place 8 fits) (piece-bytes bytes place 8 all).below refl
