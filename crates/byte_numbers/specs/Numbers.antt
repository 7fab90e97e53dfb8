-- Numbers in bytes, at a place counted from 0: little endian (Virtio 1.4 draft, "Structure Specifications"), and big
-- endian, as captures have them.
use Rattle.std.specs.Prelude.{ℕ, List, take, drop}
use Rattle.std.specs.Int.{w16, w32, w64, from_le_bytes, from_be_bytes}

-- the 16-bit number whose first byte, the lowest, is at the place
unfoldable pub le16_at : List ℕ → ℕ → ℕ
le16_at bytes place = from_le_bytes w16 (take 2 (drop place bytes))

-- the 32-bit number whose first byte, the lowest, is at the place
unfoldable pub le32_at : List ℕ → ℕ → ℕ
le32_at bytes place = from_le_bytes w32 (take 4 (drop place bytes))

-- the 64-bit number whose first byte, the lowest, is at the place
unfoldable pub le64_at : List ℕ → ℕ → ℕ
le64_at bytes place = from_le_bytes w64 (take 8 (drop place bytes))

-- the 16-bit number whose first byte, the highest, is at the place
unfoldable pub be16_at : List ℕ → ℕ → ℕ
be16_at bytes place = from_be_bytes w16 (take 2 (drop place bytes))

-- the 32-bit number whose first byte, the highest, is at the place
unfoldable pub be32_at : List ℕ → ℕ → ℕ
be32_at bytes place = from_be_bytes w32 (take 4 (drop place bytes))
