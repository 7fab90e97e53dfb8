-- A chain of buffers: how much it has at most, and how a reply is written into its writable pieces. This project's own.
use Rattle.std.specs.Prelude.{ℕ, ◌+◌, ◌≤◌, List, [], ◌∷◌, take, drop, sum_by}
use Rattle.std.specs.List.{Any, flat_map}
use Rattle.guest_mem.specs.Memory.{bytes_at, with_bytes, IsInRange}
use Rattle.split_queue.specs.declared.chain.Piece.{Piece}

-- how many descriptors a chain has at most, and how many readable bytes
abbrev pub most_descriptors : ℕ
most_descriptors = 64

abbrev pub most_readable : ℕ
most_readable = 1024

-- the sum of the pieces' lengths
abbrev pub room_of : List Piece → ℕ
room_of pieces = sum_by (λ p. p.len) pieces

-- the piece lies in a memory of so many bytes
abbrev pub PieceLiesIn : ℕ → Piece → Type 0
PieceLiesIn mem_len piece = piece.addr + piece.len ≤ mem_len

-- the bytes of the pieces, joined
abbrev pub bytes_in : List ℕ → List Piece → List ℕ
bytes_in mem pieces = flat_map (λ p. bytes_at mem p.addr p.len) pieces

-- the memory with the bytes in the pieces, in their order, until the bytes or the pieces end
abbrev pub with_bytes_in : List ℕ → List Piece → List ℕ → List ℕ
with_bytes_in mem [] bytes = mem
with_bytes_in mem (piece ∷ pieces) bytes =
    with_bytes_in (with_bytes mem piece.addr (take piece.len bytes)) pieces (drop piece.len bytes)

-- the address lies in the piece
abbrev pub IsInPiece : ℕ → Piece → Type 0
IsInPiece addr piece = IsInRange piece.addr piece.len addr

-- the pieces share no byte
abbrev pub AreApart : Piece → Piece → Type 0
AreApart one other = (addr : ℕ) → IsInPiece addr one → ¬ IsInPiece addr other

-- the address lies in one of the pieces
abbrev pub IsInPieces : List Piece → ℕ → Type 0
IsInPieces pieces addr = Any (IsInPiece addr) pieces
