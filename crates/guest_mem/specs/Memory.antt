-- Guest memory as a list of bytes. This project's own.
use Rattle.std.specs.Prelude.{◌≡◌, ℕ, ◌+◌, ◌<◌, ◌≤◌, ◌++◌, nat_le, if◌then◌else◌, List, length, take, drop, slice_index, Result, Ok, Err, ⊤}
use Rattle.guest_mem.specs.declared.error.MemErr.{MemErr}
use Rattle.guest_mem.specs.declared.error.MemErr.TheVariants.{Outside}

-- what a read or write of so many bytes at an address answers: they lie in the memory, or pass its end. The sum is one
-- of numbers and never wraps.
abbrev pub access_answer : List ℕ → ℕ → ℕ → Result ⊤ MemErr
access_answer mem addr count = if nat_le (addr + count) (length mem) then Ok tt else Err (Outside addr count)

-- so many bytes at an address
abbrev pub bytes_at : List ℕ → ℕ → ℕ → List ℕ
bytes_at mem addr count = take count (drop addr mem)

-- the memory with these bytes at an address
abbrev pub with_bytes : List ℕ → ℕ → List ℕ → List ℕ
with_bytes mem addr bytes = take addr mem ++ bytes ++ drop (addr + length bytes) mem

-- the address is one of so many from `start` on
abbrev pub IsInRange : ℕ → ℕ → ℕ → Type 0
IsInRange start count addr = (start ≤ addr) × (addr < start + count)

-- after has as many bytes as before, and at each address of which the fact doesn't hold the same one: only bytes of
-- which it holds are changed
pub record ChangesOnly (before after : List ℕ) (IsChanged : ℕ → Type 0) : Type 0 where
  pub size : length after ≡ length before
  pub others : (addr : ℕ) → ¬ IsChanged addr → slice_index after addr ≡ slice_index before addr

-- after has the bytes at the address, and everywhere else what before has
pub record WritesAt (before after : List ℕ) (addr : ℕ) (bytes : List ℕ) : Type 0 where
  pub here : (k : ℕ) → k < length bytes → slice_index after (addr + k) ≡ slice_index bytes k
  pub only : ChangesOnly before after (IsInRange addr (length bytes))
