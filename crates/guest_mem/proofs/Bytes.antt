-- What is read of a memory, and what is written into it.
use Rattle.std.proofs.Common.{◌≡◌, ℕ, ◌+◌, ◌-◌, ◌<◌, ◌≤◌, inl, inr, List, ◌++◌, length, length-append, length-take, length-drop, take, drop, get_or, refl, sym, ap, ◌∙◌, min, arith}
use Rattle.std.proofs.lemmas.Bool.{cases_lt}
use Rattle.std.proofs.lemmas.List.{append_assoc, length-take-le, take_at, drop_at, get_or-take, get_or-drop, get_or_append_left, get_or-append_right, ext_get_or}
use Rattle.guest_mem.specs.Memory.{bytes_at, with_bytes, ChangesOnly, IsInRange, WritesAt}

-- ---- a read depends on its bytes alone

length-bytes_at : (mem : List ℕ) (addr count : ℕ) → length (bytes_at mem addr count) ≡ min count (length mem - addr)
length-bytes_at mem addr count = length-take count (drop addr mem) ∙ ap (min count) (length-drop addr mem)

pub get_or-bytes_at : (mem : List ℕ) (addr count i : ℕ) → i < count → get_or (bytes_at mem addr count) i 0 ≡ get_or mem (addr + i) 0
get_or-bytes_at mem addr count i below = get_or-take count (drop addr mem) i 0 below ∙ get_or-drop addr mem i 0

pub bytes_at-same : (before after : List ℕ) (addr count : ℕ) → length after ≡ length before → ((k : ℕ) → addr ≤ k → k < addr + count → get_or after k 0 ≡ get_or before k 0) → bytes_at after addr count ≡ bytes_at before addr count
bytes_at-same before after addr count size same =
    let len_after = length-bytes_at after addr count in
    let len_before = length-bytes_at before addr count in
    ext_get_or 0 (bytes_at after addr count) (bytes_at before addr count) (omega (arith, len_after, len_before, size)) (λ i below.
    let within : i < count = omega (arith, len_after, below) in
    get_or-bytes_at after addr count i within ∙ same (addr + i) (omega arith) (omega arith) ∙ sym (get_or-bytes_at before addr count i within))

-- ---- bytes that were written are read back, and nothing else changed

module _ (mem : List ℕ) (addr : ℕ) (bytes : List ℕ) (inside : addr + length bytes ≤ length mem) where
  abbrev rest : List ℕ
  rest = drop (addr + length bytes) mem

  front : length (take addr mem) ≡ addr
  front = length-take-le addr mem (omega arith)

  head : length (take addr mem ++ bytes) ≡ addr + length bytes
  head = omega (arith, front, length-append (take addr mem) bytes)

  pub bytes_at-with_bytes : bytes_at (with_bytes mem addr bytes) addr (length bytes) ≡ bytes
  bytes_at-with_bytes =
      ap (λ xs. take (length bytes) (drop addr xs)) (append_assoc (take addr mem) bytes rest)
      ∙ ap (take (length bytes)) (drop_at (take addr mem) (bytes ++ rest) addr front) ∙ take_at bytes rest (length bytes) refl

  pub with_bytes-changes : ChangesOnly mem (with_bytes mem addr bytes) (IsInRange addr (length bytes))
  with_bytes-changes =
      let tail : length rest ≡ length mem - (addr + length bytes) = length-drop (addr + length bytes) mem in
      record {
        size = omega (arith, head, tail, length-append (take addr mem ++ bytes) rest);
        others = λ k out. elim (cases_lt k addr) [
          | inl l ↦
              let early : k < length (take addr mem) = omega (arith, front) in
              let within : k < length (take addr mem ++ bytes) = omega (arith, head) in
              get_or_append_left (take addr mem ++ bytes) rest 0 k within ∙ get_or_append_left (take addr mem) bytes 0 k early ∙ get_or-take addr mem k 0 l
          | inr g ↦ elim (cases_lt k (addr + length bytes)) [
            | inl within ↦ absurd (out (g, within))
            | inr past ↦
                let same : addr + length bytes + (k - (addr + length bytes)) ≡ k = omega arith in
                get_or-append_right (take addr mem ++ bytes) rest (addr + length bytes) k 0 head past
                ∙ get_or-drop (addr + length bytes) mem (k - (addr + length bytes)) 0 ∙ ap (λ i. get_or mem i 0) same
          ]
        ];
      }

-- after a write each byte is there, and the others are as before
pub with_bytes-writes : (mem after : List ℕ) (addr : ℕ) (bytes : List ℕ) → addr + length bytes ≤ length mem → after ≡ with_bytes mem addr bytes → WritesAt mem after addr bytes
with_bytes-writes mem after addr bytes inside is = rw is (record {
  here = λ k below. sym (get_or-bytes_at (with_bytes mem addr bytes) addr (length bytes) k below) ∙ ap (λ xs. get_or xs k 0) (bytes_at-with_bytes mem addr bytes inside);
  only = with_bytes-changes mem addr bytes inside;
})
