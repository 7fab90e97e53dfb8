-- Bytes that are cut into pieces.
use Rattle.std.proofs.Common.{◌≡◌, ℕ, zero, suc, ◌+◌, ◌-◌, ◌*◌, ◌<◌, ◌≤◌, min, List, [], ◌∷◌, ◌++◌, length, length-append, take, drop, refl, sym, ap, ◌∙◌, arith}
use Rattle.std.proofs.Math.Nat.{suc-mul}
use Rattle.std.proofs.Math.Seq.{take-add}
use Rattle.std.specs.Int.{div_ceil}
use Rattle.std.specs.List.{All, AllPairs}
use Rattle.std.proofs.lemmas.List.{append-nil, append_assoc, drop-drop}
use Rattle.std.proofs.lemmas.List.Elements.{All-nil, All-cons}
use Rattle.std.proofs.lemmas.List.Kept.{AllPairs-cons}
use Rattle.std.proofs.lemmas.List.Sums.{sum_by-cons}
use Rattle.guest_mem.specs.Memory.{bytes_at}
use Rattle.split_queue.specs.Chains.{room_of, bytes_in, AreApart}
use Rattle.split_queue.specs.declared.chain.Piece.{Piece}
use Rattle.steer.specs.BenchPlaces.{pieces_from, cut_pieces}

pub length-pieces_from : (addr len step n : ℕ) → length (pieces_from addr len step n) ≡ n
length-pieces_from addr len step zero = refl
length-pieces_from addr len step (suc n) = ap suc (length-pieces_from (addr + min step len) (len - min step len) step n)

-- one piece less is enough for `step` bytes less
enough-later : (len step n : ℕ) → len ≤ suc n * step → len - min step len ≤ n * step
enough-later len step n enough = let e : suc n * step ≡ n * step + step = suc-mul n step in omega (arith, e, enough)

-- the pieces have room for just the bytes
pub room_of-pieces_from : (addr len step n : ℕ) → len ≤ n * step → room_of (pieces_from addr len step n) ≡ len
room_of-pieces_from addr len step zero enough = omega (arith, enough)
room_of-pieces_from addr len step (suc n) enough =
    let part = min step len in
    let first : Piece = record { addr = addr; len = part } in
    let later = room_of-pieces_from (addr + part) (len - part) step n (enough-later len step n enough) in
    let sum = sum_by-cons (λ (p : Piece). p.len) first (pieces_from (addr + part) (len - part) step n) in
    sum ∙ ap (λ k. part + k) later ∙ omega arith

-- the joined bytes of the pieces are the bytes
bytes_at-cut : (mem : List ℕ) (addr len part : ℕ) → part ≤ len → bytes_at mem addr part ++ bytes_at mem (addr + part) (len - part) ≡ bytes_at mem addr len
bytes_at-cut mem addr len part short =
    let whole : part + (len - part) ≡ len = omega (arith, short) in
    ap (λ xs. take part (drop addr mem) ++ take (len - part) xs) (sym (drop-drop part addr mem))
    ∙ sym (take-add part (len - part) (drop addr mem)) ∙ ap (λ n. take n (drop addr mem)) whole

pub bytes_in-pieces_from : (mem : List ℕ) (addr len step n : ℕ) → len ≤ n * step → bytes_in mem (pieces_from addr len step n) ≡ bytes_at mem addr len
bytes_in-pieces_from mem addr len step zero enough = let none : len ≡ 0 = omega (arith, enough) in rw none refl
bytes_in-pieces_from mem addr len step (suc n) enough =
    let part = min step len in
    ap (λ xs. bytes_at mem addr part ++ xs) (bytes_in-pieces_from mem (addr + part) (len - part) step n (enough-later len step n enough))
    ∙ bytes_at-cut mem addr len part (omega arith)

-- each piece lies in the bytes
module _ (P : Piece → Type 0) (low high : ℕ) (each : (p : Piece) → low ≤ p.addr → p.addr + p.len ≤ high → P p) where
  pub pieces_from-within : (addr len step n : ℕ) → low ≤ addr → addr + len ≤ high → All P (pieces_from addr len step n)
  pieces_from-within addr len step zero behind inside = All-nil P
  pieces_from-within addr len step (suc n) behind inside =
      let part = min step len in
      let first : Piece = record { addr = addr; len = part } in
      All-cons P first (pieces_from (addr + part) (len - part) step n) (each first behind (omega (arith, inside)))
      (pieces_from-within (addr + part) (len - part) step n (omega (arith, behind)) (omega (arith, inside)))

-- the pieces lie apart
pub pieces_from-apart : (addr len step n : ℕ) → AllPairs AreApart (pieces_from addr len step n)
pieces_from-apart addr len step zero = λ i j d before below. absurd (omega (arith, below))
pieces_from-apart addr len step (suc n) =
    let part = min step len in
    let first : Piece = record { addr = addr; len = part } in
    let rest = pieces_from (addr + part) (len - part) step n in
    let apart : (p : Piece) → addr + part ≤ p.addr → p.addr + p.len ≤ addr + len → AreApart first p =
    λ p behind inside at here there. absurd (omega (arith, behind, here.1, there.0)) in
    AllPairs-cons AreApart first rest
    (pieces_from-within (AreApart first) (addr + part) (addr + len) apart (addr + part) (len - part) step n (omega arith) (omega arith))
    (pieces_from-apart (addr + part) (len - part) step n)

-- ---- pieces are added one by one

-- so many of the pieces were added: the bytes from `start` on are left, and cut into the others they complete them
pub record IsCutting (old : List Piece) (addr len step i : ℕ) (now : List Piece) (start rest : ℕ) : Type 0 where
  pub completes : now ++ pieces_from start rest step (div_ceil len step - i) ≡ old ++ cut_pieces addr len step
  pub inside : start + rest ≡ addr + len
  pub count : length now ≡ length old + i

module _ (old : List Piece) (addr len step : ℕ) where
  pub cutting-none : IsCutting old addr len step 0 old addr len
  cutting-none =
      let all : div_ceil len step - 0 ≡ div_ceil len step = omega arith in
      record { completes = ap (λ n. old ++ pieces_from addr len step n) all; inside = refl; count = omega arith }

  pub cutting-more : (i : ℕ) (now : List Piece) (start rest part : ℕ) → i < div_ceil len step → part ≡ min rest step → IsCutting old addr len step i now start rest
      → IsCutting old addr len step (i + 1) (now ++ record { addr = start; len = part } ∷ []) (start + part) (rest - part)
  cutting-more i now start rest part below is so_far =
      let n = div_ceil len step in
      let more : n - i ≡ suc (n - (i + 1)) = omega (arith, below) in
      let first : part ≡ min step rest = omega (arith, is) in
      let piece : Piece = record { addr = start; len = part } in
      let later = pieces_from (start + part) (rest - part) step (n - (i + 1)) in
      let cut : pieces_from start rest step (n - i) ≡ piece ∷ later = rw (more, first) refl in
      record {
        completes = append_assoc now (piece ∷ []) later ∙ ap (λ xs. now ++ xs) (sym cut) ∙ so_far.completes;
        inside = omega (arith, so_far.inside, is);
        count = omega (arith, so_far.count, length-append now (piece ∷ []));
      }

  pub cutting-all : (i : ℕ) (now : List Piece) (start rest : ℕ) → i ≡ div_ceil len step → IsCutting old addr len step i now start rest → now ≡ old ++ cut_pieces addr len step
  cutting-all i now start rest is all =
      let none : div_ceil len step - i ≡ 0 = omega (arith, is) in
      let last : pieces_from start rest step (div_ceil len step - i) ≡ [] = rw none refl in
      sym (append-nil now) ∙ ap (λ xs. now ++ xs) (sym last) ∙ all.completes
