-- From bytes that were read back to the fields that they spell, from right to left.
use Rattle.std.proofs.Common.{◌≡◌, ℕ, ◌+◌, ◌%◌, ◌^◌, ◌<◌, ◌≤◌, ◌∙◌, sym, ap, subst, refl, arith, List, [], ◌∷◌, ◌++◌, length, get_or, take, drop}
use Rattle.std.specs.Int.{w8, w16, w32, w64, to_le_bytes}
use Rattle.std.proofs.lemmas.List.{take-append-drop, drop-drop, drop_more}
use Rattle.byte_numbers.proofs.NumberLaws.{AreBytes, piece-length, le16_at-below, le32_at-below, le64_at-below, to_le_bytes-le16_at, to_le_bytes-le32_at, to_le_bytes-le64_at}
use Rattle.admin_wire.specs.Fields.{Field, number, reserved, raw, Spells}
use Rattle.byte_numbers.specs.Numbers.{le16_at, le32_at, le64_at}

-- so many bytes at a place, and what follows
parts : (bytes : List ℕ) (place size : ℕ) → drop place bytes ≡ take size (drop place bytes) ++ drop (place + size) bytes
parts bytes place size = rw (← drop-drop size place bytes) (sym (take-append-drop size (drop place bytes)))

-- from a place on the bytes spell these fields, and then the end
pub record Spelled (bytes : List ℕ) (place : ℕ) (fields : List Field) (end : List ℕ) : Type 0 where
  pub spells : Spells (drop place bytes) fields end

pub spell_end : {bytes : List ℕ} {place : ℕ} → Spelled bytes place [] (drop place bytes)
spell_end {bytes} {place} = record { spells = refl }

pub spell_16 : {bytes : List ℕ} {place n : ℕ} {fields : List Field} {end : List ℕ} → AreBytes bytes
    → place + 2 ≤ length bytes
    → le16_at bytes place ≡ n → Spelled bytes (place + 2) fields end → Spelled bytes place (number w16 n ∷ fields) end
spell_16 {bytes} {place} {n} all fits is more = record {
  spells = (
    subst (λ m. m < 2 ^ 16) is (le16_at-below bytes place all),
    (
      drop (place + 2) bytes,
      parts bytes place 2 ∙ ap (λ xs. xs ++ drop (place + 2) bytes)
          (sym (to_le_bytes-le16_at bytes place all fits) ∙ ap (to_le_bytes w16) is),
      more.spells,
    ),
  );
}

pub spell_32 : {bytes : List ℕ} {place n : ℕ} {fields : List Field} {end : List ℕ} → AreBytes bytes
    → place + 4 ≤ length bytes
    → le32_at bytes place ≡ n → Spelled bytes (place + 4) fields end → Spelled bytes place (number w32 n ∷ fields) end
spell_32 {bytes} {place} {n} all fits is more = record {
  spells = (
    subst (λ m. m < 2 ^ 32) is (le32_at-below bytes place all),
    (
      drop (place + 4) bytes,
      parts bytes place 4 ∙ ap (λ xs. xs ++ drop (place + 4) bytes)
          (sym (to_le_bytes-le32_at bytes place all fits) ∙ ap (to_le_bytes w32) is),
      more.spells,
    ),
  );
}

pub spell_64 : {bytes : List ℕ} {place n : ℕ} {fields : List Field} {end : List ℕ} → AreBytes bytes
    → place + 8 ≤ length bytes
    → le64_at bytes place ≡ n → Spelled bytes (place + 8) fields end → Spelled bytes place (number w64 n ∷ fields) end
spell_64 {bytes} {place} {n} all fits is more = record {
  spells = (
    subst (λ m. m < 2 ^ 64) is (le64_at-below bytes place all),
    (
      drop (place + 8) bytes,
      parts bytes place 8 ∙ ap (λ xs. xs ++ drop (place + 8) bytes)
          (sym (to_le_bytes-le64_at bytes place all fits) ∙ ap (to_le_bytes w64) is),
      more.spells,
    ),
  );
}

pub spell_8 : {bytes : List ℕ} {place n : ℕ} {fields : List Field} {end : List ℕ} → AreBytes bytes
    → place + 1 ≤ length bytes
    → get_or bytes place 0 ≡ n → Spelled bytes (place + 1) fields end → Spelled bytes place (number w8 n ∷ fields) end
spell_8 {bytes} {place} {n} all fits is more =
    let small : n < 256 = subst (λ m. m < 256) is (all.below place) in
    let whole : n % 256 ≡ n = omega arith in
    record {
      spells = (
        small,
        (
          drop (place + 1) bytes,
          drop_more bytes place 0 (omega arith) ∙ ap (λ m. m ∷ drop (place + 1) bytes) (is ∙ sym whole),
          more.spells,
        ),
      );
    }

pub spell_reserved : {bytes : List ℕ} {place count : ℕ} {fields : List Field} {end : List ℕ}
    → place + count ≤ length bytes
    → Spelled bytes (place + count) fields end → Spelled bytes place (reserved count ∷ fields) end
spell_reserved {bytes} {place} {count} fits more = record {
  spells = (take count (drop place bytes), drop (place + count) bytes, piece-length bytes place count fits, parts bytes place count, more.spells);
}

pub spell_raw : {bytes : List ℕ} {place : ℕ} {given : List ℕ} {fields : List Field} {end : List ℕ}
    → take (length given) (drop place bytes) ≡ given → Spelled bytes (place + length given) fields end
    → Spelled bytes place (raw given ∷ fields) end
spell_raw {bytes} {place} {given} is more = record {
  spells = (
    drop (place + length given) bytes,
    parts bytes place (length given) ∙ ap (λ xs. xs ++ drop (place + length given) bytes) is,
    more.spells,
  );
}

-- the spelling of one list of fields, and then of another
pub Spells-join : (bytes : List ℕ) (fields more : List Field) (mid rest : List ℕ) → Spells bytes fields mid
    → Spells mid more rest
    → Spells bytes (fields ++ more) rest
Spells-join bytes [] more mid rest s t = subst (λ xs. Spells xs more rest) (sym s) t
Spells-join bytes (number width n ∷ fields) more mid rest s t =
    (s.0, (s.1.0, s.1.1, Spells-join s.1.0 fields more mid rest s.1.2 t))
Spells-join bytes (reserved count ∷ fields) more mid rest s t =
    (s.0, s.1, s.2, s.3, Spells-join s.1 fields more mid rest s.4 t)
Spells-join bytes (raw given ∷ fields) more mid rest s t = (s.0, s.1, Spells-join s.0 fields more mid rest s.2 t)
