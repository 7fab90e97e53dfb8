-- A field agrees with what is given for it exactly where it equals the key's field under the mask's.
use Rattle.std.proofs.Common.{◌≡◌, ℕ, ◌+◌, ◌-◌, ◌^◌, ◌<◌, eqb, Option, Some, None, refl, sym, ap, ◌∙◌, arith, bit_and, bit_or}
use Rattle.std.specs.Int.Bits.{and_self, and_zero_r, or_add_and}
use Rattle.std.proofs.Math.Nat.{add_right_cancel}
use Rattle.std.proofs.lemmas.Nat.{pow_pos, and_le_r, and_comm, and_assoc, and-not}
use Rattle.std.proofs.lemmas.Bool.Decides.{Decides-eqb, Decides-like, same_from_decides}
use Rattle.ntuple_text.specs.declared.spec.Part.{Part}
use Rattle.ntuple_compile.specs.SpecFits.{agrees}
use Rattle.ntuple_compile.specs.Selected.{IsPartOf, mask_field, key_field}

pub mask_fits : (bits : ℕ) (given : Option Part) → IsPartOf bits given → mask_field bits given < 2 ^ bits
mask_fits bits None part = pow_pos bits
mask_fits bits (Some part) h = omega (arith, pow_pos bits)

pub key_fits : (bits : ℕ) (given : Option Part) → IsPartOf bits given → key_field bits given < 2 ^ bits
key_fits bits None part = pow_pos bits
key_fits bits (Some part) h = omega (arith, and_le_r part.value (mask_field bits (Some part)), mask_fits bits (Some part) h)

-- a number with its skipped bits set is what the mask has of it, and these bits
or_skip : (bits skip x : ℕ) → skip < 2 ^ bits → x < 2 ^ bits → bit_or x skip ≡ bit_and x (2 ^ bits - 1 - skip) + skip
or_skip bits skip x ks kx =
    let both = or_add_and x skip in
    let parts = and-not bits skip x ks kx in
    let swap = and_comm (2 ^ bits - 1 - skip) x in
    let swap' = and_comm skip x in
    omega (arith, both, parts, swap, swap')

pub field_agrees : (bits : ℕ) (given : Option Part) (x : ℕ) → IsPartOf bits given → x < 2 ^ bits → eqb (bit_and x (mask_field bits given)) (bit_and (key_field bits given) (mask_field bits given)) ≡ agrees given x
field_agrees bits None x h below = rw (and_zero_r x) refl
field_agrees bits (Some part) x h below =
    let m = 2 ^ bits - 1 - part.skip in
    let twice : bit_and (bit_and part.value m) m ≡ bit_and part.value m = and_assoc m part.value m ∙ ap (λ n. bit_and part.value n) (and_self m) in
    let of_x = or_skip bits part.skip x h.1 below in
    let of_value = or_skip bits part.skip part.value h.1 h.0 in
    let left = eqb (bit_and x m) (bit_and part.value m) in
    let to : bit_and x m ≡ bit_and part.value m → bit_or part.value part.skip ≡ bit_or x part.skip = (λ e. of_value ∙ ap (λ n. n + part.skip) (sym e) ∙ sym of_x) in
    let from : bit_or part.value part.skip ≡ bit_or x part.skip → bit_and x m ≡ bit_and part.value m = (λ e. add_right_cancel part.skip (sym of_x ∙ sym e ∙ of_value)) in
    rw twice (same_from_decides left (agrees (Some part) x) (Decides-like left to from (Decides-eqb (bit_and x m) (bit_and part.value m))) (Decides-eqb (bit_or part.value part.skip) (bit_or x part.skip)))
