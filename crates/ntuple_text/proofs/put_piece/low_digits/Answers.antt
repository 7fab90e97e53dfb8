-- The powers of a base are those of 16 bits at most, and each digit follows the one above it.
use Rattle.std.proofs.Common.{◌≡◌, suc, ◌≤◌, ◌-◌, ◌/◌, ◌%◌, ◌^◌, [], ◌∷◌, ◌++◌, length, length-append, ap, arith, subst, ◌∙◌}
use Rattle.std.proofs.Math.Nat.{one-le-pow, pow-le-pow_left, pow-le-pow_right}
use Rattle.ntuple_text.specs.SpecTexts.{low_digits}
use Rattle.ntuple_text.proofs.DigitLemmas.{digits-step}
use Rattle.ntuple_text.proofs.put_piece.low_digits.Goals as goal

pub pow-requires : goal.pow-requires
pow-requires c =
    let place = c.loop-place.place in
    let few : place ≤ 7 = omega (arith, c.requires.few, c.loop-place.invariant.fits) in
    let most : 65536 ^ place ≤ 65536 ^ 7 = pow-le-pow_right {n = 65536} (omega arith) few in
    omega (arith, most, pow-le-pow_left c.requires.base place)

pub nonzero_div-number : goal.nonzero_div-number
nonzero_div-number c =
    omega (arith, c.pow.ensures, one-le-pow c.loop-place.place c.args.base (omega (arith, c.requires.some)))

pub loop-place-preserved : goal.loop-place-preserved
loop-place-preserved c =
    let base = c.args.base in
    let number = c.args.number in
    let front = c.loop-place.digits.items in
    let digits = c.push.new.self.items in
    let is : c.loop-place.place ≡ suc (c.loop-place.place - 1) = omega (arith, c.loop-place-test.true) in
    let more : digits ≡ front ++ (number / base ^ c.loop-place.place % base) ∷ [] =
    c.push.ensures.items ∙ ap (λ power. front ++ (number / power % base) ∷ []) c.pow.ensures in
    record {
      same = digits-step base number (c.loop-place.place - 1) front digits (low_digits base c.args.highest number) (subst (λ k. digits ≡ front ++ (number / base ^ k % base) ∷ []) is more) (subst (λ k. front ++ low_digits base k number ≡ low_digits base c.args.highest number) is c.loop-place.invariant.same);
      fits = omega (arith, is, c.loop-place.invariant.fits, ap length c.push.ensures.items, length-append front ((number / c.pow.result % base) ∷ []));
    }
