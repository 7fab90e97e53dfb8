-- A given field agrees bit by bit, and the first spec of a list that fits is the one at the least location.
use Rattle.std.proofs.Common.{◌≡◌, ℕ, zero, suc, ◌<◌, max, Bool, true, false, List, [], ◌∷◌, get_or, Option, Some, None, refl, sym, ap, ◌∙◌, subst, arith, ◌⊎◌, inl, inr, bit_or}
use Rattle.std.specs.Prelude.{IsTrue, ◌↔◌, filter_map}
use Rattle.std.specs.Int.{bit_at}
use Rattle.std.proofs.lemmas.Bool.{false_from_ne_true, false≢true}
use Rattle.std.proofs.lemmas.Bool.Decides.{Decides-eqb}
use Rattle.std.proofs.lemmas.Nat.Bits.{bit_at_or, bit_at-lt, same_from_bits}
use Rattle.ff_headers.specs.Frames.{HeaderBytes}
use Rattle.ff_headers.specs.declared.rule.Action.TheVariants as action
use Rattle.ntuple_text.specs.TableMaps.{TableMap}
use Rattle.ntuple_text.specs.declared.spec.Part.{Part}
use Rattle.ntuple_text.specs.declared.spec.Spec.{Spec}
use Rattle.ntuple_compile.specs.SpecFits.{AgreesWith, FitsFirst, NoneFits, action_for, agrees, spec_fits, specs_action, table_action}

-- ---- one field

same_bits : (part : Part) (number : ℕ) → bit_or part.value part.skip ≡ bit_or number part.skip → AgreesWith part number
same_bits part number is place kept =
    let both : max (bit_at part.value place) (bit_at part.skip place) ≡ max (bit_at number place) (bit_at part.skip place) = sym (bit_at_or part.value part.skip place) ∙ ap (λ n. bit_at n place) is ∙ bit_at_or number part.skip place in
    omega (arith, both, kept)

same_number : (part : Part) (number : ℕ) → AgreesWith part number → bit_or part.value part.skip ≡ bit_or number part.skip
same_number part number agree = same_from_bits (bit_or part.value part.skip) (bit_or number part.skip) (λ place. bit_at_or part.value part.skip place ∙ same place (bit_at part.skip place) refl ∙ sym (bit_at_or number part.skip place)) where
  same : (place bit : ℕ) → bit_at part.skip place ≡ bit → max (bit_at part.value place) (bit_at part.skip place) ≡ max (bit_at number place) (bit_at part.skip place)
  same place zero is = ap (λ n. max n (bit_at part.skip place)) (agree place is)
  same place (suc bit) is = omega (arith, is, bit_at-lt part.value place, bit_at-lt number place)

pub agrees_by_bits : (part : Part) (number : ℕ) → IsTrue (agrees (Some part) number) ↔ AgreesWith part number
agrees_by_bits part number =
    let d = Decides-eqb (bit_or part.value part.skip) (bit_or number part.skip) in
    (λ h. same_bits part number (d.0 h), λ h. d.1 (same_number part number h))

-- ---- the slots of a table

-- what stands at the locations, from the first of the slots up
abbrev listed : List (Option Spec) → List Spec
listed slots = filter_map (λ slot. slot) slots

-- the spec at a place of the slots fits, and none at a lesser place does
record IsFirstOf (headers : HeaderBytes) (slots : List (Option Spec)) (loc : ℕ) (spec : Spec) : Type 0 where
  there : get_or slots loc None ≡ Some spec
  fits : spec_fits spec headers ≡ true
  least : (below : ℕ) (other : Spec) → below < loc → get_or slots below None ≡ Some other → spec_fits other headers ≡ false

later : (headers : HeaderBytes) (slot : Option Spec) (slots : List (Option Spec)) (loc : ℕ) (spec : Spec) → IsFirstOf headers (slot ∷ slots) (suc loc) spec → IsFirstOf headers slots loc spec
later headers slot slots loc spec h = record { there = h.there; fits = h.fits; least = λ below other less there. h.least (suc below) other (omega (arith, less)) there }

first_acts : (headers : HeaderBytes) (slots : List (Option Spec)) (loc : ℕ) (spec : Spec) → IsFirstOf headers slots loc spec → specs_action (listed slots) headers ≡ action_for spec.action
unfolding specs_action
first_acts headers [] loc spec h = cc
first_acts headers (None ∷ slots) zero spec h = cc
first_acts headers (Some s ∷ slots) zero spec h =
    let same : s ≡ spec = cc h.there in
    rw (ap (λ (x : Spec). spec_fits x headers) same ∙ h.fits) (ap (λ (x : Spec). action_for x.action) same)
first_acts headers (None ∷ slots) (suc loc) spec h = first_acts headers slots loc spec (later headers None slots loc spec h)
first_acts headers (Some s ∷ slots) (suc loc) spec h =
    rw (h.least 0 s (omega arith) refl) (first_acts headers slots loc spec (later headers (Some s) slots loc spec h))

none_acts : (headers : HeaderBytes) (slots : List (Option Spec)) → ((loc : ℕ) (spec : Spec) → get_or slots loc None ≡ Some spec → spec_fits spec headers ≡ false) → specs_action (listed slots) headers ≡ action.Default
unfolding specs_action
none_acts headers [] h = refl
none_acts headers (None ∷ slots) h = none_acts headers slots (λ loc spec there. h (suc loc) spec there)
none_acts headers (Some s ∷ slots) h = rw (h 0 s refl) (none_acts headers slots (λ loc spec there. h (suc loc) spec there))

-- no spec of the slots fits
abbrev NoneOf : HeaderBytes → List (Option Spec) → Type 0
NoneOf headers slots = (loc : ℕ) (spec : Spec) → get_or slots loc None ≡ Some spec → spec_fits spec headers ≡ false

-- no spec fits, or one is the first
abbrev OneHolds : HeaderBytes → List (Option Spec) → Type 0
OneHolds headers slots = NoneOf headers slots ⊎ ((loc : ℕ) × (spec : Spec) × IsFirstOf headers slots loc spec)

-- what stands before the slots doesn't fit
past : (headers : HeaderBytes) (slot : Option Spec) (slots : List (Option Spec)) → ((spec : Spec) → slot ≡ Some spec → spec_fits spec headers ≡ false) → OneHolds headers slots → OneHolds headers (slot ∷ slots)
past headers slot slots misses (inl none) = inl none' where
  none' : NoneOf headers (slot ∷ slots)
  none' zero spec there = misses spec there
  none' (suc loc) spec there = none loc spec there
past headers slot slots misses (inr found) =
    let h = found.2 in
    inr (suc found.0, found.1, record { there = h.there; fits = h.fits; least = least }) where
      least : (below : ℕ) (other : Spec) → below < suc found.0 → get_or (slot ∷ slots) below None ≡ Some other → spec_fits other headers ≡ false
      least zero other less there = misses other there
      least (suc below) other less there = found.2.least below other (omega (arith, less)) there

one_holds : (headers : HeaderBytes) (slots : List (Option Spec)) → OneHolds headers slots
one_holds headers [] = inl (λ loc spec there. cc there)
one_holds headers (None ∷ slots) = past headers None slots (λ spec there. cc there) (one_holds headers slots)
one_holds headers (Some s ∷ slots) = by_test (spec_fits s headers) refl (one_holds headers slots) where
  by_test : (b : Bool) → spec_fits s headers ≡ b → OneHolds headers slots → OneHolds headers (Some s ∷ slots)
  by_test true fits rest = inr (0, s, record { there = refl; fits = fits; least = λ below other less there. absurd (omega (arith, less)) })
  by_test false misses rest = past headers (Some s) slots (λ spec there. let same : s ≡ spec = cc there in subst (λ (x : Spec). spec_fits x headers ≡ false) same misses) rest

-- ---- the table

pub first_fit_acts : (table : TableMap) (headers : HeaderBytes) (loc : ℕ) (spec : Spec) → FitsFirst table headers loc spec → table_action table headers ≡ action_for spec.action
first_fit_acts table headers loc spec h = first_acts headers table.slots loc spec (record {
  there = h.fitting.is_there;
  fits = h.fitting.fits;
  least = λ below other less there. false_from_ne_true (spec_fits other headers) (λ fits. h.least below other less (record { is_there = there; fits = fits }));
})

pub no_fit_acts : (table : TableMap) (headers : HeaderBytes) → NoneFits table headers → table_action table headers ≡ action.Default
no_fit_acts table headers h = none_acts headers table.slots (λ loc spec there. false_from_ne_true (spec_fits spec headers) (λ fits. h loc spec (record { is_there = there; fits = fits })))

pub one_of_both_holds : (table : TableMap) (headers : HeaderBytes) → NoneFits table headers ⊎ ((loc : ℕ) × (spec : Spec) × FitsFirst table headers loc spec)
one_of_both_holds table headers = in_table (one_holds headers table.slots) where
  in_table : OneHolds headers table.slots → NoneFits table headers ⊎ ((loc : ℕ) × (spec : Spec) × FitsFirst table headers loc spec)
  in_table (inl none) = inl (λ loc spec h. absurd (false≢true (sym (none loc spec h.is_there) ∙ h.fits)))
  in_table (inr found) =
      let h = found.2 in
      inr (
        found.0,
        found.1,
        record {
          fitting = record { is_there = h.there; fits = h.fits };
          least = λ below other less there. absurd (false≢true (sym (h.least below other less there.is_there) ∙ there.fits));
        },
      )
