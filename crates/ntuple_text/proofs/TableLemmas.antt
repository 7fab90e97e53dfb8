-- The largest free place is found from the end, and every table holds what a line can spell.
use Rattle.std.proofs.Common.{◌≡◌, ℕ, ◌+◌, ◌<◌, ◌≤◌, List, [], ◌∷◌, ◌++◌, Bor, length, take, get_or, set, length-set, replicate, ap, ◌∙◌, Some, None, Option, IfSome, refl, sym, subst, arith, zero, suc, true, false, is_some, eqb, ⊎_elim}
use Rattle.std.specs.Option.{option_copied}
use Rattle.std.proofs.Math.ListN.{get_or-eq_default}
use Rattle.std.proofs.lemmas.Bool.{true≢false, false≢true, cases_Bool, cases_lt, eq-eqb, eqb-true}
use Rattle.std.proofs.lemmas.Grind.{get_or-set_at}
use Rattle.std.proofs.lemmas.List.{get_or-replicate, get_or-set_other, length-replicate, length-take-le, take_more}
use Rattle.ntuple_text.specs.Spellable.{IsSpellable, IsTable}
use Rattle.ntuple_text.specs.TableMaps.{free_slots, last_free, later_free}
use Rattle.ntuple_text.specs.declared.spec.Spec.{Spec}

push_free : (slots : List (Option Spec)) → last_free (slots ++ None ∷ []) ≡ Some (length slots)
push_free [] = refl
push_free (slot ∷ slots) = ap (later_free slot) (push_free slots) ∙ (let e : length slots + 1 ≡ length (slot ∷ slots) = omega arith in ap Some e)

push_taken : (slots : List (Option Spec)) (spec : Spec) → last_free (slots ++ Some spec ∷ []) ≡ last_free slots
push_taken [] spec = refl
push_taken (slot ∷ slots) spec = ap (later_free slot) (push_taken slots spec)

free_is : (slot : Option Spec) → is_some slot ≡ false → slot ≡ None
free_is None h = refl
free_is (Some spec) h = absurd (true≢false h)

push_test : (slots : List (Option Spec)) (slot : Option Spec) → is_some slot ≡ true → last_free (slots ++ slot ∷ []) ≡ last_free slots
push_test slots None h = absurd (false≢true h)
push_test slots (Some spec) h = push_taken slots spec

upto : (slots : List (Option Spec)) (place end : ℕ) → end ≡ place + 1 → place < length slots → take end slots ≡ take place slots ++ get_or slots place None ∷ []
upto slots place end next inside = ap (λ n. take n slots) next ∙ take_more slots place None inside

pub free-here : (slots : List (Option Spec)) (place end : ℕ) → end ≡ place + 1 → place < length slots → last_free slots ≡ last_free (take end slots) → is_some (get_or slots place None) ≡ false → last_free slots ≡ Some place
free-here slots place end next inside same free =
    same ∙ (ap last_free (upto slots place end next inside ∙ ap (λ slot. take place slots ++ slot ∷ []) (free_is (get_or slots place None) free)) ∙ (push_free (take place slots) ∙ ap Some (length-take-le place slots (omega arith))))

pub taken-here : (slots : List (Option Spec)) (place end : ℕ) → end ≡ place + 1 → place < length slots → last_free slots ≡ last_free (take end slots) → is_some (get_or slots place None) ≡ true → last_free slots ≡ last_free (take place slots)
taken-here slots place end next inside same taken =
    same ∙ (ap last_free (upto slots place end next inside) ∙ push_test (take place slots) (get_or slots place None) taken)

-- the largest free place is one of the list
later-below : (slot : Option Spec) (count total : ℕ) (later : Option ℕ) → total ≡ count + 1 → IfSome later (λ place. place < count) → IfSome (later_free slot later) (λ place. place < total)
later-below slot count total (Some place) next h = omega arith
later-below None count total None next h = omega arith
later-below (Some spec) count total None next h = tt

pub last_free-below : (slots : List (Option Spec)) → IfSome (last_free slots) (λ place. place < length slots)
last_free-below [] = tt
last_free-below (slot ∷ slots) = later-below slot (length slots) (length (slot ∷ slots)) (last_free slots) (omega arith) (last_free-below slots)

pub free_slots-none : free_slots 0 ≡ []
unfolding free_slots
free_slots-none = refl

replicate-more : (n : ℕ) (x : Option Spec) → replicate (n + 1) x ≡ replicate n x ++ x ∷ []
replicate-more zero x = refl
replicate-more (suc n) x = let e : suc n + 1 ≡ suc (n + 1) = omega arith in ap (λ k. replicate k x) e ∙ ap (λ slots. x ∷ slots) (replicate-more n x)

pub free_slots-more : (n : ℕ) → free_slots (n + 1) ≡ free_slots n ++ None ∷ []
unfolding free_slots
free_slots-more n = replicate-more n None

-- every table holds what a line can spell
at-spelled : (pairs loc : ℕ) (slot other : Option Spec) → slot ≡ other → IfSome other (λ spec. (spec.loc ≡ loc) × IsSpellable pairs spec) → IfSome slot (λ spec. (spec.loc ≡ loc) × IsSpellable pairs spec)
at-spelled pairs loc slot other same h =
    let P : Option Spec → Type 0 = λ slot. IfSome slot (λ spec. (spec.loc ≡ loc) × IsSpellable pairs spec) in subst P (sym same) h

free_slots-none_at : (count loc : ℕ) → get_or (free_slots count) loc None ≡ None
unfolding free_slots
free_slots-none_at count loc =
    ⊎_elim (λ inside. get_or-replicate count loc None None inside) (λ past. get_or-eq_default (replicate count None) None (omega (arith, length-replicate {A = Option Spec} count None, past))) (cases_lt loc count)

free_slots-size : (count : ℕ) → length (free_slots count) ≡ count
unfolding free_slots
free_slots-size count = length-replicate count None

pub table-empty : (pairs : ℕ) (slots : List (Option Spec)) → slots ≡ free_slots 1024 → 1 ≤ pairs → pairs ≤ 16 → IsTable pairs slots
table-empty pairs slots is some few =
    record {
      size = ap length is ∙ free_slots-size 1024;
      some = some;
      few = few;
      spelled = λ loc. at-spelled pairs loc (get_or slots loc None) None (ap (λ slots. get_or slots loc None) is ∙ free_slots-none_at 1024 loc) tt;
    }

-- one more spec that a line can spell, at its location
slot-set : (pairs place loc : ℕ) (slots : List (Option Spec)) (spec : Spec) → IsTable pairs slots → place ≡ spec.loc → IsSpellable pairs spec → IfSome (get_or (set slots place (Some spec)) loc None) (λ spec. (spec.loc ≡ loc) × IsSpellable pairs spec)
slot-set pairs place loc slots spec h is spellable =
    ⊎_elim (λ here. at-spelled pairs loc _ (Some spec) (get_or-set_at slots place loc (Some spec) None (eqb-true loc place here) (omega (arith, h.size, spellable.loc))) (sym (eqb-true loc place here ∙ is), spellable))
    (λ there. at-spelled pairs loc _ _ (get_or-set_other slots place loc (Some spec) None (λ e. false≢true (sym there ∙ eq-eqb loc place e))) (h.spelled loc))
    (cases_Bool (eqb loc place))

pub table-set : (pairs place : ℕ) (slots : List (Option Spec)) (spec : Spec) → IsTable pairs slots → place ≡ spec.loc → IsSpellable pairs spec → IsTable pairs (set slots place (Some spec))
table-set pairs place slots spec h is spellable =
    record { size = length-set slots place (Some spec) ∙ h.size; some = h.some; few = h.few; spelled = λ loc. slot-set pairs place loc slots spec h is spellable }

-- what stands at a location is such a spec, of this location
pub table-at : (pairs loc : ℕ) (slots : List (Option Spec)) (found : Option (Bor Spec)) → IsTable pairs slots → option_copied found ≡ get_or slots loc None → IfSome found (λ spec. (spec.now.loc ≡ loc) × IsSpellable pairs spec.now)
table-at pairs loc slots None h is = tt
table-at pairs loc slots (Some spec) h is = at-spelled pairs loc (Some spec.now) (get_or slots loc None) is (h.spelled loc)
