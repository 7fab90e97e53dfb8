-- The laws of writing to an output, for each call that writes a text piece by piece: nothing, one more
-- piece, a stop within a later piece, a stop before what is left, and a loop that writes a piece for
-- each item of a list. Of a call whose contract is `Writes .. (xs ++ (ys ++ zs)) result`, which puts xs and
-- ys with a `?` behind each and hands on what the put of zs answers, the answers are, with the steps' own
-- names:
--   the exit at xs: writes_stopped _ _ c.from_residual.ensures.1 (stopped_before c.in_err-xs.ensures _)
--   the exit at ys: writes_stopped _ _ c.from_residual-ys.ensures.1
--                     (stopped_after c.in_ok-xs.ensures (stopped_before c.in_err-ys.ensures _))
--   its return:     writes_after _ _ _ c.in_ok-xs.ensures (writes_after _ _ _ c.in_ok-ys.ensures c.zs.ensures)
-- A loop over items keeps `Wrote .. (flat_map text (take i items))`, and its exit is
--   writes_stopped _ _ c.from_residual.ensures.1 (stopped_item text items i d _ within refl c.loop.invariant c.in_err-put.ensures)
use Rattle.std.proofs.Common.{◌≡◌, ℕ, zero, suc, ◌+◌, ◌-◌, ◌<◌, ◌≤◌, List, [], ◌∷◌, ◌++◌, length, get_or, take, Option, None, Some, Result, Ok, Err, refl, sym, ◌∙◌, ap, subst, append_assoc, append-nil, arith}
use Rattle.std.proofs.lemmas.List.{take_more, take_all, take-append-drop}
use Rattle.std.proofs.Math.ListN.{drop}
use Rattle.std.proofs.Math.Seq.{take-add, take-append-add}
use Rattle.std.proofs.lemmas.Grind.{flat_map-append}
use Rattle.std.specs.List.{flat_map}
use Rattle.std.specs.Result.{IsErrAnd}
use Rattle.vnff_base.specs.Counts.{Rose}
use Rattle.vnff_base.specs.Outputs.{OutputState, told_after, Wrote, Stopped, Writes}

-- two texts, one after the other
pub told_after-append : (told : Option (List ℕ)) (xs ys : List ℕ) → told_after (told_after told xs) ys ≡ told_after told (xs ++ ys)
told_after-append None xs ys = refl
told_after-append (Some bytes) xs ys = ap Some (append_assoc bytes xs ys)

-- no text
pub told_after-nil : (told : Option (List ℕ)) → told_after told [] ≡ told
told_after-nil None = refl
told_after-nil (Some bytes) = ap Some (append-nil bytes)

-- a front of the first text is a front of both
pub front_of_both : (xs ys : List ℕ) (n : ℕ) → (k : ℕ) × (take k (xs ++ ys) ≡ take n xs)
front_of_both xs ys zero = (0, refl)
front_of_both [] ys (suc n) = (0, refl)
front_of_both (x ∷ xs) ys (suc n) = let shorter = front_of_both xs ys n in (suc shorter.0, ap (λ t. x ∷ t) shorter.1)

-- Nothing was written.
pub wrote_nothing : (state : OutputState) → Wrote state state []
wrote_nothing state = record { told = sym (told_after-nil state.told); faults = refl }

-- A second text was written after the first.
pub wrote_more : {a b c : OutputState} {xs ys : List ℕ} → Wrote a b xs → Wrote b c ys → Wrote a c (xs ++ ys)
wrote_more {a = a} {xs = xs} {ys = ys} first second =
    record { told = second.told ∙ ap (λ t. told_after t ys) first.told ∙ told_after-append a.told xs ys; faults = second.faults ∙ first.faults }

-- Writing stopped within a second text.
pub stopped_after : {a b c : OutputState} {xs ys : List ℕ} → Wrote a b xs → Stopped b c ys → Stopped a c (xs ++ ys)
stopped_after {a = a} {c = c} {xs = xs} {ys = ys} first second =
    let n = second.told.0 in
    record {
      told = (length xs + n, second.told.1 ∙ ap (λ t. told_after t (take n ys)) first.told ∙ told_after-append a.told xs (take n ys) ∙ ap (told_after a.told) (sym (take-append-add xs ys n)));
      rose = subst (λ x. Rose x c.faults) first.faults second.rose;
      grew = subst (λ x. x ≤ c.faults) first.faults second.grew;
    }

-- Writing stopped within the first text, and a second was to come.
pub stopped_before : {a b : OutputState} {xs : List ℕ} → Stopped a b xs → (ys : List ℕ) → Stopped a b (xs ++ ys)
stopped_before {a = a} {xs = xs} first ys =
    let front = front_of_both xs ys first.told.0 in
    record { told = (front.0, first.told.1 ∙ ap (told_after a.told) (sym front.1)); rose = first.rose; grew = first.grew }

-- the text of a list's items up to and with the one at i
pub flat_map-take_more : {A : Type 0} (text : A → List ℕ) (items : List A) (i : ℕ) (d x : A) → i < length items → x ≡ get_or items i d → flat_map text (take (i + 1) items) ≡ flat_map text (take i items) ++ text x
flat_map-take_more text items i d x within is =
    ap (flat_map text) (take_more items i d within) ∙ flat_map-append text (take i items) (get_or items i d ∷ []) ∙ ap (λ t. flat_map text (take i items) ++ t) (append-nil (text (get_or items i d)) ∙ ap text (sym is))

-- A loop wrote a piece for each item before i, and now for the one at i.
pub wrote_item : {A : Type 0} {a b c : OutputState} (text : A → List ℕ) (items : List A) (i : ℕ) (d x : A) → i < length items → x ≡ get_or items i d → Wrote a b (flat_map text (take i items)) → Wrote b c (text x) → Wrote a c (flat_map text (take (i + 1) items))
wrote_item {a = a} {c = c} text items i d x within is before now =
    subst (Wrote a c) (sym (flat_map-take_more text items i d x within is)) (wrote_more before now)

-- A loop wrote a piece for each item before i, and stopped within the one at i.
pub stopped_item : {A : Type 0} {a b c : OutputState} (text : A → List ℕ) (items : List A) (i : ℕ) (d x : A) → i < length items → x ≡ get_or items i d → Wrote a b (flat_map text (take i items)) → Stopped b c (text x) → Stopped a c (flat_map text items)
stopped_item {a = a} {c = c} text items i d x within is before now =
    let rest = drop (i + 1) items in
    let up_to : Stopped a c (flat_map text (take (i + 1) items)) = subst (Stopped a c) (sym (flat_map-take_more text items i d x within is)) (stopped_after before now) in
    subst (Stopped a c) (sym (flat_map-append text (take (i + 1) items) rest) ∙ ap (flat_map text) (take-append-drop (i + 1) items)) (stopped_before up_to (flat_map text rest))

-- A loop wrote a piece for each item.
pub wrote_items : {A : Type 0} {a b : OutputState} (text : A → List ℕ) (items : List A) (i : ℕ) → length items ≤ i → Wrote a b (flat_map text (take i items)) → Wrote a b (flat_map text items)
wrote_items {a = a} {b = b} text items i all wrote =
    subst (λ xs. Wrote a b (flat_map text xs)) (take_all i items all) wrote

-- the text of a list's items up to j, of which those before i stand in front
pub flat_map-take_between : {A : Type 0} (text : A → List ℕ) (items : List A) (i j : ℕ) → i ≤ j → flat_map text (take j items) ≡ flat_map text (take i items) ++ flat_map text (take (j - i) (drop i items))
flat_map-take_between text items i j before =
    let whole : i + (j - i) ≡ j = omega arith in
    ap (λ n. flat_map text (take n items)) (sym whole) ∙ ap (flat_map text) (take-add i (j - i) items) ∙ flat_map-append text (take i items) (take (j - i) (drop i items))

-- A loop that takes several items at once wrote those before i, and now those before j.
pub wrote_some : {A : Type 0} {a b c : OutputState} (text : A → List ℕ) (items : List A) (i j : ℕ) → i ≤ j → Wrote a b (flat_map text (take i items)) → Wrote b c (flat_map text (take (j - i) (drop i items))) → Wrote a c (flat_map text (take j items))
wrote_some {a = a} {c = c} text items i j up before now =
    subst (Wrote a c) (sym (flat_map-take_between text items i j up)) (wrote_more before now)

-- A loop that takes several items at once wrote those before i, and stopped within those before j.
pub stopped_some : {A : Type 0} {a b c : OutputState} (text : A → List ℕ) (items : List A) (i j : ℕ) → i ≤ j → Wrote a b (flat_map text (take i items)) → Stopped b c (flat_map text (take (j - i) (drop i items))) → Stopped a c (flat_map text items)
stopped_some {a = a} {c = c} text items i j up before now =
    let up_to = subst (Stopped a c) (sym (flat_map-take_between text items i j up)) (stopped_after before now) in
    subst (Stopped a c) (sym (flat_map-append text (take j items) (drop j items)) ∙ ap (flat_map text) (take-append-drop j items)) (stopped_before up_to (flat_map text (drop j items)))

-- What a call answers that failed, as at the exit of a `?`: its writing stopped.
pub writes_stopped : {A E : Type 0} {a b : OutputState} {text : List ℕ} (result : Result A E) (Q : E → Type 0) → IsErrAnd result Q → Stopped a b text → Writes a b text result
writes_stopped (Ok x) Q failed stopped = absurd failed
writes_stopped (Err e) Q failed stopped = stopped

-- After a text, what the last call answers is what all of it answers.
pub writes_after : {A E : Type 0} {a b : OutputState} {xs : List ℕ} (c : OutputState) (ys : List ℕ) (result : Result A E) → Wrote a b xs → Writes b c ys result → Writes a c (xs ++ ys) result
writes_after c ys (Ok x) first second = wrote_more first second
writes_after c ys (Err e) first second = stopped_after first second
