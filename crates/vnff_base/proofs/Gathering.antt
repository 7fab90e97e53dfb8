-- The laws of gathering a text, for each call that gathers it piece by piece; they are those of writing, over an output with bytes
-- that wait.
use Rattle.std.proofs.Common.{◌≡◌, ℕ, ◌+◌, ◌-◌, ◌<◌, ◌≤◌, List, [], ◌++◌, length, get_or, take, Result, Ok, Err, refl, sym, ◌∙◌, ap, subst, append_assoc, append-nil}
use Rattle.std.proofs.lemmas.List.{take_all, take-append-drop}
use Rattle.std.proofs.Math.ListN.{drop}
use Rattle.std.proofs.lemmas.Grind.{flat_map-append}
use Rattle.std.specs.List.{flat_map}
use Rattle.std.specs.Result.{IsErrAnd}
use Rattle.vnff_base.specs.Outputs.{OutputState, Wrote, Stopped, Writes}
use Rattle.vnff_base.specs.Gatherings.{Took, Lost, Gathers}
use Rattle.vnff_base.proofs.Writing.{wrote_nothing, wrote_more, stopped_after, stopped_before, flat_map-take_more, flat_map-take_between}

-- Nothing was taken.
pub took_nothing : (state : OutputState) (waiting : List ℕ) → Took state state waiting waiting []
took_nothing state waiting = record { front = []; wrote = wrote_nothing state; rest = sym (append-nil waiting) }

-- A text waits.
pub took_in : (state : OutputState) (waited text : List ℕ) → Took state state waited (waited ++ text) text
took_in state waited text = record { front = []; wrote = wrote_nothing state; rest = refl }

-- A text was put where nothing waited.
pub took_out : {a b : OutputState} {text : List ℕ} → Wrote a b text → Took a b [] [] text
took_out {text = text} wrote = record { front = text; wrote = wrote; rest = append-nil text }

-- what was put and what waits, after a first text and a second one
rest_of_both : (f p q xs ys : List ℕ) → f ++ q ≡ p ++ xs → f ++ (q ++ ys) ≡ p ++ (xs ++ ys)
rest_of_both f p q xs ys rest = sym (append_assoc f q ys) ∙ ap (λ t. t ++ ys) rest ∙ append_assoc p xs ys

-- A second text was taken after the first.
pub took_more : {a b c : OutputState} {p q r xs ys : List ℕ} → Took a b p q xs → Took b c q r ys → Took a c p r (xs ++ ys)
took_more {p = p} {q = q} {r = r} {xs = xs} {ys = ys} first second =
    record {
      front = first.front ++ second.front;
      wrote = wrote_more first.wrote second.wrote;
      rest = append_assoc first.front second.front r ∙ ap (λ t. first.front ++ t) second.rest ∙ rest_of_both first.front p q xs ys first.rest;
    }

-- Taking stopped within a second text.
pub lost_after : {a b c : OutputState} {p q xs ys : List ℕ} → Took a b p q xs → Lost b c q ys → Lost a c p (xs ++ ys)
lost_after {a = a} {c = c} {p = p} {q = q} {xs = xs} {ys = ys} first second =
    record { stopped = subst (Stopped a c) (rest_of_both first.front p q xs ys first.rest) (stopped_after first.wrote second.stopped) }

-- Taking stopped within the first text, and a second was to come.
pub lost_before : {a b : OutputState} {p xs : List ℕ} → Lost a b p xs → (ys : List ℕ) → Lost a b p (xs ++ ys)
lost_before {a = a} {b = b} {p = p} {xs = xs} first ys =
    record { stopped = subst (Stopped a b) (append_assoc p xs ys) (stopped_before first.stopped ys) }

-- What waited was put, and then a text was to be taken.
pub gathers_behind : {A E : Type 0} {a b : OutputState} {p : List ℕ} (c : OutputState) (r text : List ℕ) (result : Result A E) → Wrote a b p → Gathers b c [] r text result → Gathers a c p r text result
gathers_behind {p = p} c r text (Ok x) put took =
    record {
      front = p ++ took.front;
      wrote = wrote_more put took.wrote;
      rest = append_assoc p took.front r ∙ ap (λ t. p ++ t) took.rest;
    }
gathers_behind c r text (Err e) put lost = record { stopped = stopped_after put lost.stopped }

-- All of a text was taken where nothing waited, and then what waits was to be put.
pub writes_gathered : {A E : Type 0} {a b : OutputState} {p q text : List ℕ} (c : OutputState) (result : Result A E) → p ≡ [] → Took a b p q text → Writes b c q result → Writes a c text result
writes_gathered {a = a} {text = text} c (Ok x) none took put =
    subst (Wrote a c) (took.rest ∙ ap (λ w. w ++ text) none) (wrote_more took.wrote put)
writes_gathered {a = a} {text = text} c (Err e) none took stopped =
    subst (Stopped a c) (took.rest ∙ ap (λ w. w ++ text) none) (stopped_after took.wrote stopped)

-- Taking a text stopped where nothing had waited.
pub writes_lost : {a b : OutputState} {p text : List ℕ} → p ≡ [] → Lost a b p text → Stopped a b text
writes_lost {a = a} {b = b} {text = text} none lost = subst (Stopped a b) (ap (λ w. w ++ text) none) lost.stopped

-- What a call answers that failed, as at the exit of a `?`: its taking stopped.
pub gathers_lost : {A E : Type 0} {a b : OutputState} {p text : List ℕ} (r : List ℕ) (result : Result A E) (Q : E → Type 0) → IsErrAnd result Q → Lost a b p text → Gathers a b p r text result
gathers_lost r (Ok x) Q failed lost = absurd failed
gathers_lost r (Err e) Q failed lost = lost

-- After a text, what the last call answers is what all of it answers.
pub gathers_after : {A E : Type 0} {a b : OutputState} {p q xs : List ℕ} (c : OutputState) (r ys : List ℕ) (result : Result A E) → Took a b p q xs → Gathers b c q r ys result → Gathers a c p r (xs ++ ys) result
gathers_after c r ys (Ok x) first second = took_more first second
gathers_after c r ys (Err e) first second = lost_after first second

-- A loop took a piece for each item before i, and now for the one at i.
pub took_item : {A : Type 0} {a b c : OutputState} {p q r : List ℕ} (text : A → List ℕ) (items : List A) (i : ℕ) (d x : A) → i < length items → x ≡ get_or items i d → Took a b p q (flat_map text (take i items)) → Took b c q r (text x) → Took a c p r (flat_map text (take (i + 1) items))
took_item {a = a} {c = c} {p = p} {r = r} text items i d x within is before now =
    subst (Took a c p r) (sym (flat_map-take_more text items i d x within is)) (took_more before now)

-- A loop took a piece for each item.
pub took_items : {A : Type 0} {a b : OutputState} {p q : List ℕ} (text : A → List ℕ) (items : List A) (i : ℕ) → length items ≤ i → Took a b p q (flat_map text (take i items)) → Took a b p q (flat_map text items)
took_items {a = a} {b = b} {p = p} {q = q} text items i all took =
    subst (λ xs. Took a b p q (flat_map text xs)) (take_all i items all) took

-- A loop that takes several items at once took those before i, and now those before j.
pub took_some : {A : Type 0} {a b c : OutputState} {p q r : List ℕ} (text : A → List ℕ) (items : List A) (i j : ℕ) → i ≤ j → Took a b p q (flat_map text (take i items)) → Took b c q r (flat_map text (take (j - i) (drop i items))) → Took a c p r (flat_map text (take j items))
took_some {a = a} {c = c} {p = p} {r = r} text items i j up before now =
    subst (Took a c p r) (sym (flat_map-take_between text items i j up)) (took_more before now)

-- the text of all items, of which those before i stand in front
all_items : {A : Type 0} (text : A → List ℕ) (items : List A) (i : ℕ) → flat_map text (take i items) ++ flat_map text (drop i items) ≡ flat_map text items
all_items text items i = sym (flat_map-append text (take i items) (drop i items)) ∙ ap (flat_map text) (take-append-drop i items)

-- Taking stopped within the items before i.
lost_within : {A : Type 0} {a b : OutputState} {p : List ℕ} (text : A → List ℕ) (items : List A) (i : ℕ) → Lost a b p (flat_map text (take i items)) → Lost a b p (flat_map text items)
lost_within {a = a} {b = b} {p = p} text items i stopped =
    subst (Lost a b p) (all_items text items i) (lost_before stopped (flat_map text (drop i items)))

-- A loop took a piece for each item before i, and stopped within the one at i.
pub lost_item : {A : Type 0} {a b c : OutputState} {p q : List ℕ} (text : A → List ℕ) (items : List A) (i : ℕ) (d x : A) → i < length items → x ≡ get_or items i d → Took a b p q (flat_map text (take i items)) → Lost b c q (text x) → Lost a c p (flat_map text items)
lost_item {a = a} {c = c} {p = p} text items i d x within is before now =
    lost_within text items (i + 1) (subst (Lost a c p) (sym (flat_map-take_more text items i d x within is)) (lost_after before now))

-- A loop that takes several items at once took those before i, and stopped within those before j.
pub lost_some : {A : Type 0} {a b c : OutputState} {p q : List ℕ} (text : A → List ℕ) (items : List A) (i j : ℕ) → i ≤ j → Took a b p q (flat_map text (take i items)) → Lost b c q (flat_map text (take (j - i) (drop i items))) → Lost a c p (flat_map text items)
lost_some {a = a} {c = c} {p = p} text items i j up before now =
    lost_within text items j (subst (Lost a c p) (sym (flat_map-take_between text items i j up)) (lost_after before now))
