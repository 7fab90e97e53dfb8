-- Where `Close` stands in a list of changes.
use Rattle.std.proofs.Common.{◌≡◌, suc, Bool, true, false, not, ◌||◌, cond, List, [], ◌∷◌, ◌++◌, length, take, fold, refl, ap, sym, subst, ◌∙◌, arith, append_assoc}
use Rattle.std.proofs.lemmas.List.{append-nil}
use Rattle.std.proofs.lemmas.List.Sums.{sum_by-cons}
use Rattle.std.specs.List.{list_any}
use mathlib.Core.List.{IsPrefix}
use Rattle.ff_headers.specs.Objects.{FlowObjects, no_objects}
use Rattle.ff_headers.specs.Changes.{is_close, is_sound, step, after, change_count}
use Rattle.ff_headers.specs.declared.limits.Limits.{Limits}
use Rattle.ff_headers.specs.declared.change.Change.{Change}
use Rattle.ff_headers.specs.declared.change.Change.TheVariants.{PutGroup, DropGroup, PutClassifier, DropClassifier, PutRule, DropRule, Close}
use Rattle.snapshots.specs.Lists.{is_open, ClosesLast, Covers}

close_is : (c : Change) → is_close c ≡ true → c ≡ Close
close_is (PutGroup a b) h = absurd cc
close_is (DropGroup a) h = absurd cc
close_is (PutClassifier a b) h = absurd cc
close_is (DropClassifier a) h = absurd cc
close_is (PutRule a b) h = absurd cc
close_is (DropRule a) h = absurd cc
close_is Close h = refl

pub closes_last_nil : ClosesLast []
closes_last_nil [] rest e = absurd (cc (e))
closes_last_nil (b ∷ before) rest e = absurd (cc (e))

closes_last_tail : (c : Change) (list : List Change) → ClosesLast (c ∷ list) → ClosesLast list
closes_last_tail c list h before rest e = h (c ∷ before) rest (ap (λ xs. c ∷ xs) e)

-- the beginning of a list that closes last closes last
pub closes_last_front : (xs ys : List Change) → IsPrefix xs ys → ClosesLast ys → ClosesLast xs
closes_last_front xs ys p h before rest e =
    let whole : ys ≡ before ++ Close ∷ (rest ++ p.0) =
    sym p.1 ∙ (ap (λ w. w ++ p.0) e ∙ append_assoc before (Close ∷ rest) p.0) in
    let none = h before (rest ++ p.0) whole in
    elim rest as (λ r. r ++ p.0 ≡ [] → r ≡ []) [ [] ↦ λ _. refl | x ∷ xs ↦ λ bad. absurd (cc (bad)) ] none

-- an open list with one more change closes last
pub closes_last_more : (xs : List Change) (c : Change) → is_open xs ≡ true → ClosesLast (xs ++ c ∷ [])
closes_last_more [] c h [] rest e = cc (e)
closes_last_more [] c h (b ∷ before) rest e = absurd (closes_last_more_none before rest (cc (e)))
  where
    closes_last_more_none : (before rest : List Change) → [] ≡ before ++ Close ∷ rest → ⊥
    closes_last_more_none [] rest e = cc (e)
    closes_last_more_none (b ∷ before) rest e = cc (e)
closes_last_more (x ∷ xs) c h [] rest e =
    let same : x ≡ Close = cc (e) in
    absurd (not_true (list_any is_close xs) (subst (λ y. not (is_close y || list_any is_close xs) ≡ true) same h))
  where
    not_true : (b : Bool) → not (true || b) ≡ true → ⊥
    not_true b h = cc (h)
closes_last_more (x ∷ xs) c h (b ∷ before) rest e =
    closes_last_more xs c (tail (is_close x) (list_any is_close xs) h) before rest (cc (e))
  where
    tail : (a b : Bool) → not (a || b) ≡ true → not b ≡ true
    tail true b h = absurd (cc (h))
    tail false b h = h

-- what begins with a floor and closes last covers it
pub covers_front : (list floor : List Change) → IsPrefix floor list → ClosesLast list → Covers list floor
covers_front list floor p h = record {
  begins = p;
  closed = λ before e.
      let whole : list ≡ before ++ Close ∷ p.0 = sym p.1 ∙ (ap (λ w. w ++ p.0) e ∙ append_assoc before (Close ∷ []) p.0) in
      let none = h before p.0 whole in
      sym p.1 ∙ (ap (λ r. floor ++ r) none ∙ append-nil floor);
}

close_changes_nothing : (limits : Limits) (objects : FlowObjects) → step limits objects Close ≡ objects
unfolding step is_sound
close_changes_nothing limits objects = refl

abbrev Leaves : Limits → FlowObjects → List Change → Type 0
Leaves limits o xs = fold (step limits) o (take (change_count xs) xs) ≡ fold (step limits) o (take (length xs) xs)

-- a first change that doesn't close
leaves_more : (limits : Limits) (o : FlowObjects) (c : Change) (xs : List Change) → is_close c ≡ false
    → Leaves limits (step limits o c) xs → Leaves limits o (c ∷ xs)
leaves_more limits o c xs e h =
    let n : change_count (c ∷ xs) ≡ suc (change_count xs) =
    sum_by-cons (λ d. cond (not (is_close d)) 1 0) c xs ∙ rw e (omega arith) in
    rw n h

-- a first change that closes is the last
leaves_close : (limits : Limits) (o : FlowObjects) (c : Change) (xs : List Change) → c ≡ Close → xs ≡ []
    → Leaves limits o (c ∷ xs)
leaves_close limits o c xs same none =
    subst (λ d. Leaves limits o (d ∷ xs)) (sym same)
    (subst (λ ys. Leaves limits o (Close ∷ ys)) (sym none) (sym (close_changes_nothing limits o)))

leaves_by : (limits : Limits) (o : FlowObjects) (c : Change) (xs : List Change) → ClosesLast (c ∷ xs)
    → Leaves limits (step limits o c) xs → (b : Bool) → is_close c ≡ b → Leaves limits o (c ∷ xs)
leaves_by limits o c xs h rest false e = leaves_more limits o c xs e rest
leaves_by limits o c xs h rest true e =
    let same = close_is c e in
    leaves_close limits o c xs same (h [] xs (ap (λ d. d ∷ xs) same))

leaves_all : (limits : Limits) (o : FlowObjects) (xs : List Change) → ClosesLast xs → Leaves limits o xs
leaves_all limits o [] h = refl
leaves_all limits o (c ∷ xs) h =
    leaves_by limits o c xs h (leaves_all limits (step limits o c) xs (closes_last_tail c xs h)) (is_close c) refl

-- where no change follows `Close`, the changes that count leave what all do
pub after_all : (limits : Limits) (list : List Change) → ClosesLast list
    → after limits list (change_count list) ≡ after limits list (length list)
unfolding after
after_all limits list h = leaves_all limits no_objects list h
