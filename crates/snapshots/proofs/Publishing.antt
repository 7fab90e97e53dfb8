-- What a publish shows.
use Rattle.std.proofs.Common.{◌≡◌, ℕ, List, [], ◌∷◌, fold, Option, Some, None, IsSomeAnd, Result, Ok, Err, IsOk, MatchResult, refl, ap, sym, subst, ◌∙◌}
use Rattle.std.proofs.lemmas.List.Sums.{fold-append}
use Rattle.crossbeam_utils.specs.Register.{TurnsAt}
use Rattle.ff_headers.specs.declared.limits.Limits.{Limits}
use Rattle.ff_headers.specs.declared.change.Change.{Change}
use Rattle.matcher.specs.Tables.{TableState, no_changes, applied}
use Rattle.snapshots.specs.Lists.{ToldList, with_more}
use Rattle.snapshots.specs.Copying.{with_logged}
use Rattle.snapshots.specs.Seats.{copy_of, IsSame, IsShared, Shows, MayShow}
use Rattle.snapshots.specs.declared.copied.Copied.{Copied}
use Rattle.snapshots.specs.declared.copied.Entry.{Entry}
use Rattle.snapshots.specs.declared.copied.Entry.TheVariants.{Blank, Made}
use Rattle.snapshots.proofs.Seating.{shows}

-- a copy that stands for a list stands for the longer list after one more change
made_stands : (limits : Limits) (told : ToldList) (change : Change)
    → with_logged (copy_of limits told) (Made change (with_more told change)) ≡ copy_of limits (with_more told change)
made_stands limits told change =
    ap (λ (t : TableState). copied_with t (with_more told change)) (sym (fold-append applied (no_changes limits) told.list (change ∷ [])))
  where
    copied_with : TableState → ToldList → Copied
    copied_with t told = record { tables = t; trail = told }

pub made_is : (limits : Limits) (told trail : ToldList) (change : Change) (x : Copied) → x ≡ copy_of limits told
    → trail ≡ with_more told change → with_logged x (Made change trail) ≡ copy_of limits trail
made_is limits told trail change x is more =
    subst (λ t. with_logged x (Made change t) ≡ copy_of limits t) (sym more)
    (subst (λ y. with_logged y (Made change (with_more told change)) ≡ copy_of limits (with_more told change)) (sym is)
    (made_stands limits told change))

-- what is shown next, where one change waited
pub next_made : (x next : Copied) (change : Change) (trail : ToldList) (waits : List Entry) → MayShow x change trail
    → waits ≡ Made change trail ∷ [] → next ≡ fold with_logged x waits → next ≡ copy_of x.tables.limits trail
next_made x next change trail waits may one is =
    is ∙ (ap (fold with_logged x) one ∙ made_is x.tables.limits x.trail trail change x may.stands may.longer)

limits_stay : (tables : TableState) (list : List Change) → (fold applied tables list).limits ≡ tables.limits
limits_stay tables [] = refl
limits_stay tables (c ∷ list) = limits_stay (applied tables c) list

limits_are : (limits : Limits) (told : ToldList) (y : Copied) → y ≡ copy_of limits told → y.tables.limits ≡ limits
limits_are limits told y is = ap (λ (x : Copied). x.tables.limits) is ∙ limits_stay (no_changes limits) told.list

trail_is : (limits : Limits) (told : ToldList) (y : Copied) → y ≡ copy_of limits told → y.trail ≡ told
trail_is limits told y is = ap (λ (x : Copied). x.trail) is

-- what stands for a list stands for its own
pub stands_itself : (limits : Limits) (told : ToldList) (y : Copied) → y ≡ copy_of limits told
    → y ≡ copy_of y.tables.limits y.trail
stands_itself limits told y is =
    is ∙ (ap (λ l. copy_of l told) (sym (limits_are limits told y is))
    ∙ ap (λ t. copy_of y.tables.limits t) (sym (trail_is limits told y is)))

same_tables : (x : Copied) (change : Change) (trail : ToldList) (y : Copied) → MayShow x change trail
    → y ≡ copy_of x.tables.limits trail → IsSame x y
same_tables x change trail y may is = record {
  identity = sym (ap (λ (t : ToldList). t.identity) (trail_is x.tables.limits trail y is ∙ may.longer));
  limits = sym (limits_are x.tables.limits trail y is);
}

-- a publish of one change keeps the rule of the seats
pub publishes : (seat : ℕ) (v : Option Copied) (x next : Copied) (change : Change) (trail : ToldList) (waits : List Entry)
    → MayShow x change trail → waits ≡ Made change trail ∷ [] → next ≡ fold with_logged x waits
    → TurnsAt IsShared seat v x next Shows
publishes seat v x next change trail waits may one is =
    let shown = next_made x next change trail waits may one is in
    shows seat v x next (stands_itself x.tables.limits trail next shown) (same_tables x change trail next may shown)

-- a blank entry shows the same
pub next_blank : (x next : Copied) (waits : List Entry) → waits ≡ Blank ∷ [] → next ≡ fold with_logged x waits → next ≡ x
next_blank x next waits one is = is ∙ ap (fold with_logged x) one

pub publishes_blank : (seat : ℕ) (v : Option Copied) (x next : Copied) (waits : List Entry)
    → x ≡ copy_of x.tables.limits x.trail → waits ≡ Blank ∷ [] → next ≡ fold with_logged x waits
    → TurnsAt IsShared seat v x next Shows
publishes_blank seat v x next waits stands one is =
    let same : next ≡ x = next_blank x next waits one is in
    shows seat v x next (subst (λ y. y ≡ copy_of y.tables.limits y.trail) (sym same) stands)
    (subst (λ y. IsSame x y) (sym same) (record { identity = refl; limits = refl }))

-- a copy of known limits may show the next list
pub may_show : (limits : Limits) (told trail : ToldList) (change : Change) (x : Copied) → x ≡ copy_of limits told
    → trail ≡ with_more told change → MayShow x change trail
may_show limits told trail change x is more = record {
  stands = stands_itself limits told x is;
  longer = more ∙ ap (λ t. with_more t change) (sym (trail_is limits told x is));
}

-- what is shown, where the limits are known
pub shows_more : (limits : Limits) (told trail : ToldList) (change : Change) (x next : Copied) (waits : List Entry)
    → x ≡ copy_of limits told → MayShow x change trail → waits ≡ Made change trail ∷ [] → next ≡ fold with_logged x waits
    → next ≡ copy_of limits trail
shows_more limits told trail change x next waits stands may one is =
    next_made x next change trail waits may one is ∙ ap (λ l. copy_of l trail) (limits_are limits told x stands)

-- an answer that is Ok is the case of Ok
pub ok_case : {A E : Type 0} (r : Result A E) (P : A → Type 0) (Q : E → Type 0) → IsOk r → MatchResult r P Q → (x : A) × P x
ok_case (Ok x) P Q h m = (x, m)
ok_case (Err e) P Q h m = absurd (cc (h))

-- what follows of a value that is there
pub some_and : {A : Type 0} (o : Option A) (P Q : A → Type 0) → IsSomeAnd o P → ((x : A) → P x → Q x) → IsSomeAnd o Q
some_and None P Q h f = absurd h
some_and (Some x) P Q h f = f x h
