-- Commands for numbered elements, one more at a time.
use Rattle.std.proofs.Common.{◌≡◌, ℕ, suc, ◌+◌, ◌<◌, List, [], ◌∷◌, ◌++◌, map, length, get_or, take, sym, ap, ◌∙◌, arith}
use Rattle.std.specs.List.{enumerate_from, range_with_len}
use Rattle.std.proofs.lemmas.List.{append_assoc, get_or-map, length-map, length-take-le, map-append, take_more}
use Rattle.std.proofs.lemmas.List.FromFn.{map-range_with_len_more}
use Rattle.std.specs.Int.{div_ceil}
use Rattle.admin_wire.specs.declared.command.Command.{Command}
use Rattle.ff_headers.specs.declared.limits.Limits.{Limits}
use Rattle.ntuple_text.specs.declared.spec.Spec.{Spec}
use Rattle.ntuple_compile.specs.Compiled.{SelectorList, create_classifier, create_group, create_rule, creates_of, objects_of, rules_per_group, shapes_of, spec_rule}
use Rattle.ntuple_compile.specs.Selected.{selectors_of}

enumerate_from-push : {X : Type 0} (from : ℕ) (xs : List X) (x : X) → enumerate_from from (xs ++ x ∷ []) ≡ enumerate_from from xs ++ (from + length xs, x) ∷ []
enumerate_from-push from [] x =
    let same : from ≡ from + 0 = omega arith in
    ap (λ n. (n, x) ∷ []) same
enumerate_from-push from (y ∷ ys) x =
    let same : from + 1 + length ys ≡ from + suc (length ys) = omega arith in
    ap (λ rest. (from, y) ∷ rest) (enumerate_from-push (from + 1) ys x ∙ ap (λ n. enumerate_from (from + 1) ys ++ (n, x) ∷ []) same)

-- what is made of each numbered element, once one more is there
pub numbered_more : {X Y : Type 0} (f : ℕ × X → Y) (xs : List X) (i : ℕ) (d : X) → i < length xs → map f (enumerate_from 0 (take (i + 1) xs)) ≡ map f (enumerate_from 0 (take i xs)) ++ f (i, get_or xs i d) ∷ []
numbered_more f xs i d inside =
    let front : length (take i xs) ≡ i = length-take-le i xs (omega (arith, inside)) in
    let one = ap (λ ys. map f (enumerate_from 0 ys)) (take_more xs i d inside) in
    let more = ap (map f) (enumerate_from-push 0 (take i xs) (get_or xs i d)) in
    let place : 0 + length (take i xs) ≡ i = omega (arith, front) in
    one ∙ more ∙ map-append f (enumerate_from 0 (take i xs)) ((0 + length (take i xs), get_or xs i d) ∷ []) ∙ ap (λ (n : ℕ). map f (enumerate_from 0 (take i xs)) ++ f (n, get_or xs i d) ∷ []) place

-- ---- lists of commands

-- what is put behind a list, one more at a time
pub pushed : {X : Type 0} (base front whole old new : List X) (item : X) → old ≡ base ++ front → new ≡ old ++ item ∷ [] → whole ≡ front ++ item ∷ [] → new ≡ base ++ whole
pushed base front whole old new item was put more =
    put ∙ ap (λ t. t ++ item ∷ []) was ∙ append_assoc base front (item ∷ []) ∙ ap (λ t. base ++ t) (sym more)

pub groups_more : (id : ℕ) → map create_group (map (λ g. (g, g)) (range_with_len 0 (id + 1))) ≡ map create_group (map (λ g. (g, g)) (range_with_len 0 id)) ++ create_group (id, id) ∷ []
groups_more id =
    ap (map create_group) (map-range_with_len_more (λ g. (g, g)) 0 id id (omega arith)) ∙ map-append create_group (map (λ g. (g, g)) (range_with_len 0 id)) ((id, id) ∷ [])

pub classifiers_more : (firsts : List Spec) (id : ℕ) (d : Spec) → id < length firsts → map create_classifier (enumerate_from 0 (take (id + 1) (map selectors_of firsts))) ≡ map create_classifier (enumerate_from 0 (take id (map selectors_of firsts))) ++ create_classifier (id, selectors_of (get_or firsts id d)) ∷ []
classifiers_more firsts id d inside =
    let inside' : id < length (map selectors_of firsts) = omega (arith, inside, length-map firsts selectors_of) in
    numbered_more create_classifier (map selectors_of firsts) id [] inside' ∙ ap (λ shape. map create_classifier (enumerate_from 0 (take id (map selectors_of firsts))) ++ create_classifier (id, shape) ∷ []) (get_or-map selectors_of firsts id d [] inside)

pub rules_more : (size : ℕ) (shapes : List SelectorList) (specs : List Spec) (id : ℕ) (d : Spec) → id < length specs → map create_rule (map (λ e. (e.0, spec_rule size shapes e.0 e.1)) (enumerate_from 0 (take (id + 1) specs))) ≡ map create_rule (map (λ e. (e.0, spec_rule size shapes e.0 e.1)) (enumerate_from 0 (take id specs))) ++ create_rule (id, spec_rule size shapes id (get_or specs id d)) ∷ []
rules_more size shapes specs id d inside =
    let numbered = numbered_more (λ e. (e.0, spec_rule size shapes e.0 e.1)) specs id d inside in
    ap (map create_rule) numbered ∙ map-append create_rule (map (λ e. (e.0, spec_rule size shapes e.0 e.1)) (enumerate_from 0 (take id specs))) ((id, spec_rule size shapes id (get_or specs id d)) ∷ [])

-- all three parts, put one behind the other
pub all_put : (limits : Limits) (specs : List Spec) (count : ℕ) (firsts : List Spec) (start groups classifiers rules : List Command) → count ≡ div_ceil (length specs) (rules_per_group limits) → map selectors_of firsts ≡ shapes_of specs → start ≡ [] → groups ≡ start ++ map create_group (map (λ g. (g, g)) (range_with_len 0 count)) → classifiers ≡ groups ++ map create_classifier (enumerate_from 0 (map selectors_of firsts)) → rules ≡ classifiers ++ map create_rule (map (λ e. (e.0, spec_rule (rules_per_group limits) (map selectors_of firsts) e.0 e.1)) (enumerate_from 0 specs)) → rules ≡ creates_of (objects_of limits specs)
unfolding creates_of objects_of
all_put limits specs count firsts start groups classifiers rules filled shapes none put_groups put_classifiers put_rules =
    let first = put_groups ∙ ap (λ t. t ++ map create_group (map (λ g. (g, g)) (range_with_len 0 count))) none ∙ ap (λ n. map create_group (map (λ g. (g, g)) (range_with_len 0 n))) filled in
    let second = put_classifiers ∙ ap (λ t. t ++ map create_classifier (enumerate_from 0 (map selectors_of firsts))) first ∙ ap (λ s. map create_group (map (λ g. (g, g)) (range_with_len 0 (div_ceil (length specs) (rules_per_group limits)))) ++ map create_classifier (enumerate_from 0 s)) shapes in
    put_rules ∙ ap (λ t. t ++ map create_rule (map (λ e. (e.0, spec_rule (rules_per_group limits) (map selectors_of firsts) e.0 e.1)) (enumerate_from 0 specs))) second ∙ ap (λ s. (map create_group (map (λ g. (g, g)) (range_with_len 0 (div_ceil (length specs) (rules_per_group limits)))) ++ map create_classifier (enumerate_from 0 (shapes_of specs))) ++ map create_rule (map (λ e. (e.0, spec_rule (rules_per_group limits) s e.0 e.1)) (enumerate_from 0 specs))) shapes ∙ append_assoc (map create_group (map (λ g. (g, g)) (range_with_len 0 (div_ceil (length specs) (rules_per_group limits))))) (map create_classifier (enumerate_from 0 (shapes_of specs))) (map create_rule (map (λ e. (e.0, spec_rule (rules_per_group limits) (shapes_of specs) e.0 e.1)) (enumerate_from 0 specs)))
