-- The first `::` of a word is found place by place.
use Rattle.std.proofs.Common.{◌≡◌, ℕ, ◌+◌, ◌<◌, ◌≤◌, true, false, List, [], ◌∷◌, length, drop, get_or, sym, ap, ◌∙◌, Some, None, Option, refl, arith}
use Rattle.std.specs.Option.{option_map}
use Rattle.std.proofs.lemmas.Bool.{cond-true, cond-false}
use Rattle.std.proofs.lemmas.List.{drop_more, length-drop}
use Rattle.ntuple_text.specs.Addresses.{gap_of, is_gap}

-- a place in the rest of a word, as one of the word
abbrev pub gap_after : ℕ → Option ℕ → Option ℕ
gap_after place rest = option_map (λ n. n + place) rest

pub gap_after-zero : (rest : Option ℕ) → rest ≡ gap_after 0 rest
gap_after-zero None = refl
gap_after-zero (Some n) = let e : n ≡ n + 0 = omega arith in ap Some e

gap_after-one : (place : ℕ) (rest : Option ℕ) → gap_after place (option_map (λ n. n + 1) rest) ≡ gap_after (place + 1) rest
gap_after-one place None = refl
gap_after-one place (Some n) = let e : n + 1 + place ≡ n + (place + 1) = omega arith in ap Some e

rest-at : (word : List ℕ) (place : ℕ) → place + 1 < length word → drop place word ≡ get_or word place 0 ∷ get_or word (place + 1) 0 ∷ drop (place + 1 + 1) word
rest-at word place inside = drop_more word place 0 (omega arith) ∙ ap (λ rest. get_or word place 0 ∷ rest) (drop_more word (place + 1) 0 inside)

pub gap-here : (word : List ℕ) (place : ℕ) → place + 1 < length word → gap_of word ≡ gap_after place (gap_of (drop place word)) → is_gap (get_or word place 0) (get_or word (place + 1) 0) ≡ true → gap_of word ≡ Some place
gap-here word place inside later here =
    let a = get_or word place 0 in
    let b = get_or word (place + 1) 0 in
    let found = cond-true (is_gap a b) (Some 0) (option_map (λ n. n + 1) (gap_of (b ∷ drop (place + 1 + 1) word))) here in
    let e : 0 + place ≡ place = omega arith in
    later ∙ (ap (λ rest. gap_after place (gap_of rest)) (rest-at word place inside) ∙ (ap (gap_after place) found ∙ ap Some e))

pub gap-on : (word : List ℕ) (place : ℕ) → place + 1 < length word → gap_of word ≡ gap_after place (gap_of (drop place word)) → is_gap (get_or word place 0) (get_or word (place + 1) 0) ≡ false → gap_of word ≡ gap_after (place + 1) (gap_of (drop (place + 1) word))
gap-on word place inside later other =
    let a = get_or word place 0 in
    let b = get_or word (place + 1) 0 in
    let rest = b ∷ drop (place + 1 + 1) word in
    let on = cond-false (is_gap a b) (Some 0) (option_map (λ n. n + 1) (gap_of rest)) other in
    later ∙ (ap (λ rest. gap_after place (gap_of rest)) (rest-at word place inside) ∙ (ap (gap_after place) on ∙ (gap_after-one place (gap_of rest) ∙ ap (λ tail. gap_after (place + 1) (gap_of tail)) (sym (drop_more word (place + 1) 0 inside)))))

short-none : (rest : List ℕ) → length rest ≤ 1 → gap_of rest ≡ None
short-none [] h = refl
short-none (a ∷ []) h = refl
short-none (a ∷ b ∷ more) h = absurd (omega arith)

pub gap-none : (word : List ℕ) (place : ℕ) → length word ≤ place + 1 → gap_of word ≡ gap_after place (gap_of (drop place word)) → gap_of word ≡ None
gap-none word place past later =
    later ∙ ap (gap_after place) (short-none (drop place word) (omega (arith, length-drop place word)))

pub ruleset gap_steps = (gap_after-zero, gap-here, gap-on, gap-none)
