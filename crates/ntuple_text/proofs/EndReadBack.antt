-- The action and the location of a spec's line are read back.
use Rattle.std.proofs.Common.{◌≡◌, ℕ, ◌<◌, ◌≤◌, ◌^◌, false, List, [], ◌∷◌, get_or, ap, refl, arith, ⊎_elim, nat_lt, true, ◌∙◌, None, codes, if◌then◌else◌, Ok, Err, is_some}
use Rattle.std.specs.Fmt.{decimal}
use Rattle.std.specs.Str.{bytes_eq}
use Rattle.std.proofs.lemmas.Bool.{cases_Bool, cond-true, cond-false, lt-ltb}
use Rattle.std.proofs.lemmas.Fmt.{decimal_is_IsNumeral}
use Rattle.std.proofs.lemmas.Slice.Eq.{bytes_eq-Decides}
use Rattle.std.proofs.lemmas.Str.Parse.{digit_at}
use Rattle.ntuple_text.specs.Drafts.{with_awaits, with_option, read_options, read_word, with_value_word, with_action, with_loc}
use Rattle.ntuple_text.specs.Keys.{key_of}
use Rattle.ntuple_text.specs.Spellable.{IsActionOf}
use Rattle.ntuple_text.specs.Steps.{and_then}
use Rattle.ntuple_text.specs.Values.{action_value, location_value, queue_value}
use Rattle.ntuple_text.specs.declared.draft.Awaits.TheVariants.{Value}
use Rattle.ntuple_text.specs.declared.draft.Draft.{Draft}
use Rattle.ntuple_text.specs.declared.error.Fault.TheVariants as fault
use Rattle.ntuple_text.specs.declared.key.OptionKey.TheVariants as key
use Rattle.ntuple_text.specs.declared.spec.TableDo.{TableDo}
use Rattle.ntuple_text.specs.declared.spec.TableDo.TheVariants.{Drop, Queue}
use Rattle.ntuple_text.proofs.OptionSteps.{options-step, is_ready, ready-word, unless_stood-new}
use Rattle.ntuple_text.proofs.ReadBackLemmas.{numeral_of-decimal}
use Rattle.ntuple_text.proofs.WordsReadBack.{action_word, end_words}

-- the number of a queue is not read as a drop
decimal-other : (n : ℕ) → n < 2 ^ 64 → bytes_eq (decimal n) (codes "-1") ≡ false
decimal-other n small =
    let digits = decimal_is_IsNumeral n small in
    let first = digit_at (decimal n) 0 digits.0.1 digits.0.0 in
    ⊎_elim (λ same. let is : decimal n ≡ codes "-1" = (bytes_eq-Decides (decimal n) (codes "-1")).0 same in absurd (omega (arith, first, ap (λ word. get_or word 0 0) is)))
    (λ other. other)
    (cases_Bool (bytes_eq (decimal n) (codes "-1")))

-- an action and a location, as they are written
action-read : (pairs : ℕ) (action : TableDo) → pairs ≤ 16 → IsActionOf pairs action → action_value pairs (action_word action) ≡ Ok action
unfolding action_value queue_value
action-read pairs Drop few below = refl
action-read pairs (Queue queue) few below =
    cond-false (bytes_eq (decimal queue) (codes "-1")) (Ok Drop) (queue_value pairs (decimal queue)) (decimal-other queue (omega arith)) ∙ (ap (and_then (λ n. if nat_lt n pairs then Ok (Queue n) else Err fault.Queue)) (numeral_of-decimal queue (omega arith)) ∙ cond-true (nat_lt queue pairs) (Ok (Queue queue)) (Err fault.Queue) (lt-ltb queue pairs below))

location-read : (loc : ℕ) → loc < 1024 → location_value (decimal loc) ≡ Ok loc
unfolding location_value
location-read loc below =
    ap (and_then (λ n. if nat_lt n 1024 then Ok n else Err fault.Loc)) (numeral_of-decimal loc (omega arith)) ∙ cond-true (nat_lt loc 1024) (Ok loc) (Err fault.Loc) (lt-ltb loc 1024 below)

-- the words before them
action-named : (pairs : ℕ) (draft : Draft) → is_ready draft.awaits ≡ true → draft.action ≡ None → read_word pairs draft (codes "action") ≡ Ok (with_awaits draft (Value key.Action))
unfolding with_option key_of
action-named pairs draft ready new =
    ready-word pairs draft (codes "action") key.Action ready refl refl ∙ unless_stood-new draft key.Action (is_some draft.action) (ap is_some new)

loc-named : (pairs : ℕ) (draft : Draft) → is_ready draft.awaits ≡ true → draft.loc ≡ None → read_word pairs draft (codes "loc") ≡ Ok (with_awaits draft (Value key.Loc))
unfolding with_option key_of
loc-named pairs draft ready new =
    ready-word pairs draft (codes "loc") key.Loc ready refl refl ∙ unless_stood-new draft key.Loc (is_some draft.loc) (ap is_some new)

-- and these words themselves
action-valued : (pairs : ℕ) (draft : Draft) (action : TableDo) (word : List ℕ) → action_value pairs word ≡ Ok action → read_word pairs (with_awaits draft (Value key.Action)) word ≡ Ok (with_action draft action)
unfolding read_word with_value_word
action-valued pairs draft action word good = ap (and_then (λ read. Ok (with_action draft read))) good

loc-valued : (pairs : ℕ) (draft : Draft) (loc : ℕ) (word : List ℕ) → location_value word ≡ Ok loc → read_word pairs (with_awaits draft (Value key.Loc)) word ≡ Ok (with_loc draft loc)
unfolding read_word with_value_word
loc-valued pairs draft loc word good = ap (and_then (λ read. Ok (with_loc draft read))) good

-- the end of a line
pub end-read : (pairs : ℕ) (draft : Draft) (action : TableDo) (loc : ℕ) → is_ready draft.awaits ≡ true → draft.action ≡ None → draft.loc ≡ None → pairs ≤ 16 → IsActionOf pairs action → loc < 1024 → read_options pairs draft (end_words action loc) ≡ Ok (with_loc (with_action draft action) loc)
end-read pairs draft action loc ready acts stands few below inside =
    let acted = with_action draft action in
    let locate = codes "loc" ∷ decimal loc ∷ [] in
    options-step pairs draft (with_awaits draft (Value key.Action)) (codes "action") (action_word action ∷ locate) (action-named pairs draft ready acts) ∙ (options-step pairs (with_awaits draft (Value key.Action)) acted (action_word action) locate (action-valued pairs draft action (action_word action) (action-read pairs action few below)) ∙ (options-step pairs acted (with_awaits acted (Value key.Loc)) (codes "loc") (decimal loc ∷ []) (loc-named pairs acted refl stands) ∙ options-step pairs (with_awaits acted (Value key.Loc)) (with_loc acted loc) (decimal loc) [] (loc-valued pairs acted loc (decimal loc) (location-read loc inside))))
