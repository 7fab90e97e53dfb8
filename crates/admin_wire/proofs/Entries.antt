-- The list of selectors that is read entry by entry is that of all its entries.
use Rattle.std.proofs.Common.{◌≡◌, ℕ, zero, suc, ◌+◌, ◌-◌, ◌<◌, ◌≤◌, ◌∙◌, ap, refl, arith, Bool, true, false, cond, ◌&&◌, leb, ltb, List, [], ◌∷◌, ◌++◌, length, get_or, take, drop, Option, Some, None, is_some, Result, Ok, Err, append-nil, append_assoc, le-ltb}
use Rattle.std.specs.List.{list_all, filter_map, cons_option}
use Rattle.std.specs.Option.{option_map_or}
use Rattle.std.proofs.lemmas.List.{length_push, take_rest}
use Rattle.std.proofs.lemmas.List.Elements.{filter_map-append}
use Rattle.std.proofs.lemmas.List.Folds.{list_all-append}
use Rattle.std.proofs.lemmas.Bool.Decides.{nat_tests}
use Rattle.arrayvec.specs.ArrayVec.{ArrayVec}
use Rattle.ff_headers.specs.SelectorParts.{SelectorParts}
use Rattle.admin_wire.specs.declared.command.RawList.{RawList}
use Rattle.admin_wire.specs.declared.command.RawList.TheVariants.{Good, Odd}
use Rattle.admin_wire.specs.declared.error.WireErr.{WireErr}
use Rattle.admin_wire.specs.Faults.{◌>>=◌}
use Rattle.admin_wire.specs.Lists.{whole_entry, entries_of, selector_of, raw_list, with_entry, list_of}

-- where each item gives something, as many are given as there are
more_given : {Y : Type 0} (found : Option Y) (rest : List Y) (all : Bool) (n : ℕ) → (is_some found && all) ≡ true
    → (all ≡ true → length rest ≡ n) → length (cons_option found rest) ≡ suc n
more_given None rest all n h given = cc
more_given (Some y) rest all n h given = ap suc (given h)

length-filter_map : {X Y : Type 0} (f : X → Option Y) (xs : List X) → list_all (λ x. is_some (f x)) xs ≡ true
    → length (filter_map f xs) ≡ length xs
length-filter_map f [] h = refl
length-filter_map f (x ∷ xs) h =
    more_given (f x) (filter_map f xs) (list_all (λ y. is_some (f y)) xs) (length xs) h (length-filter_map f xs)

-- one more place of a good list, by what is known of its entries
added : RawList → Option SelectorParts → RawList
added (Good list) found = option_map_or
    (λ selector. cond (ltb (length list.items) 5) (Good (record { items = list.items ++ selector ∷ [] })) Odd) found Odd
added Odd found = Odd

one_more : (n : ℕ) (all : Bool) (found : Option SelectorParts) (selectors : List SelectorParts)
    → (all ≡ true → length selectors ≡ n)
    → cond (leb (n + 1) 5 && (all && (is_some found && true))) (Good (record { items = selectors ++ cons_option found [] })) Odd
    ≡ added (cond (leb n 5 && all) (Good (record { items = selectors })) Odd) found
unfolding added
one_more n true None selectors h = grind (arith, nat_tests)
one_more n true (Some s) selectors h = grind (arith, nat_tests, h refl)
one_more n false None selectors h = grind (arith, nat_tests)
one_more n false (Some s) selectors h = grind (arith, nat_tests)

added_is : (list : RawList) (entry : List ℕ) → added list (selector_of entry) ≡ with_entry list entry
unfolding added with_entry
added_is (Good list) entry = refl
added_is Odd entry = refl

-- one more entry
pub raw_list-push : (entries : List (List ℕ)) (entry : List ℕ)
    → raw_list (entries ++ entry ∷ []) ≡ with_entry (raw_list entries) entry
unfolding raw_list
raw_list-push entries entry =
    rw (length_push entries entry, list_all-append (λ x. is_some (selector_of x)) entries (entry ∷ []), filter_map-append selector_of entries (entry ∷ []))
    (one_more (length entries) _ (selector_of entry) (filter_map selector_of entries) (length-filter_map selector_of entries)
    ∙ added_is _ entry)

-- a list that is read on, with so many entries to come
unfoldable pub list_from : RawList → ℕ → List ℕ → Result RawList WireErr
list_from list zero bytes = Ok list
list_from list (suc count) bytes = do
  len ← whole_entry bytes
  list_from (with_entry list (take len bytes)) count (drop len bytes)

-- what comes at last, from the entries so far
abbrev at_last : List (List ℕ) → Result (List (List ℕ)) WireErr → Result RawList WireErr
at_last entries read = read >>= λ others. Ok (raw_list (entries ++ others))

at_last-more : (entries : List (List ℕ)) (entry : List ℕ) (read : Result (List (List ℕ)) WireErr)
    → at_last (entries ++ entry ∷ []) read ≡ at_last entries (read >>= λ others. Ok (entry ∷ others))
at_last-more entries entry (Ok others) = rw append_assoc refl
at_last-more entries entry (Err fault) = refl

-- the same from one entry on, where it is so from the next on
one_entry : (count : ℕ) (entries : List (List ℕ)) (bytes : List ℕ)
    → ((es : List (List ℕ)) (rest : List ℕ) → list_from (raw_list es) count rest ≡ at_last es (entries_of count rest))
    → (read : Result ℕ WireErr)
    → (read >>= λ len. list_from (with_entry (raw_list entries) (take len bytes)) count (drop len bytes))
    ≡ at_last entries (read >>= λ len. entries_of count (drop len bytes) >>= λ others. Ok (take len bytes ∷ others))
one_entry count entries bytes again (Ok len) = rw (← raw_list-push entries (take len bytes))
    (again (entries ++ take len bytes ∷ []) (drop len bytes) ∙ at_last-more entries (take len bytes) (entries_of count (drop len bytes)))
one_entry count entries bytes again (Err fault) = refl

list_from-entries : (count : ℕ) (entries : List (List ℕ)) (bytes : List ℕ)
    → list_from (raw_list entries) count bytes ≡ at_last entries (entries_of count bytes)
unfolding list_from entries_of
list_from-entries zero entries bytes = rw append-nil refl
list_from-entries (suc count) entries bytes = one_entry count entries bytes (list_from-entries count) (whole_entry bytes)

-- a list is read from none of its entries
pub list_from_none : (none : ArrayVec SelectorParts) (bytes : List ℕ) → none.items ≡ [] → 8 ≤ length bytes
    → list_from (Good none) (get_or bytes 0 0 - 0) (take (length bytes - 8) (drop 8 bytes)) ≡ list_of bytes
unfolding list_of
list_from_none none bytes empty whole =
    let good : Good none ≡ raw_list [] = unfold raw_list in ap (λ (xs : List SelectorParts). Good (record { items = xs })) empty in
    let none_read : get_or bytes 0 0 - 0 ≡ get_or bytes 0 0 = omega arith in
    rw (take_rest, none_read, le-ltb, good) (list_from-entries (get_or bytes 0 0) [] (drop 8 bytes))

-- one entry is read, where entries are to come
pub list_from_more : (list more : RawList) (count read len : ℕ) (bytes entry after : List ℕ) → read < count
    → Ok len ≡ whole_entry bytes
    → entry ≡ take len bytes → after ≡ drop len bytes → more ≡ with_entry list entry
    → list_from more (count - (read + 1)) after ≡ list_from list (count - read) bytes
unfolding list_from
list_from_more list more count read len bytes entry after below whole front rest added =
    let e : count - read ≡ suc (count - (read + 1)) = omega arith in rw (e, ← whole, added, front, rest) refl

-- the next entry is cut
pub list_from_cut : (list : RawList) (count read : ℕ) (bytes : List ℕ) (fault : WireErr) → read < count
    → Err fault ≡ whole_entry bytes
    → list_from list (count - read) bytes ≡ Err fault
unfolding list_from
list_from_cut list count read bytes fault below cut =
    let e : count - read ≡ suc (count - (read + 1)) = omega arith in rw (e, ← cut) refl

-- no entry is to come
pub list_from_all : (list : RawList) (count read : ℕ) (bytes : List ℕ) → count ≤ read
    → list_from list (count - read) bytes ≡ Ok list
unfolding list_from
list_from_all list count read bytes above = let e : count - read ≡ 0 = omega arith in rw e refl
