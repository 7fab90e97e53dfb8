-- A list of selectors reads as it exactly where it is laid out.
use Rattle.std.proofs.Common.{◌≡◌, ◌≢◌, ℕ, zero, suc, ◌+◌, ◌<◌, ◌≤◌, ◌∙◌, sym, ap, subst, refl, arith, Bool, true, false, cond, ◌&&◌, eqb, leb, List, [], ◌∷◌, ◌++◌, length, get_or, take, drop, Option, Some, None, is_some, Ok, ◌⊎◌, inl, inr, ⊎_elim, All}
use Rattle.std.specs.List.{list_all, filter_map, cons_option, flat_map}
use Rattle.std.proofs.lemmas.Bool.{eq-eqb, le-leb, le-ltb, and_parts}
use Rattle.std.proofs.lemmas.Bool.Decides.{eqb_tells}
use Rattle.std.proofs.lemmas.List.{get_or-take, drop-take}
use Rattle.std.proofs.lemmas.Option.{option_and_then_some, cond_some}
use Rattle.byte_numbers.proofs.NumberLaws.{AreBytes, AreBytes-drop, piece-length}
use Rattle.ff_headers.specs.declared.kind.Kind.{Kind}
use Rattle.ff_headers.specs.declared.kind.Kind.TheVariants.{Eth, Ipv4, Ipv6, Tcp, Udp}
use Rattle.ff_headers.specs.Kinds.{kind_code, kind_of_code, kind_size}
use Rattle.ff_headers.specs.SelectorParts.{SelectorParts, IsWhole, selector_with}
use Rattle.admin_wire.specs.declared.command.RawList.{RawList}
use Rattle.admin_wire.specs.declared.command.RawList.TheVariants as lists
use Rattle.admin_wire.specs.Fields.{Field, Spells}
use Rattle.admin_wire.specs.LaidOut.{IsGoodList}
use Rattle.admin_wire.specs.Layouts.{selector_fields, list_fields}
use Rattle.admin_wire.specs.Lists.{whole_entry, entries_of, selector_of, raw_list, list_of}
use Rattle.admin_wire.proofs.Reading.{long_enough, after_step, Begins}
use Rattle.admin_wire.proofs.Spelled.{Spelled, spell_8, spell_reserved, spell_raw}
use Rattle.admin_wire.proofs.Walk.{Left-start, number_8, skipped, given_raw}

-- ---- what is laid out reads so

kind_of_code-kind_code : (kind : Kind) → kind_of_code (kind_code kind) ≡ Some kind
kind_of_code-kind_code Eth = refl
kind_of_code-kind_code Ipv4 = refl
kind_of_code-kind_code Ipv6 = refl
kind_of_code-kind_code Tcp = refl
kind_of_code-kind_code Udp = refl

selector_from : (s : SelectorParts) (entry : List ℕ) → IsWhole s → get_or entry 0 0 ≡ kind_code s.kind
    → get_or entry 1 0 ≡ s.flags
    → get_or entry 4 0 ≡ length s.mask → drop 8 entry ≡ s.mask → selector_of entry ≡ Some s
unfolding selector_of
selector_from s entry whole code flags len mask =
    rw (code, kind_of_code-kind_code s.kind, len, eq-eqb (length s.mask) (kind_size s.kind) whole, flags, mask) refl

-- an entry, and what follows it
entry_spelled : (s : SelectorParts) (bytes : List ℕ) (fields : List Field) (rest : List ℕ) → IsWhole s
    → Spells bytes (selector_fields s ++ fields) rest
    → (whole_entry bytes ≡ Ok (8 + length s.mask)) × (selector_of (take (8 + length s.mask) bytes) ≡ Some s)
    × Spells (drop (8 + length s.mask) bytes) fields rest
unfolding whole_entry
entry_spelled s bytes fields rest whole spells =
    let code = number_8 (Left-start bytes (selector_fields s ++ fields) rest spells) in
    let flags = number_8 code.1 in
    let len = number_8 (skipped flags.1) in
    let mask = given_raw (skipped len.1) in
    let l = mask.1 in
    let front : (place n : ℕ) → place < 8 → get_or bytes place 0 ≡ n → get_or (take (8 + length s.mask) bytes) place 0 ≡ n
    = λ place n below e. get_or-take (8 + length s.mask) bytes place 0 (omega arith) ∙ e in (
      rw (len.0, le-ltb (length bytes) (8 + length s.mask) (omega (arith, l.here.count))) refl,
      selector_from s (take (8 + length s.mask) bytes) whole (front 0 _ (omega arith) code.0) (front 1 _ (omega arith) flags.0)
          (front 4 _ (omega arith) len.0) (drop-take 8 (length s.mask) bytes ∙ mask.0),
      subst (λ xs. Spells xs fields rest) (sym l.here.left) l.spells,
    )

-- the entries of a list, each of which is its selector
record AreEntries (list : List SelectorParts) (bytes : List ℕ) : Type 0 where
  pub entries : List (List ℕ)
  pub cut : entries_of (length list) bytes ≡ Ok entries
  pub count : length entries ≡ length list
  pub known : list_all (λ entry. is_some (selector_of entry)) entries ≡ true
  pub selectors : filter_map selector_of entries ≡ list

one_more : (s : SelectorParts) (list : List SelectorParts) (bytes : List ℕ) → whole_entry bytes ≡ Ok (8 + length s.mask)
    → selector_of (take (8 + length s.mask) bytes) ≡ Some s → AreEntries list (drop (8 + length s.mask) bytes)
    → AreEntries (s ∷ list) bytes
unfolding entries_of
one_more s list bytes whole is more = record {
  entries = take (8 + length s.mask) bytes ∷ more.entries;
  cut = rw (whole, more.cut) refl;
  count = ap suc more.count;
  known = rw (is, more.known) refl;
  selectors = rw (is, more.selectors) refl;
}

entries_spelled : (list : List SelectorParts) (bytes rest : List ℕ) → All IsWhole list
    → Spells bytes (flat_map selector_fields list) rest
    → AreEntries list bytes
unfolding entries_of
entries_spelled [] bytes rest whole s = record { entries = []; cut = refl; count = refl; known = refl; selectors = refl }
entries_spelled (s ∷ list) bytes rest whole spells =
    let first = entry_spelled s bytes (flat_map selector_fields list) rest (whole 0 s (omega arith)) spells in
    one_more s list bytes first.0 first.1
    (entries_spelled list (drop (8 + length s.mask) bytes) rest (λ k d below. whole (suc k) d (omega arith)) first.2)

raw_list-of : (list : List SelectorParts) (bytes : List ℕ) → length list ≤ 5 → (read : AreEntries list bytes)
    → raw_list read.entries ≡ lists.Good (record { items = list })
unfolding raw_list
raw_list-of list bytes few read = rw (read.count, le-leb (length list) 5 few, read.known, read.selectors) refl

good_list_spelled : (list : List SelectorParts) (bytes rest : List ℕ) → length list ≤ 5 → All IsWhole list
    → Spells bytes (list_fields (lists.Good (record { items = list }))) rest
    → list_of bytes ≡ Ok (lists.Good (record { items = list }))
unfolding list_of
good_list_spelled list bytes rest few whole s =
    let count = number_8 (Left-start bytes (list_fields (lists.Good (record { items = list }))) rest s) in
    let l = skipped count.1 in
    let read = entries_spelled list (drop 8 bytes) rest whole (subst (λ xs. Spells xs (flat_map selector_fields list) rest) (sym l.here.left) l.spells) in
    rw (le-ltb (length bytes) 8 (omega (arith, l.here.count)), count.0, read.cut, raw_list-of list (drop 8 bytes) few read) refl

pub list_spelled : (list : RawList) (bytes rest : List ℕ) → IsGoodList list → Spells bytes (list_fields list) rest
    → list_of bytes ≡ Ok list
list_spelled (lists.Good list) bytes rest good s = good_list_spelled list.items bytes rest good.0 good.1 s
list_spelled lists.Odd bytes rest good s = absurd good

-- ---- what reads so is laid out

one_kind : (code n : ℕ) (first kind : Kind) (other : Option Kind) → cond (eqb code n) (Some first) other ≡ Some kind
    → ((code ≡ n) × (first ≡ kind)) ⊎ (other ≡ Some kind)
one_kind code n first kind other h = ⊎_elim
    (λ (same : (eqb code n ≡ true) × (code ≡ n)).
    let found : Some first ≡ Some kind = subst (λ b. cond b (Some first) other ≡ Some kind) same.0 h in inl (same.1, cc found))
    (λ (apart : (eqb code n ≡ false) × (code ≢ n)). inr (subst (λ b. cond b (Some first) other ≡ Some kind) apart.0 h))
    (eqb_tells code n)

kind_back : (code : ℕ) (kind : Kind) → kind_of_code code ≡ Some kind → code ≡ kind_code kind
kind_back code kind h = ⊎_elim
    (λ (is : (code ≡ 1) × (Eth ≡ kind)). is.0 ∙ ap kind_code is.1)
    (λ not_eth. ⊎_elim
    (λ (is : (code ≡ 2) × (Ipv4 ≡ kind)). is.0 ∙ ap kind_code is.1)
    (λ not_ipv4. ⊎_elim
    (λ (is : (code ≡ 3) × (Ipv6 ≡ kind)). is.0 ∙ ap kind_code is.1)
    (λ not_ipv6. ⊎_elim
    (λ (is : (code ≡ 4) × (Tcp ≡ kind)). is.0 ∙ ap kind_code is.1)
    (λ not_tcp. ⊎_elim
    (λ (is : (code ≡ 5) × (Udp ≡ kind)). is.0 ∙ ap kind_code is.1)
    (λ (none : None ≡ Some kind). absurd cc)
    (one_kind code 5 Udp kind _ not_tcp))
    (one_kind code 4 Tcp kind _ not_ipv6))
    (one_kind code 3 Ipv6 kind _ not_ipv4))
    (one_kind code 2 Ipv4 kind _ not_eth))
    (one_kind code 1 Eth kind _ h)

record IsEntryOf (s : SelectorParts) (entry : List ℕ) : Type 0 where
  pub code : get_or entry 0 0 ≡ kind_code s.kind
  pub flags : get_or entry 1 0 ≡ s.flags
  pub mask : drop 8 entry ≡ s.mask

selector_back : (s : SelectorParts) (entry : List ℕ) → selector_of entry ≡ Some s → IsEntryOf s entry
unfolding selector_of
selector_back s entry h =
    option_and_then_some _ (kind_of_code (get_or entry 0 0)) s h
    (λ kind known found.
    let parts = cond_some (eqb (get_or entry 4 0) (kind_size kind)) (selector_with kind (get_or entry 1 0) (drop 8 entry)) s found in
    record {
      code = kind_back (get_or entry 0 0) kind known ∙ ap (λ (x : SelectorParts). kind_code x.kind) parts.1;
      flags = ap (λ (x : SelectorParts). x.flags) parts.1;
      mask = ap (λ (x : SelectorParts). x.mask) parts.1;
    })

-- an entry that is a selector, and the fields behind it
entry_back : (s : SelectorParts) (bytes : List ℕ) (fields : List Field) (end : List ℕ) → AreBytes bytes
    → 8 + get_or bytes 4 0 ≤ length bytes → selector_of (take (8 + get_or bytes 4 0) bytes) ≡ Some s
    → Spells (drop (8 + get_or bytes 4 0) bytes) fields end → Spells bytes (selector_fields s ++ fields) end
entry_back s bytes fields end all whole known more =
    let len = get_or bytes 4 0 in
    let is = selector_back s (take (8 + len) bytes) known in
    let front : (place : ℕ) → place < 8 → get_or bytes place 0 ≡ get_or (take (8 + len) bytes) place 0
    = λ place below. sym (get_or-take (8 + len) bytes place 0 (omega arith)) in
    let mask : take len (drop 8 bytes) ≡ s.mask = sym (drop-take 8 len bytes) ∙ is.mask in
    let size : len ≡ length s.mask = sym (piece-length bytes 8 len whole) ∙ ap length mask in
    let given : take (length s.mask) (drop 8 bytes) ≡ s.mask = subst (λ n. take n (drop 8 bytes) ≡ s.mask) size mask in
    let next : Spelled bytes (8 + length s.mask) fields end
    = record { spells = subst (λ n. Spells (drop (8 + n) bytes) fields end) size more } in
    let read : Spelled bytes 0 (selector_fields s ++ fields) end
    = spell_8 all (omega arith) (front 0 (omega arith) ∙ is.code) (spell_8 all (omega arith) (front 1 (omega arith) ∙ is.flags)
    (spell_reserved (omega arith) (spell_8 all (omega arith) size (spell_reserved (omega arith) (spell_raw given next))))) in
    read.spells

-- the bytes spell so many selectors
record SpellList (bytes : List ℕ) (count : ℕ) (selectors : List SelectorParts) : Type 0 where
  pub end : List ℕ
  pub spells : Spells bytes (flat_map selector_fields selectors) end
  pub counted : length selectors ≡ count

whole_back : (bytes : List ℕ) (len : ℕ) → whole_entry bytes ≡ Ok len
    → (8 + get_or bytes 4 0 ≤ length bytes) × (8 + get_or bytes 4 0 ≡ len)
unfolding whole_entry
whole_back bytes len h =
    let whole = long_enough (length bytes) (8 + get_or bytes 4 0) _ _ len h in
    let is : 8 + get_or bytes 4 0 ≡ len = cc whole.1 in (whole.0, is)

first_back : (bytes : List ℕ) (count : ℕ) (selectors : List SelectorParts) (found : Option SelectorParts)
    → AreBytes bytes
    → 8 + get_or bytes 4 0 ≤ length bytes → selector_of (take (8 + get_or bytes 4 0) bytes) ≡ found
    → is_some found ≡ true
    → SpellList (drop (8 + get_or bytes 4 0) bytes) count selectors
    → SpellList bytes (suc count) (cons_option found selectors)
first_back bytes count selectors None all whole is some more = absurd cc
first_back bytes count selectors (Some s) all whole is some more = record {
  end = more.end;
  spells = entry_back s bytes (flat_map selector_fields selectors) more.end all whole is more.spells;
  counted = ap suc more.counted;
}

entries_back : (count : ℕ) (bytes : List ℕ) (entries : List (List ℕ)) → AreBytes bytes
    → entries_of count bytes ≡ Ok entries
    → list_all (λ entry. is_some (selector_of entry)) entries ≡ true
    → SpellList bytes count (filter_map selector_of entries)
unfolding entries_of
entries_back zero bytes entries all h known =
    let none : [] ≡ entries = cc h in
    subst (λ (es : List (List ℕ)). SpellList bytes 0 (filter_map selector_of es)) none (record { end = bytes; spells = refl; counted = refl })
entries_back (suc count) bytes entries all h known =
    let first = after_step (whole_entry bytes) _ entries h in
    let whole = whole_back bytes first.0 first.1 in
    let len = 8 + get_or bytes 4 0 in
    let others = after_step (entries_of count (drop first.0 bytes)) _ entries first.2 in
    let read : entries_of count (drop len bytes) ≡ Ok others.0 = subst (λ n. entries_of count (drop n bytes) ≡ Ok others.0) (sym whole.1) others.1 in
    let is : take first.0 bytes ∷ others.0 ≡ entries = cc others.2 in
    let cut : take len bytes ∷ others.0 ≡ entries = ap (λ n. take n bytes ∷ others.0) whole.1 ∙ is in
    let each : list_all (λ entry. is_some (selector_of entry)) (take len bytes ∷ others.0) ≡ true
    = subst (λ (es : List (List ℕ)). list_all (λ entry. is_some (selector_of entry)) es ≡ true) (sym cut) known in
    let tests = and_parts (is_some (selector_of (take len bytes))) (list_all (λ entry. is_some (selector_of entry)) others.0) each in
    let more = entries_back count (drop len bytes) others.0 (AreBytes-drop bytes len all) read tests.1 in
    subst (λ (es : List (List ℕ)). SpellList bytes (suc count) (filter_map selector_of es)) cut
    (first_back bytes count (filter_map selector_of others.0) (selector_of (take len bytes)) all whole.0 refl tests.0 more)

good_test : (test : Bool) (list : RawList) → IsGoodList (cond test list lists.Odd) → test ≡ true
good_test true list good = refl
good_test false list good = absurd good

raw_list_back : (entries : List (List ℕ)) → IsGoodList (raw_list entries)
    → (list_all (λ entry. is_some (selector_of entry)) entries ≡ true)
    × (raw_list entries ≡ lists.Good (record { items = filter_map selector_of entries }))
unfolding raw_list
raw_list_back entries good =
    let test = good_test (leb (length entries) 5 && list_all (λ entry. is_some (selector_of entry)) entries) _ good in
    let parts = and_parts (leb (length entries) 5) (list_all (λ entry. is_some (selector_of entry)) entries) test in
    (parts.1, rw (parts.0, parts.1) refl)

pub list_back : (list : RawList) (bytes : List ℕ) → AreBytes bytes → IsGoodList list → list_of bytes ≡ Ok list
    → Begins bytes (list_fields list)
unfolding list_of
list_back list bytes all good h =
    let whole = long_enough (length bytes) 8 _ _ list h in
    let step = after_step (entries_of (get_or bytes 0 0) (drop 8 bytes)) _ list whole.1 in
    let is : raw_list step.0 ≡ list = cc step.2 in
    let raws = raw_list_back step.0 (subst IsGoodList (sym is) good) in
    let read = entries_back (get_or bytes 0 0) (drop 8 bytes) step.0 (AreBytes-drop bytes 8 all) step.1 raws.0 in
    let next : Spelled bytes 8 (flat_map selector_fields (filter_map selector_of step.0)) read.end = record { spells = read.spells } in
    let spelled : Spelled bytes 0 (list_fields (lists.Good (record { items = filter_map selector_of step.0 }))) read.end
    = spell_8 all (omega (arith, whole.0)) (sym read.counted) (spell_reserved (omega (arith, whole.0)) next) in
    subst (λ l. Begins bytes (list_fields l)) (sym raws.1 ∙ is) (read.end, spelled.spells)
