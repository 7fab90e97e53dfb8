-- The canonical text of a script is read as that script.
use Rattle.std.proofs.Common.{◌≡◌, ℕ, suc, zero, ◌+◌, ◌<◌, ◌≤◌, true, List, [], ◌∷◌, ◌++◌, length, get_or, map, drop, codes, Some, Result, Ok, refl, sym, ap, subst, ◌∙◌, arith, ⊎_elim}
use Rattle.std.specs.Cmp.Lexicographic.{pointwise}
use Rattle.std.specs.Fmt.{decimal}
use Rattle.std.specs.List.{All}
use Rattle.std.specs.List.Sorted.{IsStrictlyIncreasing}
use Rattle.std.specs.Str.Lines.{lines}
use Rattle.std.proofs.lemmas.Bool.{cases_Bool, cond-true, cond-false, and_parts, eqb-true, lt-ltb}
use Rattle.std.proofs.lemmas.List.Elements.{All-nil, All-cons, All-head, All-tail}
use Rattle.std.proofs.lemmas.Slice.Eq.{bytes_eq-Decides}
use Rattle.ff_headers.specs.Kinds.{kind_code, kind_of_code, kind_size}
use Rattle.ff_headers.specs.SelectorParts.{SelectorParts, IsWhole, selector_with}
use Rattle.ff_headers.specs.Shapes.{codes_of}
use Rattle.ff_headers.specs.declared.kind.Kind.{Kind}
use Rattle.ff_headers.specs.declared.kind.Kind.TheVariants.{Eth, Ipv4, Ipv6, Tcp, Udp}
use Rattle.vnff_base.specs.Lines.{NumberedLine, line_count}
use Rattle.cap_table.specs.Caps.{AreCaps, CapsParts, all_selectors}
use Rattle.cap_table.specs.declared.start.Start.{Start}
use Rattle.vnff_run.specs.DeviceLines.{caps_of, device_of, is_version}
use Rattle.vnff_run.specs.Grammar.{after_version, device_in, items_of, script_of, script_of_lines, first_selectors, caps_with_selectors}
use Rattle.vnff_run.specs.ItemLines.{admin_of, frame_item, item_of}
use Rattle.vnff_run.specs.ScriptTexts.{device_words, is_selector, item_words, script_lines, script_text, select_words, selector_lines, version_words}
use Rattle.vnff_run.specs.SelectLines.{is_select, selector_in_line}
use Rattle.vnff_run.specs.Spellable.{IsCommand, IsFrame, IsItem, IsNamed, IsSpellable}
use Rattle.steer.specs.declared.admin_line.AdminLine.{AdminLine}
use Rattle.vnff_run.specs.declared.script.Item.{Item}
use Rattle.vnff_run.specs.declared.script.Item.TheVariants.{Admin, Frame}
use Rattle.vnff_run.specs.declared.error.Reason.{Reason}
use Rattle.vnff_run.specs.declared.error.Reason.TheVariants as reasons
use Rattle.vnff_run.specs.declared.script.Script.{Script}
use Rattle.vnff_run.proofs.SpelledLines.{lines-spelled}
use Rattle.vnff_run.proofs.TextLines.{numbered_words, lines-read}
use Rattle.vnff_run.proofs.WordReadBack.{number-read, bytes-read, start-read, kind-read, flags-read}

-- ---- the device's line

-- a device before lines name its selectors
abbrev bare : CapsParts → CapsParts
bare caps = record { pairs = caps.pairs; limits = caps.limits; selectors = all_selectors }

abbrev caps_from : CapsParts → Result CapsParts Reason
caps_from caps =
    let limits = caps.limits in
    caps_of (decimal caps.pairs) (decimal limits.groups) (decimal limits.classifiers) (decimal limits.rules) (decimal limits.per_group) (decimal limits.last_priority) (decimal limits.selectors)

caps-read : (caps : CapsParts) → AreCaps caps → caps_from caps ≡ Ok (bare caps)
unfolding caps_of
caps-read caps good =
    let limits = good.limits in
    let n = reasons.Number in
    rw (
      number-read n 1 16 caps.pairs good.some_pair good.pairs (omega (arith, good.pairs)),
      number-read n 0 16 caps.limits.groups (omega arith) limits.groups (omega (arith, limits.groups)),
      number-read n 0 64 caps.limits.classifiers (omega arith) limits.classifiers (omega (arith, limits.classifiers)),
      number-read n 0 1024 caps.limits.rules (omega arith) limits.rules (omega (arith, limits.rules)),
      number-read n 0 1024 caps.limits.per_group (omega arith) limits.per_group (omega (arith, limits.per_group)),
      number-read n 0 255 caps.limits.last_priority (omega arith) limits.last_priority (omega (arith, limits.last_priority)),
      number-read n 0 3 caps.limits.selectors (omega arith) limits.selectors (omega (arith, limits.selectors)),
    ) refl

device-read : (caps : CapsParts) (start : Start) → AreCaps caps → device_of (device_words caps start) ≡ Ok (record { caps = bare caps; start = start })
unfolding device_of device_words
device-read caps start good = rw (start-read start, caps-read caps good) refl

-- ---- the lines of selectors

tail_rises : (x : ℕ) (xs : List ℕ) → IsStrictlyIncreasing (x ∷ xs) → IsStrictlyIncreasing xs
tail_rises x xs rising =
    λ k inside. let e : suc k + 1 ≡ suc (k + 1) = omega arith in
    subst (λ (n : ℕ). get_or xs k 0 < get_or (x ∷ xs) n 0) e (rising (suc k) (omega (arith, inside)))

-- types are above 0
codes_rise : (codes : List ℕ) → All (λ code. 0 < code) codes → IsStrictlyIncreasing codes → IsStrictlyIncreasing (0 ∷ codes)
codes_rise [] above rising k inside = absurd (omega (arith, inside))
codes_rise (code ∷ codes) above rising zero inside = All-head (λ c. 0 < c) code codes above
codes_rise (code ∷ codes) above rising (suc k) inside =
    let e : suc (k + 1) ≡ suc k + 1 = omega arith in
    subst (λ (n : ℕ). get_or (code ∷ codes) k 0 < get_or (0 ∷ code ∷ codes) n 0) e (rising k (omega (arith, inside)))

code-above : (kind : Kind) → 0 < kind_code kind
code-above Eth = omega arith
code-above Ipv4 = omega arith
code-above Ipv6 = omega arith
code-above Tcp = omega arith
code-above Udp = omega arith

codes-above : (selectors : List SelectorParts) → All (λ code. 0 < code) (codes_of selectors)
codes-above [] = All-nil (λ code. 0 < code)
codes-above (selector ∷ selectors) =
    All-cons (λ code. 0 < code) (kind_code selector.kind) (codes_of selectors) (code-above selector.kind) (codes-above selectors)

selector-read : (last : ℕ) (selector : SelectorParts) → last < kind_code selector.kind → IsWhole selector → IsNamed selector → selector_in_line last (drop 1 (select_words selector)) ≡ Ok selector
unfolding selector_in_line select_words
selector-read last selector above whole named =
    let size = kind_size selector.kind in
    rw (kind-read selector.kind, flags-read selector.flags named.flags, bytes-read reasons.Select size size selector.mask named.mask (omega (arith, whole)) (omega (arith, whole))) (cond-true _ _ _ (lt-ltb last (kind_code selector.kind) above))

select-begins : (selector : SelectorParts) → is_select (select_words selector) ≡ true
unfolding is_select select_words
select-begins selector = refl

-- no line of an item names a selector
items-begin : (last from : ℕ) (items : List Item) → first_selectors last (numbered_words from (map item_words items)) ≡ Ok ([], numbered_words from (map item_words items))
unfolding first_selectors is_select item_words
items-begin last from [] = refl
items-begin last from (Admin line ∷ items) = refl
items-begin last from (Frame frame ∷ items) = refl

selectors-read : (last from : ℕ) (selectors : List SelectorParts) (items : List Item) → IsStrictlyIncreasing (last ∷ codes_of selectors) → All IsWhole selectors → All IsNamed selectors → first_selectors last (numbered_words from (map select_words selectors ++ map item_words items)) ≡ Ok (selectors, numbered_words (from + length selectors) (map item_words items))
unfolding first_selectors
selectors-read last from [] items rising whole named = items-begin last from items ∙ ap (λ n. Ok ([], numbered_words n (map item_words items))) (omega arith)
selectors-read last from (selector ∷ selectors) items rising whole named =
    let above : last < kind_code selector.kind = rising 0 (omega arith) in
    let rest = selectors-read (kind_code selector.kind) (from + 1) selectors items (tail_rises last (codes_of (selector ∷ selectors)) rising) (All-tail IsWhole selector selectors whole) (All-tail IsNamed selector selectors named) in
    rw (select-begins selector, selector-read last selector above (All-head IsWhole selector selectors whole) (All-head IsNamed selector selectors named), rest) (ap (λ n. Ok (selector ∷ selectors, numbered_words n (map item_words items))) (omega arith))

-- ---- the lines of items

admin-read : (line : AdminLine) → IsCommand line → item_of (item_words (Admin line)) ≡ Ok (Admin line)
unfolding item_of admin_of item_words
admin-read line good =
    rw (bytes-read reasons.Hex 1 1024 line.bytes good.bytes good.within.some good.within.most, number-read reasons.Room 0 4096 line.room (omega arith) good.within.room (omega (arith, good.within.room))) refl

frame-read : (frame : List ℕ) → IsFrame frame → item_of (item_words (Frame frame)) ≡ Ok (Frame frame)
unfolding item_of frame_item item_words
frame-read frame good = rw (bytes-read reasons.Hex 0 262144 frame good.bytes (omega arith) good.most) refl

item-read : (item : Item) → IsItem item → item_of (item_words item) ≡ Ok item
item-read (Admin line) good = admin-read line good
item-read (Frame frame) good = frame-read frame good

items-read : (from : ℕ) (items : List Item) → All IsItem items → items_of (numbered_words from (map item_words items)) ≡ Ok items
unfolding items_of
items-read from [] good = refl
items-read from (item ∷ items) good =
    rw (item-read item (All-head IsItem item items good), items-read (from + 1) items (All-tail IsItem item items good)) refl

-- ---- the whole

version-read : (missing : ℕ) (lines : List NumberedLine) → after_version missing (record { number = 1; words = version_words } ∷ lines) ≡ Ok lines
unfolding after_version is_version
version-read missing lines = refl

device_in-read : (missing : ℕ) (caps : CapsParts) (start : Start) (lines : List NumberedLine) → AreCaps caps → device_in missing (record { number = 2; words = device_words caps start } ∷ lines) ≡ Ok (record { caps = bare caps; start = start }, lines)
unfolding device_in
device_in-read missing caps start lines good = rw (device-read caps start good) refl

-- no two headers have one type
kind-coded : (kind : Kind) → kind_of_code (kind_code kind) ≡ Some kind
kind-coded Eth = refl
kind-coded Ipv4 = refl
kind-coded Ipv6 = refl
kind-coded Tcp = refl
kind-coded Udp = refl

kinds-same : (a b : Kind) → kind_code a ≡ kind_code b → a ≡ b
kinds-same a b same =
    let coded : Some a ≡ Some b = sym (kind-coded a) ∙ (ap kind_of_code same ∙ kind-coded b) in
    cc

-- the test of selectors decides
selectors-same : (xs ys : List SelectorParts) → pointwise is_selector xs ys ≡ true → xs ≡ ys
selectors-same [] [] same = refl
selectors-same [] (y ∷ ys) same = absurd (cc)
selectors-same (x ∷ xs) [] same = absurd (cc)
selectors-same (x ∷ xs) (y ∷ ys) same =
    let parts = and_parts _ _ same in
    let kind = and_parts _ _ parts.0 in
    let rest = and_parts _ _ kind.1 in
    let kinds = kinds-same x.kind y.kind (eqb-true _ _ kind.0) in
    let flags = eqb-true _ _ rest.0 in
    let masks = (bytes_eq-Decides x.mask y.mask).0 rest.1 in
    let first : x ≡ y = ap (λ k. selector_with k x.flags x.mask) kinds ∙ (ap (λ f. selector_with y.kind f x.mask) flags ∙ ap (selector_with y.kind y.flags) masks) in
    ap (λ s. s ∷ xs) first ∙ ap (λ more. y ∷ more) (selectors-same xs ys parts.1)

-- selectors that lines name are the device's
selectors-kept : (caps : CapsParts) (selectors : List SelectorParts) → 1 ≤ length selectors → caps_with_selectors (bare caps) selectors ≡ record { pairs = caps.pairs; limits = caps.limits; selectors = selectors }
selectors-kept caps [] some = absurd (omega (arith, some))
selectors-kept caps (selector ∷ selectors) some = refl

-- what the lines before the items give: nothing, or each of the device's selectors
record IsSelected (script : Script) (first : Result (List SelectorParts × List NumberedLine) (ℕ × Reason)) : Type 0 where
  selectors : List SelectorParts
  from : ℕ
  read : first ≡ Ok (selectors, numbered_words from (map item_words script.items))
  same : caps_with_selectors (bare script.caps) selectors ≡ script.caps

selected-read : (script : Script) → IsSpellable script → IsSelected script (first_selectors 0 (numbered_words 3 (selector_lines script.caps.selectors ++ map item_words script.items)))
unfolding selector_lines
selected-read script good =
    let selectors = script.caps.selectors in
    let items = map item_words script.items in
    let test = pointwise is_selector selectors all_selectors in
    let read : List (List (List ℕ)) → Result (List SelectorParts × List NumberedLine) (ℕ × Reason) = λ front. first_selectors 0 (numbered_words 3 (front ++ items)) in
    ⊎_elim (λ all. record {
      selectors = [];
      from = 3;
      read = ap read (cond-true test [] (map select_words selectors) all) ∙ items-begin 0 3 script.items;
      same = ap (λ s. record { pairs = script.caps.pairs; limits = script.caps.limits; selectors = s }) (sym (selectors-same selectors all_selectors all));
    })
    (λ own. record {
      selectors = selectors;
      from = 3 + length selectors;
      read = ap read (cond-false test [] (map select_words selectors) own) ∙ selectors-read 0 3 selectors script.items (codes_rise (codes_of selectors) (codes-above selectors) good.caps.selectors.rising) good.caps.selectors.whole good.named;
      same = selectors-kept script.caps selectors good.some_selector;
    })
    (cases_Bool test)

-- ---- the whole text

pub script-read : (script : Script) → IsSpellable script → script_of (script_text script) ≡ Ok script
unfolding script_of_lines script_text
script-read script good =
    let missing = 1 + line_count (script_text script) in
    let selected = selected-read script good in
    rw (lines-read 1 (script_lines script) (lines-spelled script good), version-read missing _, device_in-read missing script.caps script.start _ good.caps, selected.read, items-read selected.from script.items good.items, selected.same) refl
