-- Each line of a script's canonical text can be written, and is not skipped.
use Rattle.std.proofs.Common.{◌≡◌, ℕ, suc, zero, ◌≤◌, false, List, [], ◌∷◌, ◌++◌, map, codes, refl, sym, subst, arith, ⊎_elim}
use Rattle.std.specs.Cmp.Lexicographic.{pointwise}
use Rattle.std.specs.List.{All, AllByRecursion}
use Rattle.std.proofs.lemmas.Bool.{cases_Bool, cond-true, cond-false}
use Rattle.std.proofs.lemmas.List.Elements.{All-nil, All-cons, All-append, All-map, All-weaker}
use Rattle.ff_headers.specs.SelectorParts.{SelectorParts}
use Rattle.ff_headers.specs.declared.kind.Kind.{Kind}
use Rattle.ff_headers.specs.declared.kind.Kind.TheVariants.{Eth, Ipv4, Ipv6, Tcp, Udp}
use Rattle.vnff_base.specs.Lines.{is_skipped}
use Rattle.cap_table.specs.Caps.{AreCaps, CapsParts, all_selectors}
use Rattle.cap_table.specs.declared.start.Start.{Start}
use Rattle.cap_table.specs.declared.start.Start.TheVariants.{Ready, Reset}
use Rattle.vnff_run.specs.DeviceLines.{start_word}
use Rattle.vnff_run.specs.ScriptTexts.{device_words, is_selector, item_words, script_lines, select_words, selector_lines, version_words}
use Rattle.vnff_run.specs.SelectLines.{kind_word, mode_word}
use Rattle.vnff_run.specs.Spellable.{IsItem, IsNamed, IsSpellable}
use Rattle.vnff_run.specs.declared.script.Item.{Item}
use Rattle.vnff_run.specs.declared.script.Item.TheVariants.{Admin, Frame}
use Rattle.vnff_run.specs.declared.script.Script.{Script}
use Rattle.vnff_run.proofs.TextLines.{IsSpelled, IsSpelledLine, literal-spelled, decimal-spelled, hex-spelled}

all-spelled : (words : List (List ℕ)) → AllByRecursion IsSpelled words → All IsSpelled words
all-spelled [] good = All-nil IsSpelled
all-spelled (word ∷ words) good = All-cons IsSpelled word words good.0 (all-spelled words good.1)

line-spelled : (words : List (List ℕ)) → AllByRecursion IsSpelled words → is_skipped words ≡ false → IsSpelledLine words
line-spelled words spelled kept = record { spelled = all-spelled words spelled; kept = kept }

start-spelled : (start : Start) → IsSpelled (start_word start)
start-spelled Ready = literal-spelled (codes "ready") refl refl
start-spelled Reset = literal-spelled (codes "reset") refl refl

kind-spelled : (kind : Kind) → IsSpelled (kind_word kind)
kind-spelled Eth = literal-spelled (codes "eth") refl refl
kind-spelled Ipv4 = literal-spelled (codes "ipv4") refl refl
kind-spelled Ipv6 = literal-spelled (codes "ipv6") refl refl
kind-spelled Tcp = literal-spelled (codes "tcp") refl refl
kind-spelled Udp = literal-spelled (codes "udp") refl refl

mode-spelled : (flags : ℕ) → flags ≤ 1 → IsSpelled (mode_word flags)
mode-spelled zero few = literal-spelled (codes "whole") refl refl
mode-spelled (suc zero) few = literal-spelled (codes "partial") refl refl
mode-spelled (suc (suc flags)) few = absurd (omega (arith, few))

version-spelled : IsSpelledLine version_words
version-spelled =
    line-spelled version_words (literal-spelled (codes "vnff") refl refl, (literal-spelled (codes "1") refl refl, tt)) refl

device-spelled : (caps : CapsParts) (start : Start) → AreCaps caps → IsSpelledLine (device_words caps start)
unfolding device_words
device-spelled caps start good =
    let most = good.limits in
    line-spelled (device_words caps start) (literal-spelled (codes "device") refl refl, (decimal-spelled caps.pairs (omega (arith, good.pairs)), (decimal-spelled caps.limits.groups (omega (arith, most.groups)), (decimal-spelled caps.limits.classifiers (omega (arith, most.classifiers)), (decimal-spelled caps.limits.rules (omega (arith, most.rules)), (decimal-spelled caps.limits.per_group (omega (arith, most.per_group)), (decimal-spelled caps.limits.last_priority (omega (arith, most.last_priority)), (decimal-spelled caps.limits.selectors (omega (arith, most.selectors)), (start-spelled start, tt))))))))) refl

select-spelled : (selector : SelectorParts) → IsNamed selector → IsSpelledLine (select_words selector)
unfolding select_words
select-spelled selector named =
    line-spelled (select_words selector) (literal-spelled (codes "select") refl refl, (kind-spelled selector.kind, (mode-spelled selector.flags named.flags, (hex-spelled selector.mask, tt)))) refl

item-spelled : (item : Item) → IsItem item → IsSpelledLine (item_words item)
unfolding item_words
item-spelled (Admin line) good =
    line-spelled (item_words (Admin line)) (literal-spelled (codes "admin") refl refl, (hex-spelled line.bytes, (decimal-spelled line.room (omega (arith, good.within.room)), tt))) refl
item-spelled (Frame frame) good =
    line-spelled (item_words (Frame frame)) (literal-spelled (codes "frame") refl refl, (hex-spelled frame, tt)) refl

selectors-spelled : (selectors : List SelectorParts) → All IsNamed selectors → All IsSpelledLine (selector_lines selectors)
unfolding selector_lines
selectors-spelled selectors named =
    let five = pointwise is_selector selectors all_selectors in
    let own = map select_words selectors in
    let all = All-map IsSpelledLine select_words selectors (All-weaker IsNamed (λ selector. IsSpelledLine (select_words selector)) select-spelled selectors named) in
    ⊎_elim (λ is. subst (All IsSpelledLine) (sym (cond-true five [] own is)) (All-nil IsSpelledLine))
    (λ not. subst (All IsSpelledLine) (sym (cond-false five [] own not)) all)
    (cases_Bool five)

pub lines-spelled : (script : Script) → IsSpellable script → All IsSpelledLine (script_lines script)
lines-spelled script good =
    let selectors = selector_lines script.caps.selectors in
    let items = map item_words script.items in
    let rest = All-append IsSpelledLine selectors items (selectors-spelled script.caps.selectors good.named) (All-map IsSpelledLine item_words script.items (All-weaker IsItem (λ item. IsSpelledLine (item_words item)) item-spelled script.items good.items)) in
    All-cons IsSpelledLine version_words (device_words script.caps script.start ∷ (selectors ++ items)) version-spelled (All-cons IsSpelledLine (device_words script.caps script.start) (selectors ++ items) (device-spelled script.caps script.start good.caps) rest)
