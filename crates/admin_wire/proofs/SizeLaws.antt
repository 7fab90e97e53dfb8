-- A command over selectors of distinct types fits the bytes of a command.
use Rattle.std.proofs.Common.{◌≡◌, ℕ, suc, ◌+◌, ◌≤◌, ap, refl, arith, Bool, true, false, cond, ◌||◌, nat_eq, List, [], ◌∷◌, length, All, append-nil, length-append}
use Rattle.std.specs.List.{flat_map, list_any, IsDistinct, AllByRecursion}
use Rattle.ff_headers.specs.declared.kind.Kind.{Kind}
use Rattle.ff_headers.specs.declared.kind.Kind.TheVariants.{Eth, Ipv4, Ipv6, Tcp, Udp}
use Rattle.ff_headers.specs.Kinds.{kind_code, kind_size}
use Rattle.ff_headers.specs.SelectorParts.{SelectorParts, IsWhole}
use Rattle.ff_headers.specs.Shapes.{codes_of, has_kind}
use Rattle.admin_wire.specs.declared.command.CapData.{CapData}
use Rattle.admin_wire.specs.declared.command.CapData.TheVariants as caps
use Rattle.admin_wire.specs.declared.command.Command.{Command}
use Rattle.admin_wire.specs.declared.command.Command.TheVariants.{ListQuery, ListUse, CapIds, CapGet, CapSet, Create, Modify, Query, Destroy}
use Rattle.admin_wire.specs.declared.command.ObjData.{ObjData}
use Rattle.admin_wire.specs.declared.command.ObjData.TheVariants.{Group, Classifier, Rule, Other}
use Rattle.admin_wire.specs.declared.command.RawKey.{RawKey}
use Rattle.admin_wire.specs.declared.command.RawKey.TheVariants as keys
use Rattle.admin_wire.specs.declared.command.RawList.{RawList}
use Rattle.admin_wire.specs.declared.command.RawList.TheVariants as lists
use Rattle.admin_wire.specs.Fields.{written}
use Rattle.admin_wire.specs.LaidOut.{IsGoodList, IsGoodKey, HasObjectLayout, HasCapLayout, HasLayout, IsDistinctList, IsDistinctObject, IsDistinctCap, HasDistinctTypes}
use Rattle.admin_wire.specs.Layouts.{selector_fields, list_fields, key_bytes, object_fields, action_bytes, cap_fields, data_fields, command_bytes}
use Rattle.admin_wire.proofs.Writing.{written-append, entry-length}

-- ---- selectors of distinct types

-- the sizes of the entries whose types stand in a list
room_of : Bool → Bool → Bool → Bool → Bool → ℕ
room_of eth ipv4 ipv6 tcp udp = cond eth 22 0 + cond ipv4 28 0 + cond ipv6 48 0 + cond tcp 28 0 + cond udp 16 0

room : List SelectorParts → ℕ
room list = room_of (has_kind Eth list) (has_kind Ipv4 list) (has_kind Ipv6 list) (has_kind Tcp list) (has_kind Udp list)

at_most : (b : Bool) (n : ℕ) → cond b n 0 ≤ n
at_most true n = omega arith
at_most false n = omega arith

room_below : (list : List SelectorParts) → room list ≤ 142
unfolding room room_of
room_below list =
    omega (
      arith,
      at_most (has_kind Eth list) 22,
      at_most (has_kind Ipv4 list) 28,
      at_most (has_kind Ipv6 list) 48,
      at_most (has_kind Tcp list) 28,
      at_most (has_kind Udp list) 16,
    )

-- with one entry more
room_with : Kind → List SelectorParts → ℕ
room_with kind list =
    room_of (nat_eq (kind_code Eth) (kind_code kind) || has_kind Eth list) (nat_eq (kind_code Ipv4) (kind_code kind) || has_kind Ipv4 list)
    (nat_eq (kind_code Ipv6) (kind_code kind) || has_kind Ipv6 list) (nat_eq (kind_code Tcp) (kind_code kind) || has_kind Tcp list)
    (nat_eq (kind_code Udp) (kind_code kind) || has_kind Udp list)

not_counted : (b : Bool) (n : ℕ) → b ≡ false → cond b n 0 ≡ 0
not_counted b n is = rw is refl

-- a type that is new takes its own room
new_type : (kind : Kind) (list : List SelectorParts) (n : ℕ) → has_kind kind list ≡ false → n ≤ room list
    → 8 + kind_size kind + n ≤ room_with kind list
unfolding room room_with room_of
new_type Eth list n new fits = omega (arith, not_counted (has_kind Eth list) 22 new)
new_type Ipv4 list n new fits = omega (arith, not_counted (has_kind Ipv4 list) 28 new)
new_type Ipv6 list n new fits = omega (arith, not_counted (has_kind Ipv6 list) 48 new)
new_type Tcp list n new fits = omega (arith, not_counted (has_kind Tcp list) 28 new)
new_type Udp list n new fits = omega (arith, not_counted (has_kind Udp list) 16 new)

more_room : (s : SelectorParts) (list : List SelectorParts) → room_with s.kind list ≡ room (s ∷ list)
unfolding room room_with room_of
more_room s list = refl

none_of : (code : ℕ) (codes : List ℕ) → AllByRecursion (λ y. nat_eq code y ≡ false) codes
    → list_any (nat_eq code) codes ≡ false
none_of code [] all = refl
none_of code (y ∷ codes) all = rw all.0 (none_of code codes all.1)

entries_fit : (list : List SelectorParts) → All IsWhole list → IsDistinct nat_eq (codes_of list)
    → length (written (flat_map selector_fields list)) ≤ room list
unfolding IsDistinct
entries_fit [] whole distinct = omega arith
entries_fit (s ∷ list) whole distinct =
    let more = entries_fit list (λ k d below. whole (suc k) d (omega arith)) distinct.1 in
    let here : length s.mask ≡ kind_size s.kind = whole 0 s (omega arith) in
    let joined = ap length (written-append (selector_fields s) (flat_map selector_fields list)) in
    let parts = length-append (written (selector_fields s)) (written (flat_map selector_fields list)) in
    let fits = new_type s.kind list _ (none_of (kind_code s.kind) (codes_of list) distinct.0) more in
    omega (arith, here, joined, parts, entry-length s, fits, more_room s list)

list_fits : (list : RawList) → IsGoodList list → IsDistinctList list → length (written (list_fields list)) ≤ 150
list_fits (lists.Good list) good distinct =
    omega (arith, entries_fit list.items good.1 distinct, room_below list.items)
list_fits lists.Odd good distinct = absurd good

-- ---- the data of a command

key_fits : (key : RawKey) → IsGoodKey key → length (key_bytes key) ≤ 74
key_fits (keys.Good key) good = good
key_fits keys.Odd good = absurd good

object_fits : (type_code : ℕ) (object : ObjData) → HasObjectLayout type_code object → IsDistinctObject object
    → length (written (object_fields object)) ≤ 150
object_fits type_code (Group priority) has distinct = omega arith
object_fits type_code (Classifier list) has distinct = list_fits list has.1 distinct
object_fits type_code (Rule rule) has distinct =
    omega (arith, key_fits rule.key has.1, ap length (append-nil (key_bytes rule.key)))
object_fits type_code Other has distinct = omega arith

few_actions : (drops queues other : Bool)
    → length (action_bytes (record { drop = drops; queue = queues; other = other })) ≤ 2
few_actions true true other = omega arith
few_actions true false other = omega arith
few_actions false true other = omega arith
few_actions false false other = omega arith

cap_fits : (cap : CapData) → HasCapLayout cap → IsDistinctCap cap → length (written (cap_fields cap)) ≤ 150
cap_fits (caps.Limits limits) has distinct = omega arith
cap_fits (caps.Selectors list) has distinct = list_fits list has distinct
cap_fits (caps.Actions actions) has distinct =
    omega (arith, few_actions actions.drop actions.queue actions.other, ap length (append-nil (action_bytes actions)))
cap_fits (caps.Other id) has distinct = omega arith

data_fits : (command : Command) → HasLayout command → HasDistinctTypes command
    → length (written (data_fields command)) ≤ 166
data_fits ListQuery has distinct = omega arith
data_fits (ListUse bitmap) has distinct = omega arith
data_fits CapIds has distinct = omega arith
data_fits (CapGet id) has distinct = omega arith
data_fits (CapSet cap) has distinct = omega (arith, cap_fits cap has distinct)
data_fits (Create head object) has distinct = omega (arith, object_fits head.type_code object has distinct)
data_fits (Modify head object) has distinct = omega (arith, object_fits head.type_code object has distinct)
data_fits (Query head) has distinct = omega arith
data_fits (Destroy head) has distinct = omega arith

-- 24 bytes of header, and at most 166 of data
pub command_fits : (command : Command) → HasLayout command → HasDistinctTypes command
    → length (command_bytes command) ≤ 190
command_fits command has distinct = omega (arith, data_fits command has distinct)
