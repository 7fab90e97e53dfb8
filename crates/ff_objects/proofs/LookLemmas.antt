-- What a query is answered with fits the bytes of a command.
use Rattle.std.proofs.Common.{◌≡◌, suc, ◌*◌, ◌≤◌, ap, arith, List, [], ◌∷◌, length, All, append-nil, length-append}
use Rattle.std.specs.List.{flat_map}
use Rattle.ff_headers.specs.declared.kind.Kind.{Kind}
use Rattle.ff_headers.specs.declared.kind.Kind.TheVariants.{Eth, Ipv4, Ipv6, Tcp, Udp}
use Rattle.ff_headers.specs.Kinds.{kind_size}
use Rattle.ff_headers.specs.RuleParts.{RuleParts}
use Rattle.ff_headers.specs.SelectorParts.{SelectorParts, IsWhole}
use Rattle.admin_wire.specs.Codes.{most_command_bytes}
use Rattle.admin_wire.specs.Fields.{written}
use Rattle.admin_wire.specs.Layouts.{selector_fields, object_fields}
use Rattle.admin_wire.proofs.Writing.{written-append, entry-length}
use Rattle.cap_table.specs.Answers.{classifier_data, rule_data}

size_within : (kind : Kind) → kind_size kind ≤ 40
size_within Eth = omega arith
size_within Ipv4 = omega arith
size_within Ipv6 = omega arith
size_within Tcp = omega arith
size_within Udp = omega arith

entries_within : (list : List SelectorParts) → All IsWhole list
    → length (written (flat_map selector_fields list)) ≤ 48 * length list
entries_within [] whole = omega arith
entries_within (s ∷ list) whole =
    let more = entries_within list (λ k d below. whole (suc k) d (omega arith)) in
    let here : length s.mask ≡ kind_size s.kind = whole 0 s (omega arith) in
    let joined = ap length (written-append (selector_fields s) (flat_map selector_fields list)) in
    let parts = length-append (written (selector_fields s)) (written (flat_map selector_fields list)) in
    omega (arith, more, here, joined, parts, entry-length s, size_within s.kind)

pub classifier_fits : (list : List SelectorParts) → All IsWhole list → length list ≤ 3
    → length (written (object_fields (classifier_data list))) ≤ most_command_bytes
classifier_fits list whole few = omega (arith, entries_within list whole)

pub rule_fits : (rule : RuleParts) → length rule.key ≤ 74
    → length (written (object_fields (rule_data rule))) ≤ most_command_bytes
rule_fits rule fits = omega (arith, fits, ap length (append-nil rule.key))
