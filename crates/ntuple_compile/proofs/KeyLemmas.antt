-- The sizes of a spec's key, and that a spec which lines can spell gives no more than its fields' bits.
use Rattle.std.proofs.Common.{◌≡◌, ℕ, zero, suc, ◌+◌, ◌<◌, ◌≤◌, List, [], ◌∷◌, map, length, get_or, take, refl, sym, ap, ◌∙◌, arith}
use Rattle.std.specs.Prelude.{flat_map, All}
use Rattle.std.proofs.lemmas.List.{length-append}
use Rattle.std.proofs.lemmas.List.Sums.{sum_by-cons}
use Rattle.ff_headers.specs.Fields.{fields_of}
use Rattle.ff_headers.specs.Kinds.{kind_size}
use Rattle.ff_headers.specs.Matching.{key_size}
use Rattle.ff_headers.specs.SelectorParts.{SelectorParts}
use Rattle.ff_headers.specs.declared.kind.Kind.{Kind}
use Rattle.ntuple_text.specs.Spellable.{IsSpellable}
use Rattle.ntuple_text.specs.declared.spec.Flow.{Flow}
use Rattle.ntuple_text.specs.declared.spec.Flow.TheVariants.{Ether, Ip4, Tcp4, Udp4, Ip6, Tcp6, Udp6}
use Rattle.ntuple_text.specs.declared.spec.Spec.{Spec}
use Rattle.ntuple_compile.specs.SpecFits.{kinds_of, named_fields}
use Rattle.ntuple_compile.specs.Selected.{AreGiven, AreGivenIn, given_for, key_for, key_part, mask_for, selector_of_mask, selectors_of}
use Rattle.ntuple_compile.proofs.Bridge.{EachGiven, all_are_parts, flow_parts, length-key_part}

-- ---- what is given

each_is_given : (spec : Spec) (kinds : List Kind) → EachGiven spec kinds → All (AreGivenIn spec) kinds
each_is_given spec [] parts k d inside = absurd (omega (arith, inside))
each_is_given spec (kind ∷ kinds) parts zero d inside = all_are_parts (given_for (named_fields spec kind)) (fields_of kind) parts.0
each_is_given spec (kind ∷ kinds) parts (suc k) d inside = each_is_given spec kinds parts.1 k d (omega (arith, inside))

-- a spec that a line can spell gives no more than its fields' bits
pub spellable_is_given : (spec : Spec) (pairs : ℕ) → IsSpellable pairs spec → AreGiven spec
spellable_is_given spec pairs spellable = each_is_given spec (kinds_of spec.flow) (flow_parts spec spec.flow spellable.parts)

-- ---- sizes

abbrev sizes : List Kind → ℕ
sizes [] = 0
sizes (kind ∷ kinds) = kind_size kind + sizes kinds

pub length-keys : (spec : Spec) (kinds : List Kind) → length (flat_map (key_part spec) kinds) ≡ sizes kinds
length-keys spec [] = refl
length-keys spec (kind ∷ kinds) =
    omega (arith, length-append (key_part spec kind) (flat_map (key_part spec) kinds), length-key_part spec kind, length-keys spec kinds)

key_size_of : (spec : Spec) (kinds : List Kind) → key_size (map (λ kind. selector_of_mask kind (mask_for spec kind)) kinds) ≡ sizes kinds
key_size_of spec [] = refl
key_size_of spec (kind ∷ kinds) =
    sum_by-cons (λ (s : SelectorParts). kind_size s.kind) (selector_of_mask kind (mask_for spec kind)) (map (λ k. selector_of_mask k (mask_for spec k)) kinds) ∙ ap (λ n. kind_size kind + n) (key_size_of spec kinds)

-- a key has the size of the selectors that it is for
pub key_sized : (spec : Spec) → length (key_for spec) ≡ key_size (selectors_of spec)
unfolding key_for selectors_of
key_sized spec = length-keys spec (kinds_of spec.flow) ∙ sym (key_size_of spec (kinds_of spec.flow))

front_sizes : (kinds : List Kind) (i : ℕ) (d : Kind) → i < length kinds → sizes (take i kinds) + kind_size (get_or kinds i d) ≤ sizes kinds
front_sizes [] i d inside = absurd (omega (arith, inside))
front_sizes (kind ∷ kinds) zero d inside = omega arith
front_sizes (kind ∷ kinds) (suc i) d inside = omega (arith, front_sizes kinds i d (omega (arith, inside)))

flow_sizes : (flow : Flow) → sizes (kinds_of flow) ≤ 74
flow_sizes Ether = omega arith
flow_sizes Ip4 = omega arith
flow_sizes Tcp4 = omega arith
flow_sizes Udp4 = omega arith
flow_sizes Ip6 = omega arith
flow_sizes Tcp6 = omega arith
flow_sizes Udp6 = omega arith

-- a key has room for one part more
pub key_room : (spec : Spec) (flow : Flow) (i : ℕ) (d : Kind) → i < length (kinds_of flow) → length (flat_map (key_part spec) (take i (kinds_of flow))) + kind_size (get_or (kinds_of flow) i d) ≤ 74
key_room spec flow i d inside =
    omega (arith, length-keys spec (take i (kinds_of flow)), front_sizes (kinds_of flow) i d inside, flow_sizes flow)

-- a key isn't longer than a rule's may be
pub key_short : (spec : Spec) → length (key_for spec) ≤ 74
unfolding key_for
key_short spec = omega (arith, length-keys spec (kinds_of spec.flow), flow_sizes spec.flow)
