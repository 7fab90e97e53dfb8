-- The definitions at worked examples.
use Rattle.std.proofs.Common.{◌≡◌, ℕ, ◌+◌, ◌-◌, ◌*◌, ◌^◌, true, false, List, [], ◌∷◌, ◌++◌, map, drop, replicate, Some, None, refl}
use Rattle.ff_headers.specs.Kinds.{kind_of_code, kind_size}
use Rattle.ff_headers.specs.SelectorParts.{SelectorParts, selector_with}
use Rattle.ff_headers.specs.RuleParts.{RuleParts, rule_with}
use Rattle.ff_headers.specs.Shapes.{shape_fault}
use Rattle.ff_headers.specs.Fields.{field, value_at, fields_of, is_allowed}
use Rattle.ff_headers.specs.Frames.{headers_of}
use Rattle.ff_headers.specs.Matching.{fits, matches, key_size, parts_of}
use Rattle.ff_headers.specs.Objects.{FlowObjects}
use Rattle.ff_headers.specs.Places.{rule_matches, first_rule, action_of}
use Rattle.ff_headers.specs.Changes.{is_sound, with_change_made, step, after, change_count, saturated}
use Rattle.ff_headers.specs.declared.kind.Kind.{Kind}
use Rattle.ff_headers.specs.declared.kind.Kind.TheVariants.{Eth, Ipv4, Ipv6, Tcp, Udp}
use Rattle.ff_headers.specs.declared.limits.Limits.{Limits}
use Rattle.ff_headers.specs.declared.error.ShapeErr.TheVariants.{Empty, Order, BothIp, BothPorts}
use Rattle.ff_headers.specs.declared.change.Change.{Change}
use Rattle.ff_headers.specs.declared.change.Change.TheVariants.{PutGroup, DropGroup, PutClassifier, PutRule, DropRule, Close}
use Rattle.ff_headers.specs.declared.rule.RuleAction.TheVariants as rule_action
use Rattle.ff_headers.specs.declared.rule.Action.TheVariants as action

codes_end : (kind_of_code 5 ≡ Some Udp) × (kind_of_code 6 ≡ None)
codes_end = (refl, refl)

-- ---- shapes; the masks are of no matter here

eth : SelectorParts
eth = selector_with Eth 0 []

ipv4 : SelectorParts
ipv4 = selector_with Ipv4 0 []

ipv6 : SelectorParts
ipv6 = selector_with Ipv6 0 []

tcp : SelectorParts
tcp = selector_with Tcp 0 []

udp : SelectorParts
udp = selector_with Udp 0 []

good_shape : shape_fault (eth ∷ ipv6 ∷ udp ∷ []) ≡ None
unfolding shape_fault eth ipv6 udp
good_shape = refl

no_selector : shape_fault [] ≡ Some Empty
unfolding shape_fault
no_selector = refl

twice_one_type : shape_fault (eth ∷ eth ∷ []) ≡ Some Order
unfolding shape_fault eth
twice_one_type = refl

two_ips : shape_fault (ipv4 ∷ ipv6 ∷ tcp ∷ udp ∷ []) ≡ Some BothIp
unfolding shape_fault ipv4 ipv6 tcp udp
two_ips = refl

two_ports : shape_fault (eth ∷ tcp ∷ udp ∷ []) ≡ Some BothPorts
unfolding shape_fault eth tcp udp
two_ports = refl

largest_key : key_size (eth ∷ ipv6 ∷ tcp ∷ []) ≡ 74
unfolding eth ipv6 tcp
largest_key = refl

-- ---- frames: two addresses and the type 0x0800

frame : List ℕ
frame = 1 ∷ 2 ∷ 3 ∷ 4 ∷ 5 ∷ 6 ∷ 7 ∷ 8 ∷ 9 ∷ 10 ∷ 11 ∷ 12 ∷ 8 ∷ 0 ∷ []

whole_header : (headers_of (frame ++ 255 ∷ [])).eth ≡ Some frame
unfolding headers_of frame
whole_header = refl

short_frame : (headers_of (replicate 13 0)).eth ≡ None
unfolding headers_of
short_frame = refl

-- compares the low four bits of the first byte, and the type
by_type : SelectorParts
by_type = selector_with Eth 1 (15 ∷ replicate 11 0 ++ 255 ∷ 255 ∷ [])

-- the bits outside the mask differ
ip_key : List ℕ
ip_key = 241 ∷ replicate 11 77 ++ 8 ∷ 0 ∷ []

masked_match : matches (by_type ∷ []) ip_key (headers_of frame) ≡ true
unfolding matches fits headers_of frame by_type ip_key
masked_match = refl

other_bit : matches (by_type ∷ []) (242 ∷ replicate 11 77 ++ 8 ∷ 0 ∷ []) (headers_of frame) ≡ false
unfolding matches fits headers_of frame by_type
other_bit = refl

no_header : matches (by_type ∷ []) ip_key (headers_of []) ≡ false
unfolding matches fits headers_of by_type ip_key
no_header = refl

cut_key : parts_of (eth ∷ udp ∷ []) (replicate 14 1 ++ replicate 8 2) ≡ replicate 14 1 ∷ replicate 8 2 ∷ []
unfolding eth udp
cut_key = refl

-- ---- fields

-- each field begins where the one before it ends, and the last one ends with the header
one_after_another : (kind : Kind) → map (λ f. f.first + f.bits) (fields_of kind) ≡ map (λ f. f.first) (drop 1 (fields_of kind)) ++ 8 * kind_size kind ∷ []
one_after_another Eth = refl
one_after_another Ipv4 = refl
one_after_another Ipv6 = refl
one_after_another Tcp = refl
one_after_another Udp = refl

eth_type : value_at (field 96 16) frame ≡ 2048
unfolding frame
eth_type = refl

-- flags 2 (a fragment must not follow) and the offset 7937
flags_byte : List ℕ
flags_byte = replicate 6 0 ++ 95 ∷ 1 ∷ replicate 12 0

ipv4_flags : value_at (field 48 3) flags_byte ≡ 2
unfolding flags_byte
ipv4_flags = refl

ipv4_offset : value_at (field 51 13) flags_byte ≡ 7937
unfolding flags_byte
ipv4_offset = refl

-- version 6, traffic class 171, and flow label 826077
two_nibbles : List ℕ
two_nibbles = 106 ∷ 188 ∷ 154 ∷ 221 ∷ replicate 36 0

traffic_class : value_at (field 4 8) two_nibbles ≡ 171
unfolding two_nibbles
traffic_class = refl

flow_label : value_at (field 12 20) two_nibbles ≡ 826077
unfolding two_nibbles
flow_label = refl

ipv6_source : value_at (field 64 128) (replicate 23 255 ++ 254 ∷ replicate 16 0) ≡ 2 ^ 128 - 2
ipv6_source = refl

-- ---- the mask rule: a mask of the IPv4 flags, all three or two of them

flags_mask : ℕ → ℕ → SelectorParts
flags_mask flags bits = selector_with Ipv4 flags (replicate 6 0 ++ bits ∷ replicate 13 0)

-- without PARTIAL_MASK all three may be asked for, or none, and not two of them
whole_fields : map (λ bits. is_allowed (flags_mask 0 224) (flags_mask 0 bits)) (224 ∷ 0 ∷ 192 ∷ []) ≡ true ∷ true ∷ false ∷ []
unfolding is_allowed flags_mask
whole_fields = refl

-- PARTIAL_MASK is the lowest bit of the capability's flags byte, whatever the others are, and not of the asking one's
lowest_flag : map (λ flags. is_allowed (flags_mask flags 224) (flags_mask 1 192)) (131 ∷ 130 ∷ []) ≡ true ∷ false ∷ []
unfolding is_allowed flags_mask
lowest_flag = refl

-- the fragment offset's first bit stands in the same byte
another_field : is_allowed (flags_mask 1 224) (flags_mask 0 240) ≡ false
unfolding is_allowed flags_mask
another_field = refl

-- ---- objects: two groups, of priorities 9 and 3, a classifier, and rules of one key

queue_rule : ℕ → ℕ → ℕ → RuleParts
queue_rule group priority vq = rule_with group 1 priority rule_action.Queue vq ip_key

objects : FlowObjects
objects = record {
  groups = (1, 9) ∷ (2, 3) ∷ [];
  classifiers = (1, by_type ∷ []) ∷ [];
  rules = (5, queue_rule 1 0 2) ∷ (6, queue_rule 2 7 4) ∷ (7, queue_rule 2 7 6) ∷ [];
}

-- the group's smaller priority comes before the rule's, and then the smaller id
lesser_group_first : action_of objects (headers_of frame) ≡ action.Queue 2
unfolding action_of first_rule rule_matches matches fits headers_of frame by_type ip_key objects queue_rule
lesser_group_first = refl

no_rule_matches : action_of objects (headers_of []) ≡ action.Default
unfolding action_of first_rule rule_matches matches fits headers_of by_type ip_key objects queue_rule
no_rule_matches = refl

-- ---- changes

limits : Limits
limits = record { groups = 2; classifiers = 1; rules = 4; per_group = 4; last_priority = 255; selectors = 3 }

taken_priority : is_sound limits objects (PutGroup 1 3) ≡ false
unfolding is_sound limits objects
taken_priority = refl

same_priority_again : is_sound limits objects (PutGroup 1 9) ≡ true
unfolding is_sound limits objects
same_priority_again = refl

no_room : is_sound limits objects (PutGroup 3 5) ≡ false
unfolding is_sound limits objects
no_room = refl

named_group : is_sound limits objects (DropGroup 2) ≡ false
unfolding is_sound limits objects queue_rule
named_group = refl

named_classifier : is_sound limits objects (PutClassifier 1 (by_type ∷ [])) ≡ false
unfolding is_sound limits objects queue_rule
named_classifier = refl

short_key : is_sound limits objects (PutRule 8 (rule_with 1 1 0 rule_action.Drop 0 (replicate 13 0))) ≡ false
unfolding is_sound limits objects by_type
short_key = refl

history : List Change
history = PutGroup 1 9 ∷ PutGroup 2 9 ∷ PutClassifier 1 (by_type ∷ []) ∷ PutRule 5 (queue_rule 1 0 2) ∷ DropGroup 1 ∷ DropRule 5 ∷ DropGroup 1 ∷ Close ∷ []

unsound_left_out : after limits history 5 ≡ record { groups = (1, 9) ∷ []; classifiers = (1, by_type ∷ []) ∷ []; rules = (5, queue_rule 1 0 2) ∷ [] }
unfolding after step is_sound with_change_made limits history queue_rule by_type ip_key
unsound_left_out = refl

dropped : after limits history 8 ≡ record { groups = []; classifiers = (1, by_type ∷ []) ∷ []; rules = [] }
unfolding after step is_sound with_change_made limits history queue_rule by_type ip_key
dropped = refl

close_is_no_change : change_count history ≡ 7
unfolding history
close_is_no_change = refl

count_stands_still : saturated (2 ^ 64) ≡ 2 ^ 64 - 1
count_stands_still = refl
