-- Facts about good shape: its tests decide it, and a list of good shape has at most three selectors and a key of at most 74
-- bytes.
use Rattle.std.proofs.Common.{◌≡◌, ◌≢◌, ℕ, ◌+◌, ◌/◌, ◌<◌, ◌≤◌, Bool, true, false, not, ◌&&◌, ◌||◌, cond, List, [], ◌∷◌, length, eqb, refl, arith, Some, None, Ok, Err}
use Rattle.std.specs.Cmp.{nat_eq_equiv}
use Rattle.std.proofs.lemmas.Bool.Decides.{nat_tests}
use Rattle.std.proofs.lemmas.List.Sums.{sum_by-cons}
use Rattle.std.proofs.lemmas.Map.Views.{list_any-from_Contains, Contains-from_any}
use Rattle.ff_headers.specs.Kinds.{kind_code, kind_size}
use Rattle.ff_headers.specs.SelectorParts.{SelectorParts}
use Rattle.ff_headers.specs.Shapes.{codes_of, rises, has_kind, Names, HasShape, shape_fault, shaped}
use Rattle.ff_headers.specs.Matching.{key_size}
use Rattle.ff_headers.specs.declared.kind.Kind.{Kind}
use Rattle.ff_headers.specs.declared.kind.Kind.TheVariants.{Eth, Ipv4, Ipv6, Tcp, Udp}
use Rattle.ff_headers.specs.declared.error.ShapeErr.{ShapeErr}
use Rattle.ff_headers.specs.declared.error.ShapeErr.TheVariants.{Empty, Order, BothIp, BothPorts}
use Rattle.ff_headers.proofs.Rising.{rises-from_increasing, increasing_from_rises, rises_parts}

-- what the tests of good shape say of a list, beside that it isn't empty
pub record Passes (list : List SelectorParts) : Type 0 where
  pub rising : rises (codes_of list) ≡ true
  pub one_ip : (has_kind Ipv4 list && has_kind Ipv6 list) ≡ false
  pub one_ports : (has_kind Tcp list && has_kind Udp list) ≡ false

-- ---- the tests decide good shape

both_false : (a b : Bool) → (a ≡ true → b ≡ true → ⊥) → (a && b) ≡ false
both_false true true h = absurd (h refl refl)
both_false true false h = refl
both_false false b h = refl

not_both : (a b : Bool) → (a && b) ≡ false → a ≡ true → b ≡ true → ⊥
not_both true true h p q = cc
not_both true false h p q = cc
not_both false b h p q = cc

same_number : (x y : ℕ) → eqb x y ≡ true → x ≡ y
same_number x y h = grind (arith, nat_tests)

named : (kind : Kind) (list : List SelectorParts) → has_kind kind list ≡ true → Names list kind
named kind list h = Contains-from_any {eq = eqb} same_number (kind_code kind) (codes_of list) h

has-named : (kind : Kind) (list : List SelectorParts) → Names list kind → has_kind kind list ≡ true
has-named kind list h = list_any-from_Contains nat_eq_equiv (kind_code kind) (codes_of list) h

pub passes_from_shape : (list : List SelectorParts) → HasShape list → Passes list
passes_from_shape list h = record {
  rising = rises-from_increasing (codes_of list) h.rising;
  one_ip = both_false _ _ (λ a b. h.one_ip (named Ipv4 list a) (named Ipv6 list b));
  one_ports = both_false _ _ (λ a b. h.one_ports (named Tcp list a) (named Udp list b));
}

pub shape_from_passes : (list : List SelectorParts) → list ≢ [] → Passes list → HasShape list
shape_from_passes list some h = record {
  some_selector = some;
  rising = increasing_from_rises (codes_of list) h.rising;
  one_ip = λ a b. not_both _ _ h.one_ip (has-named Ipv4 list a) (has-named Ipv6 list b);
  one_ports = λ a b. not_both _ _ h.one_ports (has-named Tcp list a) (has-named Udp list b);
}

-- ---- the length and the key size

-- the greatest key size of selectors that begin with a kind
room : Kind → ℕ
room Eth = 74
room Ipv4 = 60
room Ipv6 = 60
room Tcp = 20
room Udp = 20

within_room : (kind : Kind) → (kind_size kind ≤ room kind) × (1 ≤ kind_code kind) × (kind_code kind ≤ 5)
unfolding room
within_room Eth = (omega arith, omega arith, omega arith)
within_room Ipv4 = (omega arith, omega arith, omega arith)
within_room Ipv6 = (omega arith, omega arith, omega arith)
within_room Tcp = (omega arith, omega arith, omega arith)
within_room Udp = (omega arith, omega arith, omega arith)

room_below : (kind : Kind) → room kind ≤ 74
unfolding room
room_below Eth = omega arith
room_below Ipv4 = omega arith
room_below Ipv6 = omega arith
room_below Tcp = omega arith
room_below Udp = omega arith

-- a kind of a later layer leaves room for the earlier one: Ethernet, then IP, then ports
next_room : (a b : Kind) → kind_code a / 2 < kind_code b / 2 → kind_size a + room b ≤ room a
unfolding room
next_room Eth Eth h = absurd (omega (arith, h))
next_room Eth Ipv4 h = omega arith
next_room Eth Ipv6 h = omega arith
next_room Eth Tcp h = omega arith
next_room Eth Udp h = omega arith
next_room Ipv4 Eth h = absurd (omega (arith, h))
next_room Ipv4 Ipv4 h = absurd (omega (arith, h))
next_room Ipv4 Ipv6 h = absurd (omega (arith, h))
next_room Ipv4 Tcp h = omega arith
next_room Ipv4 Udp h = omega arith
next_room Ipv6 Eth h = absurd (omega (arith, h))
next_room Ipv6 Ipv4 h = absurd (omega (arith, h))
next_room Ipv6 Ipv6 h = absurd (omega (arith, h))
next_room Ipv6 Tcp h = omega arith
next_room Ipv6 Udp h = omega arith
next_room Tcp b h = let w = within_room b in absurd (omega arith)
next_room Udp b h = let w = within_room b in absurd (omega arith)

-- types that rise, other than the two of one layer, are of rising layers
next_layer : (a b : ℕ) → 1 ≤ a → b ≤ 5 → a < b → (a ≡ 2 → b ≡ 3 → ⊥) → (a ≡ 4 → b ≡ 5 → ⊥) → a / 2 < b / 2
next_layer a b lo hi lt ip ports = grind arith

front_apart : (p q a b : ℕ) (x y : Bool) → ((eqb p a || (eqb p b || x)) && (eqb q a || (eqb q b || y))) ≡ false → a ≡ p → b ≡ q → ⊥
front_apart p q a b x y h e f = grind (arith, nat_tests)

tail_false : (p q x y : Bool) → ((p || x) && (q || y)) ≡ false → (x && y) ≡ false
tail_false p q false y h = refl
tail_false p q true false h = refl
tail_false true true true true h = h
tail_false true false true true h = h
tail_false false true true true h = h
tail_false false false true true h = h

tail_passes : (s t : SelectorParts) (ss : List SelectorParts) → Passes (s ∷ t ∷ ss) → Passes (t ∷ ss)
tail_passes s t ss h = record {
  rising = (rises_parts (kind_code s.kind) (kind_code t.kind) (codes_of ss) h.rising).1;
  one_ip = tail_false (eqb 2 (kind_code s.kind)) (eqb 3 (kind_code s.kind)) (has_kind Ipv4 (t ∷ ss)) (has_kind Ipv6 (t ∷ ss)) h.one_ip;
  one_ports = tail_false (eqb 4 (kind_code s.kind)) (eqb 5 (kind_code s.kind)) (has_kind Tcp (t ∷ ss)) (has_kind Udp (t ∷ ss)) h.one_ports;
}

key_size-cons : (s : SelectorParts) (ss : List SelectorParts) → key_size (s ∷ ss) ≡ kind_size s.kind + key_size ss
key_size-cons s ss = sum_by-cons (λ (t : SelectorParts). kind_size t.kind) s ss

bounds : (s : SelectorParts) (ss : List SelectorParts) → Passes (s ∷ ss) → (length ss + kind_code s.kind / 2 ≤ 2) × (key_size (s ∷ ss) ≤ room s.kind)
bounds s [] h =
    let w = within_room s.kind in
    let sum = key_size-cons s [] in
    (omega arith, omega arith)
bounds s (t ∷ ss) h =
    let later = bounds t ss (tail_passes s t ss h) in
    let w = within_room s.kind in
    let v = within_room t.kind in
    let lt = (rises_parts (kind_code s.kind) (kind_code t.kind) (codes_of ss) h.rising).0 in
    let layers = next_layer (kind_code s.kind) (kind_code t.kind) w.1 v.2 lt (front_apart 2 3 (kind_code s.kind) (kind_code t.kind) (has_kind Ipv4 ss) (has_kind Ipv6 ss) h.one_ip) (front_apart 4 5 (kind_code s.kind) (kind_code t.kind) (has_kind Tcp ss) (has_kind Udp ss) h.one_ports) in
    let space = next_room s.kind t.kind layers in
    let sum = key_size-cons s (t ∷ ss) in
    (omega arith, omega arith)

-- a list of good shape has at most three selectors, and its key at most 74 bytes
pub short_from_shape : (list : List SelectorParts) → HasShape list → (length list ≤ 3) × (key_size list ≤ 74)
short_from_shape [] h = absurd (h.some_selector refl)
short_from_shape (s ∷ ss) h =
    let b = bounds s ss (passes_from_shape (s ∷ ss) h) in
    let w = room_below s.kind in
    (omega arith, omega arith)

-- ---- the first fault

empty_apart : (list : List SelectorParts) → eqb (length list) 0 ≡ false → list ≢ []
empty_apart [] h = absurd cc
empty_apart (s ∷ ss) h = λ e. cc

not_empty : (list : List SelectorParts) → list ≢ [] → eqb (length list) 0 ≡ false
not_empty [] h = absurd (h refl)
not_empty (s ∷ ss) h = grind (arith, nat_tests)

no_fault : (a b c d : Bool) → cond a (Some Empty) (cond (not b) (Some Order) (cond c (Some BothIp) (cond d (Some BothPorts) None))) ≡ None → (a ≡ false) × (b ≡ true) × (c ≡ false) × (d ≡ false)
no_fault true b c d h = absurd cc
no_fault false false c d h = absurd cc
no_fault false true true d h = absurd cc
no_fault false true false true h = absurd cc
no_fault false true false false h = (refl, refl, refl, refl)

none_at : (a b c d : Bool) → a ≡ false → b ≡ true → c ≡ false → d ≡ false → cond a (Some Empty) (cond (not b) (Some Order) (cond c (Some BothIp) (cond d (Some BothPorts) None))) ≡ None
none_at a b c d p q r t = rw (p, q, r, t) refl

pub shape_from_no_fault : (list : List SelectorParts) → shape_fault list ≡ None → HasShape list
unfolding shape_fault
shape_from_no_fault list h =
    let t = no_fault _ _ _ _ h in
    shape_from_passes list (empty_apart list t.0) (record { rising = t.1; one_ip = t.2; one_ports = t.3 })

pub no_fault_from_shape : (list : List SelectorParts) → HasShape list → shape_fault list ≡ None
unfolding shape_fault
no_fault_from_shape list h =
    let p = passes_from_shape list h in
    none_at _ _ _ _ (not_empty list h.some_selector) p.rising p.one_ip p.one_ports

pub shaped_by_fault : (list : List SelectorParts) (fault : ShapeErr) → shape_fault list ≡ Some fault → shaped list ≡ Err fault
unfolding shaped
shaped_by_fault list fault h = rw h refl

pub shaped_by_none : (list : List SelectorParts) → shape_fault list ≡ None → shaped list ≡ Ok list
unfolding shaped
shaped_by_none list h = rw h refl

-- what the code of a classifier's list takes from the first fault
pub ruleset shaping = (shaped_by_fault, shaped_by_none, shape_from_no_fault, no_fault_from_shape, short_from_shape)
